-- Texts that grow line by line.
use Rattle.std.proofs.Common.{◌≡◌, ◌<◌, ◌≤◌, ◌==◌, ℕ, suc, ◌+◌, ◌-◌, ◌*◌, ◌%◌, Bool, true, false, cond, List, [], ◌∷◌, ◌++◌, length, get_or, drop, map, flat_map, refl, sym, ap, ◌∙◌, arith, append_assoc, eq-eqb}
use Rattle.std.proofs.lemmas.Bool.Decides.{nat_tests}
use Rattle.std.proofs.lemmas.List.{append-nil, at_drop_more}
use Rattle.std.proofs.lemmas.List.Concat.{flat_map-append}
use Rattle.rand_pcg.specs.Lcg.{Lcg}
use Rattle.ch_generated.specs.Draws.{after}
use Rattle.ch_generated.specs.ScheduleText.{after_step, step_line, steps_text}
use Rattle.ch_generated.specs.TableText.{part_from, part_text, row_line, t_fields, u_header, u_row, u_rows}
use Rattle.ch_generated.specs.declared.table_text.TableRow.{TableRow}
use Rattle.ch_generated.proofs.DrawLemmas.{u_rows_more}

-- a part with one more row
part_more : (header : List ℕ) (rows : List (List ℕ)) (row : List ℕ) → part_text header (rows ++ row ∷ []) ≡ part_text header rows ++ row_line row
part_more header rows row =
    ap (λ (t : List ℕ). header ++ t) (flat_map-append row_line rows (row ∷ []) ∙ ap (λ (t : List ℕ). flat_map row_line rows ++ t) (append-nil (row_line row)))
    ∙ sym (append_assoc header (flat_map row_line rows) (row_line row))

pub u_more : (n : ℕ) (g h : Lcg) (old new : List ℕ) → h ≡ after (2 * n) g → old ≡ part_text u_header (u_rows n g) → new ≡ old ++ row_line (u_row h)
    → new ≡ part_text u_header (u_rows (n + 1) g)
u_more n g h old new at was is =
    is ∙ ap (λ (t : List ℕ). t ++ row_line (u_row h)) was ∙ ap (λ (k : Lcg). part_text u_header (u_rows n g) ++ row_line (u_row k)) at
    ∙ sym (part_more u_header (u_rows n g) (u_row (after (2 * n) g))) ∙ ap (part_text u_header) (sym (u_rows_more n g))

-- the steps that are left, one fewer
steps_one : (w n : ℕ) (g : Lcg) → steps_text w (suc n) g ≡ step_line w g ++ steps_text w n (after_step g)
unfolding steps_text
steps_one w n g = refl

pub steps_more : (w n : ℕ) (g h : Lcg) (old new all : List ℕ) → n < 1000 → new ≡ old ++ step_line w g → h ≡ after_step g
    → old ++ steps_text w (1000 - n) g ≡ all → new ++ steps_text w (1000 - (n + 1)) h ≡ all
steps_more w n g h old new all lt is at was =
    let left : 1000 - n ≡ suc (1000 - (n + 1)) = omega arith in
    ap (λ (t : List ℕ). t ++ steps_text w (1000 - (n + 1)) h) is ∙ append_assoc old (step_line w g) (steps_text w (1000 - (n + 1)) h)
    ∙ ap (λ (k : Lcg). old ++ (step_line w g ++ steps_text w (1000 - (n + 1)) k)) at
    ∙ ap (λ (t : List ℕ). old ++ t) (sym (steps_one w (1000 - (n + 1)) g) ∙ ap (λ (k : ℕ). steps_text w k g) (sym left)) ∙ was

pub steps_end : (w n : ℕ) (g : Lcg) (old all : List ℕ) → 1000 ≤ n → old ++ steps_text w (1000 - n) g ≡ all → old ≡ all
unfolding steps_text
steps_end w n g old all le was =
    let none : 1000 - n ≡ 0 = omega arith in
    sym (append-nil old) ∙ ap (λ (k : ℕ). old ++ steps_text w k g) (sym none) ∙ was

-- the lines of the rows of a part
abbrev pub lines_from : ℕ → ℕ → List TableRow → List ℕ
lines_from part place rows = flat_map row_line (map t_fields (part_from part place rows))

lines_cons : (b : Bool) (row : TableRow) (rest : List TableRow) (part place : ℕ) → (place % 4 == part) ≡ b
    → lines_from part place (row ∷ rest) ≡ cond b (row_line (t_fields row) ++ lines_from part (place + 1) rest) (lines_from part (place + 1) rest)
lines_cons true row rest part place e = rw e refl
lines_cons false row rest part place e = rw e refl

-- a row that is in the part, and one that isn't
pub lines_in : (part place : ℕ) (rows : List TableRow) (d : TableRow) (old new all : List ℕ) → place < length rows → place % 4 ≡ part
    → new ≡ old ++ row_line (t_fields (get_or rows place d)) → old ++ lines_from part place (drop place rows) ≡ all → new ++ lines_from part (place + 1) (drop (place + 1) rows) ≡ all
lines_in part place rows d old new all lt at e was =
    let row : TableRow = get_or rows place d in
    let rest : List TableRow = drop (place + 1) rows in
    ap (λ (t : List ℕ). t ++ lines_from part (place + 1) rest) e ∙ append_assoc old (row_line (t_fields row)) (lines_from part (place + 1) rest)
    ∙ ap (λ (t : List ℕ). old ++ t) (sym (lines_cons true row rest part place (eq-eqb (place % 4) part at))) ∙ sym (at_drop_more (λ (rs : List TableRow). old ++ lines_from part place rs) rows place d lt) ∙ was

pub lines_out : (part place : ℕ) (rows : List TableRow) (d : TableRow) (old new all : List ℕ) → place < length rows → (place % 4 ≡ part → ⊥)
    → new ≡ old → old ++ lines_from part place (drop place rows) ≡ all → new ++ lines_from part (place + 1) (drop (place + 1) rows) ≡ all
lines_out part place rows d old new all lt at e was =
    let row : TableRow = get_or rows place d in
    let rest : List TableRow = drop (place + 1) rows in
    let test : (place % 4 == part) ≡ false = grind (arith, nat_tests) in
    ap (λ (t : List ℕ). t ++ lines_from part (place + 1) rest) e
    ∙ ap (λ (t : List ℕ). old ++ t) (sym (lines_cons false row rest part place test)) ∙ sym (at_drop_more (λ (rs : List TableRow). old ++ lines_from part place rs) rows place d lt) ∙ was
