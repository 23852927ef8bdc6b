-- Tables of small numbers.
use Rattle.std.proofs.Common.{◌≡◌, ◌<◌, ◌≤◌, ◌+◌, ◌*◌, ◌%◌, ◌++◌, ◌==◌, ℕ, zero, suc, Bool, true, false, cond, List, [], ◌∷◌, Option, Some, None, refl, sym, ◌∙◌, ap, ap₂, subst, arith, codes, length, length-append, get_or, map, eq-eqb, lit<}
use Rattle.std.specs.Prelude.{pos, sum_by, nat_lt, Ok, is_some}
use Rattle.std.specs.Fmt.{decimal}
use Rattle.std.specs.List.{AllByRecursion, list_all, range_with_len}
use Rattle.std.specs.Option.{option_or}
use Rattle.std.proofs.lemmas.List.{append-nil, length-map, map-append}
use Rattle.std.proofs.lemmas.List.Sums.{sum_by-cons}
use Rattle.std.proofs.lemmas.List.FromFn.{length-map-range_with_len}
use Rattle.std.proofs.lemmas.Bool.Decides.{nat_tests}
use Rattle.rand_pcg.specs.Lcg.{Lcg}
use Rattle.ch_cells.specs.Number.{number_of}
use Rattle.ch_cells.specs.declared.cell.Cell.{Cell}
use Rattle.ch_cells.specs.declared.cell.Cell.TheVariants as cell
use Rattle.ch_cells.specs.declared.cell.Kind.{Kind}
use Rattle.ch_cells.specs.declared.cell.Kind.TheVariants as kind
use Rattle.ch_cells.proofs.Spelling.{law}
use Rattle.ch_generated.specs.Draws.{after}
use Rattle.ch_generated.specs.TableText.{part_from, t_fields, t_part_text, t_row, t_rows, u_row, u_rows, u_text}
use Rattle.ch_generated.specs.declared.TableRow.{TableRow}
use Rattle.ch_tables.specs.Records.{records_of}
use Rattle.ch_tables.specs.Refusal.{refusal, rows_refusal}
use Rattle.ch_tables.specs.Table.{cell_as, column_of, is_number, kind_of, kinds_of, row_as, table_from, table_of, table_or}
use Rattle.ch_tables.specs.TableValue.{TableValue}
use Rattle.ch_tables.specs.declared.Room.{Room}
use Rattle.ch_tables.specs.declared.TableError.{TableError}
use Rattle.ch_generated_laws.specs.Tables.{cells_of, t_table, t_texts, u_table}
use Rattle.ch_generated_laws.proofs.Records.{AreRows, IsRow, IsSmall, decimals, t_names, t_records, u_names, u_records}

-- Numbers that are spelled are read.
number_back : (n : ℕ) → n < 1000000 → number_of (decimal n) ≡ Some (pos n)
number_back n h = (law (pos n) (decimal n)).1 (record { range = omega arith; spelled = refl })

cell_back : (n : ℕ) → n < 1000000 → cell_as kind.Number (decimal n) ≡ cell.Number (pos n)
cell_back n h = rw (number_back n h) refl

-- Kinds of columns: each is of numbers.
abbrev numbers : ℕ → List Kind
numbers zero = []
numbers (suc n) = kind.Number ∷ numbers n

row_cells : (row : List ℕ) → AllByRecursion IsSmall row → row_as (numbers (length row)) (map decimal row) ≡ cells_of row
row_cells [] small = refl
row_cells (n ∷ ns) small = ap₂ (λ (c : Cell) (cs : List Cell). c ∷ cs) (cell_back n small.0) (row_cells ns small.1)

rows_cells : (width : ℕ) (rows : List (List ℕ)) → AreRows width rows → map (row_as (numbers width)) (decimals rows) ≡ map cells_of rows
rows_cells width [] are = refl
rows_cells width (row ∷ rows) are =
    ap₂ (λ (c : List Cell) (cs : List (List Cell)). c ∷ cs) (ap (λ (w : ℕ). row_as (numbers w) (map decimal row)) (sym are.0.wide) ∙ row_cells row are.0.small) (rows_cells width rows are.1)

cell_number : (row : List ℕ) (at : ℕ) → AllByRecursion IsSmall row → at < length row → is_number (get_or (map decimal row) at []) ≡ true
cell_number [] at small h = absurd (omega arith)
cell_number (n ∷ ns) zero small h = ap is_some (number_back n small.0)
cell_number (n ∷ ns) (suc at) small h = cell_number ns at small.1 (omega arith)

column_numbers : (width at : ℕ) (rows : List (List ℕ)) → AreRows width rows → at < width → list_all is_number (column_of (decimals rows) at) ≡ true
column_numbers width at [] are h = refl
column_numbers width at (row ∷ rows) are h =
    let w = are.0.wide in
    rw (cell_number row at are.0.small (omega arith), column_numbers width at rows are.1 h) refl

kind_is : (width at : ℕ) (rows : List (List ℕ)) → AreRows width rows → at < width → 0 < length rows → kind_of (column_of (decimals rows) at) ≡ kind.Number
kind_is width at [] are h some = absurd (omega arith)
kind_is width at (row ∷ rows) are h some = rw (column_numbers width at (row ∷ rows) are h) refl

-- No row is refused, where there is room.
abbrev HaveWidth : ℕ → List (List (List ℕ)) → Type 0
HaveWidth width body = AllByRecursion (λ (fields : List (List ℕ)). length fields ≡ width) body

decimals_width : (width : ℕ) (rows : List (List ℕ)) → AreRows width rows → HaveWidth width (decimals rows)
decimals_width width [] are = tt
decimals_width width (row ∷ rows) are = (length-map row decimal ∙ are.0.wide, decimals_width width rows are.1)

sum_cons : (fields : List (List ℕ)) (more : List (List (List ℕ))) → sum_by length (fields ∷ more) ≡ length fields + sum_by length more
sum_cons fields more = sum_by-cons length fields more

not_refused : (room : Room) (part width row rows cells : ℕ) (body : List (List (List ℕ))) → HaveWidth width body → rows + length body ≤ room.rows → cells + sum_by length body ≤ room.cells
    → rows_refusal room part width row rows cells body ≡ None
not_refused room part width row rows cells [] wide r c = refl
not_refused room part width row rows cells (fields ∷ more) wide r c =
    let w = wide.0 in
    let sums = sum_cons fields more in
    let few : nat_lt room.rows (rows + 1) ≡ false = grind (arith, nat_tests) in
    let small : nat_lt room.cells (cells + width) ≡ false = grind (arith, nat_tests) in
    rw (eq-eqb (length fields) width w, few, small) (not_refused room part width (row + 1) (rows + 1) (cells + width) more wide.1 (omega arith) (omega arith))

cells_3 : (body : List (List (List ℕ))) → HaveWidth 3 body → sum_by length body ≡ 3 * length body
cells_3 [] wide = refl
cells_3 (fields ∷ more) wide = let w = wide.0 in let sums = sum_cons fields more in let m = cells_3 more wide.1 in omega arith

cells_2 : (body : List (List (List ℕ))) → HaveWidth 2 body → sum_by length body ≡ 2 * length body
cells_2 [] wide = refl
cells_2 (fields ∷ more) wide = let w = wide.0 in let sums = sum_cons fields more in let m = cells_2 more wide.1 in omega arith

-- Four parts of rows of three numbers.
pub record AreParts (room : Room) (a b c d : List (List ℕ)) : Type 0 where
  first : AreRows 3 a
  second : AreRows 3 b
  third : AreRows 3 c
  fourth : AreRows 3 d
  some : 0 < length a
  rows : length a + length b + length c + length d ≤ room.rows
  cells : 3 * (length a + length b + length c + length d) ≤ room.cells

none_of_four : (a b c d : Option TableError) → a ≡ None → b ≡ None → c ≡ None → d ≡ None → option_or a (option_or b (option_or c (option_or d None))) ≡ None
none_of_four a b c d p q r s = rw (p, q, r, s) refl

abbrev parts_of : List (List ℕ) → List (List ℕ) → List (List ℕ) → List (List ℕ) → List (List (List (List ℕ)))
parts_of a b c d = (t_names ∷ decimals a) ∷ (t_names ∷ decimals b) ∷ (t_names ∷ decimals c) ∷ (t_names ∷ decimals d) ∷ []

four_not_refused : (room : Room) (a b c d : List (List ℕ)) → AreParts room a b c d → refusal room (parts_of a b c d) ≡ None
four_not_refused room a b c d are =
    let la = length-map a (map decimal) in
    let lb = length-map b (map decimal) in
    let lc = length-map c (map decimal) in
    let ld = length-map d (map decimal) in
    let wa = decimals_width 3 a are.first in
    let wb = decimals_width 3 b are.second in
    let wc = decimals_width 3 c are.third in
    let wd = decimals_width 3 d are.fourth in
    let ca = cells_3 (decimals a) wa in
    let cb = cells_3 (decimals b) wb in
    let cc_ = cells_3 (decimals c) wc in
    let cd = cells_3 (decimals d) wd in
    let r = are.rows in
    let s = are.cells in
    none_of_four _ _ _ _
    (not_refused room 0 3 0 0 0 (decimals a) wa (omega arith) (omega arith))
    (not_refused room 1 3 0 (length (decimals a)) (sum_by length (decimals a)) (decimals b) wb (omega arith) (omega arith))
    (not_refused room 2 3 0 (length (decimals a) + length (decimals b)) (sum_by length (decimals a) + sum_by length (decimals b)) (decimals c) wc (omega arith) (omega arith))
    (not_refused room 3 3 0 (length (decimals a) + length (decimals b) + length (decimals c)) (sum_by length (decimals a) + sum_by length (decimals b) + sum_by length (decimals c)) (decimals d) wd (omega arith) (omega arith))

rows_append : (width : ℕ) (xs ys : List (List ℕ)) → AreRows width xs → AreRows width ys → AreRows width (xs ++ ys)
rows_append width [] ys p q = q
rows_append width (x ∷ xs) ys p q = (p.0, rows_append width xs ys p.1 q)

-- the rows of all parts
all_decimals : (a b c d : List (List ℕ)) → decimals a ++ (decimals b ++ (decimals c ++ (decimals d ++ []))) ≡ decimals (a ++ (b ++ (c ++ (d ++ []))))
all_decimals a b c d =
    sym (map-append (map decimal) a (b ++ (c ++ (d ++ []))) ∙ ap (λ (t : List (List (List ℕ))). decimals a ++ t) (map-append (map decimal) b (c ++ (d ++ []))
    ∙ ap (λ (t : List (List (List ℕ))). decimals b ++ t) (map-append (map decimal) c (d ++ []) ∙ ap (λ (t : List (List (List ℕ))). decimals c ++ t) (map-append (map decimal) d []))))

three_kinds : (rows : List (List ℕ)) → AreRows 3 rows → 0 < length rows → kinds_of 3 (decimals rows) ≡ numbers 3
three_kinds rows are some =
    let k0 = kind_is 3 0 rows are (lit< tt) some in
    let k1 = kind_is 3 1 rows are (lit< tt) some in
    let k2 = kind_is 3 2 rows are (lit< tt) some in
    rw (k0, k1, k2) refl

four_kinds : (room : Room) (a b c d : List (List ℕ)) → AreParts room a b c d → kinds_of 3 (decimals a ++ (decimals b ++ (decimals c ++ (decimals d ++ [])))) ≡ numbers 3
four_kinds room a b c d are =
    let all = rows_append 3 a (b ++ (c ++ (d ++ []))) are.first (rows_append 3 b (c ++ (d ++ [])) are.second (rows_append 3 c (d ++ []) are.third (rows_append 3 d [] are.fourth tt))) in
    let l = length-append a (b ++ (c ++ (d ++ []))) in
    let s = are.some in
    ap (kinds_of 3) (all_decimals a b c d) ∙ three_kinds (a ++ (b ++ (c ++ (d ++ [])))) all (omega arith)

abbrev table_of_four : List (List ℕ) → List (List ℕ) → List (List ℕ) → List (List ℕ) → TableValue
table_of_four a b c d = record { name = codes "t"; header = t_names; kinds = numbers 3; parts = map cells_of a ∷ map cells_of b ∷ map cells_of c ∷ map cells_of d ∷ [] }

abbrev with_kinds : List (List ℕ) → List (List ℕ) → List (List ℕ) → List (List ℕ) → List Kind → TableValue
with_kinds a b c d kinds = record { name = codes "t"; header = t_names; kinds = kinds; parts = map (row_as kinds) (decimals a) ∷ map (row_as kinds) (decimals b) ∷ map (row_as kinds) (decimals c) ∷ map (row_as kinds) (decimals d) ∷ [] }

four_table : (room : Room) (a b c d : List (List ℕ)) → AreParts room a b c d → table_from (codes "t") (parts_of a b c d) ≡ table_of_four a b c d
four_table room a b c d are =
    let ra = rows_cells 3 a are.first in
    let rb = rows_cells 3 b are.second in
    let rc = rows_cells 3 c are.third in
    let rd = rows_cells 3 d are.fourth in
    ap (with_kinds a b c d) (four_kinds room a b c d are) ∙ rw (ra, rb, rc, rd) refl

-- The rows that are drawn.
abbrev pub IsSmallRow : TableRow → Type 0
IsSmallRow row = IsRow 3 (t_fields row)

t_row_small : (g : Lcg) → IsSmallRow (t_row g)
unfolding t_row
t_row_small g = record { wide = refl; small = (omega arith, (omega arith, (omega arith, tt))) }

rows_small_from : (g : Lcg) (places : List ℕ) → AllByRecursion IsSmallRow (map (λ r. t_row (after (3 * r) g)) places)
rows_small_from g [] = tt
rows_small_from g (r ∷ rs) = (t_row_small (after (3 * r) g), rows_small_from g rs)

pub t_rows_small : (n : ℕ) (g : Lcg) → AllByRecursion IsSmallRow (t_rows n g)
unfolding t_rows
t_rows_small n g = rows_small_from g (range_with_len 0 n)

pub t_rows_len : (n : ℕ) (g : Lcg) → length (t_rows n g) ≡ n
unfolding t_rows
t_rows_len n g = length-map-range_with_len (λ r. t_row (after (3 * r) g)) 0 n

-- one row more for a part that it is in
part_cons : (b : Bool) (part place : ℕ) (row : TableRow) (rows : List TableRow) → (place % 4 == part) ≡ b → part_from part place (row ∷ rows) ≡ cond b (row ∷ part_from part (place + 1) rows) (part_from part (place + 1) rows)
part_cons true part place row rows e = rw e refl
part_cons false part place row rows e = rw e refl

abbrev pub part_fields : ℕ → ℕ → List TableRow → List (List ℕ)
part_fields part place rows = map t_fields (part_from part place rows)

kept_rows : (b : Bool) (row : TableRow) (rest : List TableRow) → IsSmallRow row → AreRows 3 (map t_fields rest) → AreRows 3 (map t_fields (cond b (row ∷ rest) rest))
kept_rows true row rest r are = (r, are)
kept_rows false row rest r are = are

pub part_rows_are : (part place : ℕ) (rows : List TableRow) → AllByRecursion IsSmallRow rows → AreRows 3 (part_fields part place rows)
part_rows_are part place [] small = tt
part_rows_are part place (row ∷ rows) small =
    subst (λ (rs : List TableRow). AreRows 3 (map t_fields rs)) (sym (part_cons (place % 4 == part) part place row rows refl))
    (kept_rows (place % 4 == part) row (part_from part (place + 1) rows) small.0 (part_rows_are part (place + 1) rows small.1))

abbrev one_if : Bool → ℕ
one_if b = cond b 1 0

kept_len : (b : Bool) (row : TableRow) (rest : List TableRow) → length (map t_fields (cond b (row ∷ rest) rest)) ≡ one_if b + length (map t_fields rest)
kept_len true row rest = omega arith
kept_len false row rest = omega arith

part_len : (part place : ℕ) (row : TableRow) (rows : List TableRow) → length (part_fields part place (row ∷ rows)) ≡ one_if (place % 4 == part) + length (part_fields part (place + 1) rows)
part_len part place row rows = ap (λ (rs : List TableRow). length (map t_fields rs)) (part_cons (place % 4 == part) part place row rows refl) ∙ kept_len (place % 4 == part) row (part_from part (place + 1) rows)

one_part : (m : ℕ) → m < 4 → one_if (m == 0) + one_if (m == 1) + one_if (m == 2) + one_if (m == 3) ≡ 1
one_part zero h = refl
one_part (suc zero) h = refl
one_part (suc (suc zero)) h = refl
one_part (suc (suc (suc zero))) h = refl
one_part (suc (suc (suc (suc m)))) h = absurd (omega arith)

-- each row is in one of the four parts
pub parts_len : (place : ℕ) (rows : List TableRow)
    → length (part_fields 0 place rows) + length (part_fields 1 place rows) + length (part_fields 2 place rows) + length (part_fields 3 place rows) ≡ length rows
parts_len place [] = refl
parts_len place (row ∷ rows) =
    let a = part_len 0 place row rows in
    let b = part_len 1 place row rows in
    let c = part_len 2 place row rows in
    let d = part_len 3 place row rows in
    let one = one_part (place % 4) (omega arith) in
    let more = parts_len (place + 1) rows in
    omega arith

first_some : (rows : List TableRow) → 0 < length rows → 0 < length (part_fields 0 0 rows)
first_some [] h = absurd (omega arith)
first_some (row ∷ rows) h = let l = part_len 0 0 row rows in omega arith

pub parts_are : (room : Room) (rows : List TableRow) → AllByRecursion IsSmallRow rows → 0 < length rows → length rows ≤ room.rows → 3 * length rows ≤ room.cells
    → AreParts room (part_fields 0 0 rows) (part_fields 1 0 rows) (part_fields 2 0 rows) (part_fields 3 0 rows)
parts_are room rows small some r c = let l = parts_len 0 rows in record {
  first = part_rows_are 0 0 rows small;
  second = part_rows_are 1 0 rows small;
  third = part_rows_are 2 0 rows small;
  fourth = part_rows_are 3 0 rows small;
  some = first_some rows some;
  rows = omega arith;
  cells = omega arith;
}

part_records : (part : ℕ) (rows : List TableRow) → AllByRecursion IsSmallRow rows → records_of (t_part_text part rows) ≡ t_names ∷ decimals (part_fields part 0 rows)
unfolding t_part_text
part_records part rows small = t_records (part_fields part 0 rows) (part_rows_are part 0 rows small)

texts_records : (rows : List TableRow) → AllByRecursion IsSmallRow rows
    → map records_of (t_texts rows) ≡ parts_of (part_fields 0 0 rows) (part_fields 1 0 rows) (part_fields 2 0 rows) (part_fields 3 0 rows)
texts_records rows small =
    let a = part_records 0 rows small in
    let b = part_records 1 rows small in
    let c = part_records 2 rows small in
    let d = part_records 3 rows small in
    cc

pub t_table_is : (room : Room) (rows : List TableRow) → AllByRecursion IsSmallRow rows → 0 < length rows → length rows ≤ room.rows → 3 * length rows ≤ room.cells
    → table_of (codes "t") room (t_texts rows) ≡ Ok (t_table rows)
unfolding table_of
t_table_is room rows small some r c =
    let are = parts_are room rows small some r c in
    let a = part_fields 0 0 rows in
    let b = part_fields 1 0 rows in
    let c_ = part_fields 2 0 rows in
    let d = part_fields 3 0 rows in
    ap (λ (ps : List (List (List (List ℕ)))). table_or (refusal room ps) (table_from (codes "t") ps)) (texts_records rows small)
    ∙ ap (λ (e : Option TableError). table_or e (table_from (codes "t") (parts_of a b c_ d))) (four_not_refused room a b c_ d are)
    ∙ ap (λ (t : TableValue). table_or None t) (four_table room a b c_ d are)

-- Table u.
rows_2_from : (g : Lcg) (places : List ℕ) → AreRows 2 (map (λ r. u_row (after (2 * r) g)) places)
unfolding u_row
rows_2_from g [] = tt
rows_2_from g (r ∷ rs) = (record { wide = refl; small = (omega arith, (omega arith, tt)) }, rows_2_from g rs)

pub u_rows_are : (n : ℕ) (g : Lcg) → AreRows 2 (u_rows n g)
unfolding u_rows
u_rows_are n g = rows_2_from g (range_with_len 0 n)

pub u_rows_len : (n : ℕ) (g : Lcg) → length (u_rows n g) ≡ n
unfolding u_rows
u_rows_len n g = length-map-range_with_len (λ r. u_row (after (2 * r) g)) 0 n

u_records_are : (g : Lcg) → records_of (u_text g) ≡ u_names ∷ decimals (u_rows 100 g)
unfolding u_text
u_records_are g = u_records (u_rows 100 g) (u_rows_are 100 g)

two_kinds : (rows : List (List ℕ)) → AreRows 2 rows → 0 < length rows → kinds_of 2 (decimals rows ++ []) ≡ numbers 2
two_kinds rows are some =
    let k0 = kind_is 2 0 rows are (lit< tt) some in
    let k1 = kind_is 2 1 rows are (lit< tt) some in
    ap (kinds_of 2) (append-nil (decimals rows)) ∙ rw (k0, k1) refl

one_not_refused : (room : Room) (rows : List (List ℕ)) → AreRows 2 rows → length rows ≤ room.rows → 2 * length rows ≤ room.cells → refusal room ((u_names ∷ decimals rows) ∷ []) ≡ None
one_not_refused room rows are r c =
    let l = length-map rows (map decimal) in
    let w = decimals_width 2 rows are in
    let s = cells_2 (decimals rows) w in
    ap (λ (e : Option TableError). option_or e None) (not_refused room 0 2 0 0 0 (decimals rows) w (omega arith) (omega arith))

abbrev u_with_kinds : List (List ℕ) → List Kind → TableValue
u_with_kinds rows kinds = record { name = codes "u"; header = u_names; kinds = kinds; parts = map (row_as kinds) (decimals rows) ∷ [] }

u_of_cells : List (List ℕ) → List (List Cell) → TableValue
u_of_cells rows cells = record { name = codes "u"; header = u_names; kinds = numbers 2; parts = cells ∷ [] }

pub u_table_is : (room : Room) (g : Lcg) → 100 ≤ room.rows → 200 ≤ room.cells → table_of (codes "u") room (u_text g ∷ []) ≡ Ok (u_table g)
unfolding table_of u_of_cells
u_table_is room g r c =
    let rows = u_rows 100 g in
    let are = u_rows_are 100 g in
    let len = u_rows_len 100 g in
    ap (λ (rs : List (List (List ℕ))). table_or (refusal room (rs ∷ [])) (table_from (codes "u") (rs ∷ []))) (u_records_are g)
    ∙ ap (λ (e : Option TableError). table_or e (table_from (codes "u") ((u_names ∷ decimals rows) ∷ []))) (one_not_refused room rows are (omega arith) (omega arith))
    ∙ ap (λ (kinds : List Kind). Ok (u_with_kinds rows kinds)) (two_kinds rows are (omega arith))
    ∙ ap (λ (cells : List (List Cell)). Ok (u_of_cells rows cells)) (rows_cells 2 rows are)
