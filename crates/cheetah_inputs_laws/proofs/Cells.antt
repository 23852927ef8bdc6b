-- The tables of a request have no more cells than their room.
use Rattle.std.proofs.Common.{◌≡◌, ◌∙◌, ap, sym, refl, subst, ℕ, ◌+◌, ◌*◌, ◌≤◌, Bool, true, false, List, [], ◌∷◌, map, flat_map, length, length-append, add-mul, Option, Some, None, Result, Ok, Err, inl, inr, arith}
use Rattle.std.specs.Cmp.Lexicographic.{pointwise}
use Rattle.std.specs.Option.{option_or}
use Rattle.std.specs.Prelude.{bytes_eq, if◌then◌else◌, nat_lt, slice_index_or, sum_by, ◌==◌}
use Rattle.std.proofs.lemmas.Bool.{eqb-true}
use Rattle.std.proofs.lemmas.Bool.Decides.{nat_tests}
use Rattle.std.proofs.lemmas.List.{length-map}
use Rattle.std.proofs.lemmas.List.Sums.{sum_by-cons}
use Rattle.ch_lists.specs.Members.{Each}
use Rattle.ch_tables.specs.Records.{records_of}
use Rattle.ch_tables.specs.Refusal.{body_of, first_refusal, header_of, later_refusal, part_refusal, refusal, rows_refusal}
use Rattle.ch_tables.specs.Table.{kinds_of, row_as, table_from, table_of, table_or}
use Rattle.ch_tables.specs.TableValue.{TableValue}
use Rattle.ch_tables.specs.declared.Room.{Room}
use Rattle.ch_tables.specs.declared.TableError.{TableError}
use Rattle.ch_tables.specs.declared.TableError.TheVariants as refused
use Rattle.cheetah_inputs.specs.Parts.{TableText}
use Rattle.cheetah_inputs.specs.Tables.{and_more, or_line, room_after, tables_within, with_more}

neither : (a b : Option TableError) → option_or a b ≡ None → (a ≡ None) × (b ≡ None)
neither None b e = (refl, e)
neither (Some x) b e = cc

row_taken : (long rows cells : Bool) (a b c : TableError) (rest : Option TableError)
    → (if long then (if rows then Some a else (if cells then Some b else rest)) else Some c) ≡ None → (long ≡ true) × (cells ≡ false) × (rest ≡ None)
row_taken true false false a b c rest e = (refl, refl, e)
row_taken true false true a b c rest e = cc
row_taken true true cells a b c rest e = cc
row_taken false rows cells a b c rest e = cc

not_past : (room cells : ℕ) → nat_lt room cells ≡ false → cells ≤ room
not_past room cells e = grind (arith, nat_tests)

-- each row has as many cells as the table has columns, and there is room for all of them
abbrev Fit : Room → ℕ → ℕ → List (List (List ℕ)) → Type 0
Fit room width cells body = (sum_by length body ≡ length body * width) × (cells + sum_by length body ≤ room.cells)

rows_fit : (room : Room) (part width row rows cells : ℕ) (body : List (List (List ℕ))) → rows_refusal room part width row rows cells body ≡ None → cells ≤ room.cells → Fit room width cells body
rows_fit room part width row rows cells [] e h = (omega arith, omega (arith, h))
rows_fit room part width row rows cells (fields ∷ more) e h =
    let t = row_taken (length fields == width) (nat_lt room.rows (rows + 1)) (nat_lt room.cells (cells + width)) (refused.TooManyRows part row) (refused.TooManyCells part row)
    (refused.Ragged part row (length fields) width) (rows_refusal room part width (row + 1) (rows + 1) (cells + width) more) e in
    let long : length fields ≡ width = eqb-true (length fields) width t.0 in
    let rest = rows_fit room part width (row + 1) (rows + 1) (cells + width) more t.2 (not_past room.cells (cells + width) t.1) in
    let all = rest.0 in
    let within = rest.1 in
    let sum : sum_by length (fields ∷ more) ≡ length fields + sum_by length more = sum_by-cons length fields more in
    let product : length (fields ∷ more) * width ≡ length more * width + width = omega arith in
    (sum ∙ omega (arith, long, all, product), omega (arith, long, within, sum))

names_taken : (same : Bool) (rest : Option TableError) (a : TableError) → (if same then rest else Some a) ≡ None → rest ≡ None
names_taken true rest a e = e
names_taken false rest a e = cc

part_fits : (room : Room) (header : List (List ℕ)) (part rows cells : ℕ) (records : List (List (List ℕ))) → part_refusal room header part rows cells records ≡ None → cells ≤ room.cells
    → Fit room (length header) cells (body_of records)
part_fits room header part rows cells [] e h = cc
part_fits room header part rows cells (names ∷ body) e h =
    rows_fit room part (length header) 0 rows cells body
    (names_taken (pointwise bytes_eq names header) (rows_refusal room part (length header) 0 rows cells body) (refused.HeaderDiffers part) e) h

-- all rows of some parts
abbrev rows_in : {X : Type 0} → List (List X) → ℕ
rows_in parts = length (flat_map (λ rows. rows) parts)

rows_more : {X : Type 0} (first : List X) (parts : List (List X)) (width : ℕ) → rows_in (first ∷ parts) * width ≡ length first * width + rows_in parts * width
rows_more first parts width = ap (λ n. n * width) (length-append first (flat_map (λ rows. rows) parts)) ∙ add-mul (length first) (rows_in parts) width

later_fit : (room : Room) (header : List (List ℕ)) (part rows cells : ℕ) (parts : List (List (List (List ℕ)))) → later_refusal room header part rows cells parts ≡ None → cells ≤ room.cells
    → cells + rows_in (map body_of parts) * length header ≤ room.cells
later_fit room header part rows cells [] e h = omega (arith, h)
later_fit room header part rows cells (first ∷ parts) e h =
    let n = neither (part_refusal room header part rows cells first)
    (later_refusal room header (part + 1) (rows + length (body_of first)) (cells + sum_by length (body_of first)) parts) e in
    let here = part_fits room header part rows cells first n.0 h in
    let all = here.0 in
    let more = later_fit room header (part + 1) (rows + length (body_of first)) (cells + sum_by length (body_of first)) parts n.1 here.1 in
    omega (arith, all, more, rows_more (body_of first) (map body_of parts) (length header))

first_fits : (room : Room) (records : List (List (List ℕ))) → first_refusal room records ≡ None → Fit room (length (header_of records)) 0 (body_of records)
first_fits room [] e = cc
first_fits room (header ∷ body) e = rows_fit room 0 (length header) 0 0 0 body (neither _ (rows_refusal room 0 (length header) 0 0 0 body) e).1 (omega arith)

all_fit : (room : Room) (parts : List (List (List (List ℕ)))) → refusal room parts ≡ None → rows_in (map body_of parts) * length (header_of (slice_index_or parts 0 [])) ≤ room.cells
all_fit room [] e = omega arith
all_fit room (first ∷ parts) e =
    let n = neither (first_refusal room first) (later_refusal room (header_of first) 1 (length (body_of first)) (sum_by length (body_of first)) parts) e in
    let here = first_fits room first n.0 in
    let all = here.0 in
    let within = here.1 in
    let more = later_fit room (header_of first) 1 (length (body_of first)) (sum_by length (body_of first)) parts n.1 (omega (arith, within)) in
    omega (arith, all, more, rows_more (body_of first) (map body_of parts) (length (header_of first)))

-- ---- tables

-- its rows times its columns
abbrev pub cells_in : TableValue → ℕ
cells_in table = rows_in table.parts * length table.header

same_rows : {X Y : Type 0} (f : X → Y) (parts : List (List X)) → rows_in (map (map f) parts) ≡ rows_in parts
same_rows f [] = refl
same_rows f (rows ∷ parts) = omega (
  arith,
  same_rows f parts,
  length-append (map f rows) (flat_map (λ r. r) (map (map f) parts)),
  length-append rows (flat_map (λ r. r) parts),
  length-map rows f,
)

accepted : (o : Option TableError) (table made : TableValue) → table_or o made ≡ Ok table → (o ≡ None) × (made ≡ table)
accepted None table made e = (refl, cc)
accepted (Some error) table made e = cc

table_fits : (name : List ℕ) (left : Room) (texts : List (List ℕ)) (table : TableValue) → table_of name left texts ≡ Ok table → cells_in table ≤ left.cells
unfolding table_of
table_fits name left texts table e =
    let records = map records_of texts in
    let a = accepted (refusal left records) table (table_from name records) e in
    let fits = all_fit left records a.0 in
    let header = header_of (slice_index_or records 0 []) in
    let bodies = map body_of records in
    let same = ap (λ n. n * length header) (same_rows (row_as (kinds_of (length header) (flat_map (λ body. body) bodies))) bodies) in
    subst (λ (t : TableValue). cells_in t ≤ left.cells) a.1 (omega (arith, fits, same))

abbrev pub IsSmall : TableValue → Type 0
IsSmall table = cells_in table ≤ 32000000

none_small : (tables : List TableValue) → [] ≡ tables → Each IsSmall tables
none_small tables e = subst (Each IsSmall) e (λ t i. absurd i)

one_more : (table : TableValue) (more tables : List TableValue) → IsSmall table → Each IsSmall more → table ∷ more ≡ tables → Each IsSmall tables
one_more table more tables small each e = subst (Each IsSmall) e (λ t i. elim i [
  | inl s ↦ subst IsSmall (sym s) small
  | inr j ↦ each t j
])

pub tables_small : (left : Room) (ts : List TableText) (tables : List TableValue) → left.cells ≤ 32000000 → tables_within left ts ≡ Ok tables → Each IsSmall tables
tables_small left [] tables h e = none_small tables cc
tables_small left (t ∷ ts) tables h e = go (table_of t.name left t.texts) refl e (λ table more. tables_small (room_after left table) ts more (omega (arith, h)))
  where
    behind : (table : TableValue) (rest : Result (List TableValue) (List ℕ)) → IsSmall table → ((more : List TableValue) → rest ≡ Ok more → Each IsSmall more) → and_more table rest ≡ Ok tables → Each IsSmall tables
    behind table (Ok more) small ih e = one_more table more tables small (ih more refl) cc
    behind table (Err line) small ih e = cc

    go : (r : Result TableValue TableError) → table_of t.name left t.texts ≡ r → with_more (or_line t.name r) (λ table. tables_within (room_after left table) ts) ≡ Ok tables
        → ((table : TableValue) (more : List TableValue) → tables_within (room_after left table) ts ≡ Ok more → Each IsSmall more) → Each IsSmall tables
    go (Err error) is e ih = cc
    go (Ok table) is e ih =
        let fits = table_fits t.name left t.texts table is in
        behind table (tables_within (room_after left table) ts) (omega (arith, fits, h)) (ih table) e
