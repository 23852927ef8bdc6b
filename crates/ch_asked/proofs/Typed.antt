-- Each cell of a table that is read is of its column's kind.
use Rattle.std.proofs.Common.{◌≡◌, ℕ, zero, suc, ◌<◌, Bool, true, false, List, [], ◌∷◌, map, length, Option, Some, None, refl, sym, ◌∙◌, ap, inl, inr, subst, arith}
use Rattle.std.specs.Prelude.{Ok, ℤ, pos, ◌&&◌, if◌then◌else◌, flat_map, slice_index_or, is_some}
use Rattle.std.specs.List.{AllByRecursion, list_all, zip}
use Rattle.std.proofs.lemmas.List.{get_or-map, length-map}
use Rattle.std.proofs.lemmas.List.FromFn.{get_or-map-range_with_len, length-map-range_with_len}
use Rattle.std.proofs.lemmas.Slice.Zip.{get_or-zip}
use Rattle.ch_cells.specs.Number.{number_of}
use Rattle.ch_cells.specs.declared.Cell.TheVariants as cell
use Rattle.ch_cells.specs.declared.Kind.{Kind}
use Rattle.ch_cells.specs.declared.Kind.TheVariants as kind
use Rattle.ch_cells.proofs.Spelling.{law}
use Rattle.ch_lists.specs.Members.{In}
use Rattle.ch_lists.proofs.Members.{In-append, In-map, In-map_from, In-left, In-right}
use Rattle.ch_tables.specs.Draft.{all_rows}
use Rattle.ch_tables.specs.Records.{records_of}
use Rattle.ch_tables.specs.Refusal.{body_of, header_of, refusal}
use Rattle.ch_tables.specs.Table.{IsOfKind, cell_as, column_of, is_number, kind_of, kinds_of, number_or_text, row_as, table_from, table_of, table_or}
use Rattle.ch_tables.specs.TableValue.{TableValue}
use Rattle.ch_tables.specs.Whole.{AreWide}
use Rattle.ch_tables.specs.declared.error.Room.{Room}
use Rattle.ch_tables.specs.declared.error.TableError.{TableError}
use Rattle.ch_tables.proofs.AcceptLemmas.{taken_parts}
use Rattle.ch_asked.specs.Suits.{IsTyped, cell_in}

both : (a b : Bool) → (a && b) ≡ true → (a ≡ true) × (b ≡ true)
both true true e = (refl, refl)
both true false e = cc
both false b e = cc

in_all : {X : Type 0} (p : X → Bool) (x : X) (xs : List X) → In x xs → list_all p xs ≡ true → p x ≡ true
in_all p x [] i h = absurd i
in_all p x (y ∷ ys) (inl e) h = ap p e ∙ (both (p y) (list_all p ys) h).0
in_all p x (y ∷ ys) (inr i) h = in_all p x ys i (both (p y) (list_all p ys) h).1

in_wide : {X : Type 0} (P : X → Type 0) (x : X) (xs : List X) → AllByRecursion P xs → In x xs → P x
in_wide P x [] h i = absurd i
in_wide P x (y ∷ ys) h (inl e) = subst P (sym e) h.0
in_wide P x (y ∷ ys) h (inr i) = in_wide P x ys h.1 i

-- a cell of a column of numbers
number_typed : (text : List ℕ) (o : Option ℤ) → number_of text ≡ o → is_some o ≡ true → IsOfKind kind.Number (number_or_text o text)
number_typed text None e s = cc
number_typed text (Some n) e s = ((law n text).0 e).range

text_typed : (column : List (List ℕ)) (text : List ℕ) → In text column → IsOfKind (kind_of column) (cell_as (kind_of column) text)
text_typed [] text i = absurd i
text_typed (t ∷ texts) text i = go (list_all is_number (t ∷ texts)) refl
  where
    go : (b : Bool) → list_all is_number (t ∷ texts) ≡ b → IsOfKind (if b then kind.Number else kind.Text) (cell_as (if b then kind.Number else kind.Text) text)
    go true e = number_typed text (number_of text) refl (in_all is_number text (t ∷ texts) i e)
    go false e = tt

-- a cell of a row that has one for each column
row_typed : (width : ℕ) (rows : List (List (List ℕ))) (fields : List (List ℕ)) (at : ℕ) → In fields rows → length fields ≡ width → at < width
    → IsOfKind (slice_index_or (kinds_of width rows) at kind.Void) (cell_in (row_as (kinds_of width rows) fields) at)
row_typed width rows fields at i wide lt =
    let column = column_of rows at in
    let text = slice_index_or fields at [] in
    let kinds : length (kinds_of width rows) ≡ width = length-map-range_with_len (λ at. kind_of (column_of rows at)) 0 width in
    let kind_is : slice_index_or (kinds_of width rows) at kind.Void ≡ kind_of column = get_or-map-range_with_len (λ at. kind_of (column_of rows at)) 0 width at at kind.Void lt (omega arith) in
    let below : at < length (kinds_of width rows) = omega (arith, kinds, lt) in
    let within : at < length fields = omega (arith, wide, lt) in
    let pair : slice_index_or (zip (kinds_of width rows) fields) at (kind.Void, []) ≡ (slice_index_or (kinds_of width rows) at kind.Void, text) =
    get_or-zip (kinds_of width rows) fields at (kind.Void, []) below within in
    let there : at < length (zip (kinds_of width rows) fields) = zipped (kinds_of width rows) fields at below within in
    let cell_is : cell_in (row_as (kinds_of width rows) fields) at ≡ cell_as (kind_of column) text =
    get_or-map (λ (p : Kind × List ℕ). cell_as p.0 p.1) (zip (kinds_of width rows) fields) at (kind.Void, []) (cell.Number (pos 0)) there
    ∙ (ap (λ (p : Kind × List ℕ). cell_as p.0 p.1) pair ∙ ap (λ k. cell_as k text) kind_is) in
    rw (kind_is, cell_is) (text_typed column text (In-map_from (λ fs. slice_index_or fs at []) fields rows i))
  where
    zipped : {X Y : Type 0} (xs : List X) (ys : List Y) (i : ℕ) → i < length xs → i < length ys → i < length (zip xs ys)
    zipped [] ys i a b = absurd (omega (arith, a))
    zipped (x ∷ xs) [] i a b = absurd (omega (arith, b))
    zipped (x ∷ xs) (y ∷ ys) zero a b = omega arith
    zipped (x ∷ xs) (y ∷ ys) (suc i) a b = let r = zipped xs ys i (omega (arith, a)) (omega (arith, b)) in omega (arith, r)

-- a row of the parts comes of a record of theirs
from_records : {X Y : Type 0} (f : X → Y) (y : Y) (bodies : List (List X)) → In y (flat_map (λ part. part) (map (map f) bodies)) → (x : X) × In x (flat_map (λ body. body) bodies) × (y ≡ f x)
from_records f y [] i = absurd i
from_records f y (b ∷ bodies) i = elim (In-append y (map f b) (flat_map (λ part. part) (map (map f) bodies)) i) [
  | inl j ↦ let m = In-map f y b j in (m.0, In-left m.0 b (flat_map (λ body. body) bodies) m.1, m.2)
  | inr j ↦ let m = from_records f y bodies j in (m.0, In-right m.0 b (flat_map (λ body. body) bodies) m.1, m.2)
]

accepted : (o : Option TableError) (table made : TableValue) → table_or o made ≡ Ok table → (o ≡ None) × (made ≡ table)
accepted None table made e = (refl, cc)
accepted (Some error) table made e = cc

made_typed : (name : List ℕ) (records : List (List (List (List ℕ)))) → AreWide (length (header_of (slice_index_or records 0 []))) (all_rows (map body_of records)) → IsTyped (table_from name records)
made_typed name records wide row i =
    let width = length (header_of (slice_index_or records 0 [])) in
    let rows = all_rows (map body_of records) in
    let m = from_records (row_as (kinds_of width rows)) row (map body_of records) i in
    λ at lt. subst (λ r. IsOfKind (slice_index_or (kinds_of width rows) at kind.Void) (cell_in r at)) (sym m.2)
    (row_typed width rows m.0 at m.1 (in_wide (λ (fields : List (List ℕ)). length fields ≡ width) m.0 rows wide m.1) lt)

pub read_typed : (name : List ℕ) (room : Room) (parts : List (List ℕ)) (table : TableValue) → 0 < length parts → table_of name room parts ≡ Ok table → IsTyped table
unfolding table_of
read_typed name room parts table some e =
    let records = map records_of parts in
    let a = accepted (refusal room records) table (table_from name records) e in
    let more : 0 < length records = omega (arith, length-map parts records_of, some) in
    subst IsTyped a.1 (made_typed name records (taken_parts room records more a.0).1)
