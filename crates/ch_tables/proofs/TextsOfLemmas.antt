-- The different texts of a table.
use Rattle.std.proofs.Common.{◌≡◌, ℕ, zero, suc, ◌+◌, ◌<◌, ◌≤◌, Bool, true, false, List, [], ◌∷◌, ◌++◌, length, get_or, map, Option, Some, None, ℤ, ◌&&◌, pos, refl, sym, ap, ap₂, subst, ◌∙◌, arith}
use Rattle.std.specs.Prelude.{bytes_eq, flat_map, is_some}
use Rattle.std.specs.List.{IsDistinct, filter_map, list_all, list_any, range_with_len, zip}
use Rattle.std.proofs.lemmas.List.{map-append}
use Rattle.std.proofs.lemmas.List.FromFn.{get_or-map-range_with_len, length-map-range_with_len}
use Rattle.std.proofs.lemmas.Map.Keys.{IsDistinct-push}
use Rattle.std.proofs.lemmas.Cmp.{nat_list_eq_equiv}
use Rattle.ch_cells.specs.Number.{number_of}
use Rattle.ch_cells.specs.declared.cell.Cell.{Cell}
use Rattle.ch_cells.specs.declared.cell.Cell.TheVariants as cell
use Rattle.ch_cells.specs.declared.cell.Kind.{Kind}
use Rattle.ch_cells.specs.declared.cell.Kind.TheVariants as kind
use Rattle.ch_tables.specs.Columns.{AllStandFor, value_of}
use Rattle.ch_tables.specs.Draft.{IsDraftOf, all_rows}
use Rattle.ch_tables.specs.Table.{cell_as, column_of, is_number, kind_of, kinds_of, number_or_text, row_as, table_with}
use Rattle.ch_tables.specs.TableValue.{TableValue}
use Rattle.ch_tables.specs.Texts.{cell_text, column_cells, texts_in, texts_of, with_text, with_texts}
use Rattle.ch_tables.specs.Whole.{AreWide}
use Rattle.ch_tables.specs.declared.draft.Draft.{Draft}
use Rattle.ch_tables.specs.declared.table.Table.TheInside.{Inside}
use Rattle.ch_tables.proofs.TextLemmas.{with_text-new, with_text-there}
use Rattle.ch_tables.proofs.ValueLemmas.{cells_of, value-of-draft, with_rows-columns}

-- ---- they are different

distinct-with_text : (texts : List (List ℕ)) (text : List ℕ) → IsDistinct bytes_eq texts → IsDistinct bytes_eq (with_text texts text)
distinct-with_text texts text d = by (list_any (bytes_eq text) texts) refl
  where
    by : (b : Bool) → list_any (bytes_eq text) texts ≡ b → IsDistinct bytes_eq (with_text texts text)
    by true there = rw (with_text-there texts text there) d
    by false new = rw (with_text-new texts text new) (IsDistinct-push nat_list_eq_equiv texts text d new)

distinct-with_texts : (texts more : List (List ℕ)) → IsDistinct bytes_eq texts → IsDistinct bytes_eq (with_texts texts more)
distinct-with_texts texts [] d = d
distinct-with_texts texts (text ∷ more) d = distinct-with_texts (with_text texts text) more (distinct-with_text texts text d)

pub texts-different : (table : TableValue) → IsDistinct bytes_eq (texts_of table)
unfolding texts_of IsDistinct
texts-different table = distinct-with_texts [] (flat_map (λ col. filter_map cell_text (column_cells table col)) (range_with_len 0 (length table.header))) tt

-- ---- the texts of a column

number-texts : (column : List (List ℕ)) → list_all is_number column ≡ true → filter_map cell_text (map (cell_as kind.Number) column) ≡ []
number-texts [] e = refl
number-texts (text ∷ column) e = by (number_of text) refl (number-texts column)
  where
    by : (o : Option ℤ) → number_of text ≡ o → (list_all is_number column ≡ true → filter_map cell_text (map (cell_as kind.Number) column) ≡ [])
        → filter_map cell_text (map (cell_as kind.Number) (text ∷ column)) ≡ []
    by None o more = cc (e, ap (λ n. is_some n && list_all is_number column) o)
    by (Some n) o more = rw o (more (rw o at e))

plain-texts : (column : List (List ℕ)) → filter_map cell_text (map (cell_as kind.Text) column) ≡ column
plain-texts [] = refl
plain-texts (text ∷ column) = ap (λ ts. text ∷ ts) (plain-texts column)

column-texts : (column : List (List ℕ)) → filter_map cell_text (cells_of column) ≡ texts_in column
column-texts [] = refl
column-texts (text ∷ column) = by (list_all is_number (text ∷ column)) refl
  where
    by : (b : Bool) → list_all is_number (text ∷ column) ≡ b → filter_map cell_text (cells_of (text ∷ column)) ≡ texts_in (text ∷ column)
    by true e =
        let kind_is : kind_of (text ∷ column) ≡ kind.Number = rw e refl in
        let none : texts_in (text ∷ column) ≡ [] = rw e refl in
        ap (λ k. filter_map cell_text (map (cell_as k) (text ∷ column))) kind_is ∙ (number-texts (text ∷ column) e ∙ sym none)
    by false e =
        let kind_is : kind_of (text ∷ column) ≡ kind.Text = rw e refl in
        let all : texts_in (text ∷ column) ≡ text ∷ column = rw e refl in
        ap (λ k. filter_map cell_text (map (cell_as k) (text ∷ column))) kind_is ∙ (plain-texts (text ∷ column) ∙ sym all)

-- ---- the columns of the table's value

flat-rows : (h : List (List ℕ) → List Cell) (bodies : List (List (List (List ℕ)))) → flat_map (λ part. part) (map (map h) bodies) ≡ map h (all_rows bodies)
flat-rows h [] = refl
flat-rows h (body ∷ bodies) = ap (λ rows. map h body ++ rows) (flat-rows h bodies) ∙ sym (map-append h body (all_rows bodies))

get_or-row_as : (kinds : List Kind) (fields : List (List ℕ)) (c : ℕ) → length fields ≡ length kinds → c < length kinds
    → get_or (row_as kinds fields) c (cell.Number (pos 0)) ≡ cell_as (get_or kinds c kind.Void) (get_or fields c [])
get_or-row_as [] fields c e h = absurd (omega arith)
get_or-row_as (k ∷ kinds) [] c e h = absurd (omega arith)
get_or-row_as (k ∷ kinds) (f ∷ fields) zero e h = refl
get_or-row_as (k ∷ kinds) (f ∷ fields) (suc c) e h = get_or-row_as kinds fields c (omega arith) (omega arith)

column-rows : (kinds : List Kind) (rows : List (List (List ℕ))) (c : ℕ) → AreWide (length kinds) rows → c < length kinds
    → map (λ row. get_or row c (cell.Number (pos 0))) (map (row_as kinds) rows) ≡ map (cell_as (get_or kinds c kind.Void)) (column_of rows c)
column-rows kinds [] c w h = refl
column-rows kinds (fields ∷ rows) c w h = ap₂ (λ x xs. x ∷ xs) (get_or-row_as kinds fields c w.0 h) (column-rows kinds rows c w.1 h)

flat-range : (f g : ℕ → List (List ℕ)) (s n : ℕ) → ((i : ℕ) → i < n → f (s + i) ≡ g (s + i)) → flat_map f (range_with_len s n) ≡ flat_map g (range_with_len s n)
flat-range f g s zero e = refl
flat-range f g s (suc n) e =
    let at : s + 0 ≡ s = omega arith in
    ap₂ (λ xs ys. xs ++ ys) (subst (λ k. f k ≡ g k) at (e 0 (omega arith)))
    (flat-range f g (s + 1) n (λ i h. let next : s + suc i ≡ s + 1 + i = omega arith in subst (λ k. f k ≡ g k) next (e (suc i) (omega arith))))

flat-map-range : (f : List (List ℕ) → List (List ℕ)) (g : ℕ → List (List ℕ)) (s n : ℕ) → flat_map f (map g (range_with_len s n)) ≡ flat_map (λ i. f (g i)) (range_with_len s n)
flat-map-range f g s zero = refl
flat-map-range f g s (suc n) = ap (λ xs. f (g s) ++ xs) (flat-map-range f g (s + 1) n)

-- the texts of a column of the table's value
value-texts : (name : List ℕ) (header : List (List ℕ)) (bodies : List (List (List (List ℕ)))) (c : ℕ) → AreWide (length header) (all_rows bodies) → c < length header
    → filter_map cell_text (column_cells (table_with name header (kinds_of (length header) (all_rows bodies)) bodies) c) ≡ texts_in (column_of (all_rows bodies) c)
value-texts name header bodies c w h =
    let rows = all_rows bodies in
    let width = length header in
    let kinds = kinds_of width rows in
    let size : length kinds ≡ width = length-map-range_with_len (λ at. kind_of (column_of rows at)) 0 width in
    let wide : AreWide (length kinds) rows = subst (λ n. AreWide n rows) (sym size) w in
    let within : c < length kinds = omega arith in
    let kind_is : get_or kinds c kind.Void ≡ kind_of (column_of rows c) = get_or-map-range_with_len (λ at. kind_of (column_of rows at)) 0 width c c kind.Void h (omega arith) in
    let cells : map (λ row. get_or row c (cell.Number (pos 0))) (flat_map (λ part. part) (map (map (row_as kinds)) bodies)) ≡ cells_of (column_of rows c) =
    ap (map (λ (row : List Cell). get_or row c (cell.Number (pos 0)))) (flat-rows (row_as kinds) bodies)
    ∙ (column-rows kinds rows c wide within ∙ ap (λ k. map (cell_as k) (column_of rows c)) kind_is) in
    ap (filter_map cell_text) cells ∙ column-texts (column_of rows c)

texts-of-table : (name : List ℕ) (header : List (List ℕ)) (bodies : List (List (List (List ℕ)))) → AreWide (length header) (all_rows bodies)
    → texts_of (table_with name header (kinds_of (length header) (all_rows bodies)) bodies)
    ≡ with_texts [] (flat_map texts_in (map (column_of (all_rows bodies)) (range_with_len 0 (length header))))
unfolding texts_of
texts-of-table name header bodies w =
    let table = table_with name header (kinds_of (length header) (all_rows bodies)) bodies in
    ap (with_texts [])
    (flat-range (λ col. filter_map cell_text (column_cells table col)) (λ col. texts_in (column_of (all_rows bodies) col)) 0 (length header)
    (λ i h. value-texts name header bodies (0 + i) w (omega arith))
    ∙ sym (flat-map-range texts_in (column_of (all_rows bodies)) 0 (length header)))

-- the texts of the table of a draft
pub texts-of-draft : (draft : Draft) (t : Inside) (bodies : List (List (List (List ℕ)))) → IsDraftOf draft draft.header bodies → AreWide (length draft.header) (all_rows bodies)
    → AllStandFor t.texts t.columns.items draft.columns.items → t.header ≡ draft.header → t.spans.items ≡ draft.spans.items
    → t.texts ≡ with_texts [] (flat_map texts_in draft.columns.items) → t.texts ≡ texts_of (value_of t)
texts-of-draft draft t bodies d w s h p all =
    let raw : draft.columns.items ≡ map (column_of (all_rows bodies)) (range_with_len 0 (length draft.header)) = d.columns ∙ with_rows-columns draft.header (all_rows bodies) w in
    let value = value-of-draft draft t t.name draft.header bodies d w s refl h p in
    all ∙ (ap (λ columns. with_texts [] (flat_map texts_in columns)) raw ∙ (sym (texts-of-table t.name draft.header bodies w) ∙ ap texts_of (sym value)))
