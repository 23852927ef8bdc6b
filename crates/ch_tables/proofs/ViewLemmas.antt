-- What a table shows at a place.
use Rattle.std.proofs.Common.{◌≡◌, ℕ, ◌+◌, ◌-◌, ◌<◌, ◌≤◌, List, [], ◌∷◌, length, get_or, map, Some, slice_get, ℤ, pos, refl, sym, ap, subst, ◌∙◌, arith, Vec, Global}
use Rattle.std.proofs.lemmas.List.{get_or-map, length-map}
use Rattle.std.proofs.lemmas.List.FromFn.{get_or-map-range_with_len, length-map-range_with_len}
use Rattle.std.proofs.lemmas.Option.{get_or_from_slice_get, slice_get-get_or}
use Rattle.ch_cells.specs.declared.cell.Cell.{Cell}
use Rattle.ch_cells.specs.declared.cell.Cell.TheVariants as cell
use Rattle.ch_cells.specs.declared.cell.Kind.TheVariants as kind
use Rattle.ch_tables.specs.Columns.{IsColumn, IsTable, IsWordIn, cells_in, column_len, kind_in, number_kind, row_at, rows_in, value_of}
use Rattle.ch_tables.specs.Table.{IsOfKind}
use Rattle.ch_tables.specs.TableValue.{TableValue}
use Rattle.ch_tables.specs.Texts.{IsWordOf, cell_at, texts_of}
use Rattle.ch_tables.specs.declared.column.Column.{Column}
use Rattle.ch_tables.specs.declared.column.Column.TheVariants.{Numbers, Places}
use Rattle.ch_tables.specs.declared.draft.Span.{Span}
use Rattle.ch_tables.specs.declared.table.Table.TheInside.{Inside}

-- the rows of a part
pub part-rows : (columns : List (List Cell)) (spans : List Span) (part : ℕ) (span : Span) → part < length spans → span ≡ get_or spans part span
    → get_or (map (rows_in columns) spans) part [] ≡ rows_in columns span
part-rows columns spans part span h e = get_or-map (rows_in columns) spans part span [] h ∙ ap (rows_in columns) (sym e)

pub length-rows_in : (columns : List (List Cell)) (span : Span) → length (rows_in columns span) ≡ span.to - span.from
length-rows_in columns span = length-map-range_with_len (row_at columns) span.from (span.to - span.from)

-- how many rows a part has
pub length-part : (columns : List (List Cell)) (spans : List Span) (part : ℕ) (span : Span) → part < length spans → span ≡ get_or spans part span
    → length (get_or (map (rows_in columns) spans) part []) ≡ span.to - span.from
length-part columns spans part span h e = ap length (part-rows columns spans part span h e) ∙ length-rows_in columns span

-- the cell at a place
pub cell-at : (columns : List (List Cell)) (spans : List Span) (part row col : ℕ) (span : Span) → part < length spans → span ≡ get_or spans part span
    → row < span.to - span.from → col < length columns
    → slice_get (get_or (get_or (map (rows_in columns) spans) part []) row []) col ≡ Some (get_or (get_or columns col []) (span.from + row) (cell.Number (pos 0)))
cell-at columns spans part row col span h e r k =
    let read = λ (cells : List Cell). get_or cells (span.from + row) (cell.Number (pos 0)) in
    let line : get_or (get_or (map (rows_in columns) spans) part []) row [] ≡ map read columns =
    ap (λ rows. get_or rows row []) (part-rows columns spans part span h e)
    ∙ get_or-map-range_with_len (row_at columns) span.from (span.to - span.from) row (span.from + row) [] r refl in
    let size : col < length (map read columns) = omega (arith, length-map columns read) in
    rw line (slice_get-get_or (map read columns) col (read []) size ∙ ap Some (get_or-map read columns col [] (read []) k))

-- the same, in a column of words
pub word-at : (texts : List (List ℕ)) (columns : List Column) (spans : List Span) (part row col : ℕ) (span : Span) (words : Column)
    → part < length spans → span ≡ get_or spans part span → row < span.to - span.from → col < length columns → words ≡ get_or columns col words
    → slice_get (get_or (get_or (map (rows_in (map (cells_in texts) columns)) spans) part []) row []) col
    ≡ Some (get_or (cells_in texts words) (span.from + row) (cell.Number (pos 0)))
word-at texts columns spans part row col span words h e r k w =
    let size : col < length (map (cells_in texts) columns) = omega (arith, length-map columns (cells_in texts)) in
    cell-at (map (cells_in texts) columns) spans part row col span h e r size
    ∙ ap (λ cells. Some (get_or cells (span.from + row) (cell.Number (pos 0)))) (get_or-map (cells_in texts) columns col words [] k ∙ ap (cells_in texts) (sym w))

-- a column of the table is one
pub column-at : (t : Inside) (col : ℕ) (words : Column) → IsTable t → col < length t.header → words ≡ get_or t.columns.items col words → IsColumn t.texts t.rows words
column-at t col words h k w = let n = h.width in subst (IsColumn t.texts t.rows) (sym w) (h.columns col words (omega arith))

-- a row of a part is one of the table
pub row-at : (t : Inside) (part row : ℕ) (span : Span) → IsTable t → part < length t.spans.items → span ≡ get_or t.spans.items part span → row < span.to - span.from → span.from + row < t.rows
row-at t part row span h p e r =
    let s = h.spans part span p in
    let within : (span.from ≤ span.to) × (span.to ≤ t.rows) = subst (λ (s : Span). (s.from ≤ s.to) × (s.to ≤ t.rows)) (sym e) s in
    omega arith

-- a place of the table's value is one of its columns
pub place-within : (t : Inside) (v : TableValue) (part row : ℕ) (span : Span) → IsTable t → value_of t ≡ v → part < length v.parts
    → row < length (get_or v.parts part []) → span ≡ get_or t.spans.items part span → (part < length t.spans.items) × (row < span.to - span.from) × (span.from + row < t.rows)
place-within t v part row span h e p r s =
    let columns = map (cells_in t.texts) t.columns.items in
    let parts = ap (λ (w : TableValue). w.parts) e in
    let size = ap length parts in
    let within : part < length t.spans.items = omega (arith, length-map t.spans.items (rows_in columns)) in
    let rows : length (get_or v.parts part []) ≡ span.to - span.from =
    sym (ap (λ ps. length (get_or ps part [])) parts) ∙ length-part columns t.spans.items part span within s in
    let below : row < span.to - span.from = omega arith in
    (within, below, row-at t part row span h within s below)

pub column-within : (t : Inside) (v : TableValue) (col : ℕ) (words : Column) → IsTable t → value_of t ≡ v → col < length v.header
    → words ≡ get_or t.columns.items col words → IsColumn t.texts t.rows words
column-within t v col words h e k w =
    let size = ap (λ (u : TableValue). length u.header) e in
    let below : col < length t.header = omega arith in
    column-at t col words h below w

-- the cell that it shows there
pub shows : (t : Inside) (v : TableValue) (part row col : ℕ) (span : Span) (words : Column) → IsTable t → value_of t ≡ v → part < length v.parts
    → row < length (get_or v.parts part []) → col < length v.header → span ≡ get_or t.spans.items part span → words ≡ get_or t.columns.items col words
    → slice_get (get_or (get_or v.parts part []) row []) col ≡ Some (get_or (cells_in t.texts words) (span.from + row) (cell.Number (pos 0)))
shows t v part row col span words h e p r k s w =
    let at = place-within t v part row span h e p r s in
    let width = h.width in
    let size = ap (λ (u : TableValue). length u.header) e in
    let below : col < length t.columns.items = omega arith in
    ap (λ (u : TableValue). slice_get (get_or (get_or u.parts part []) row []) col) (sym e)
    ∙ word-at t.texts t.columns.items t.spans.items part row col span words at.0 s at.1 below w

-- ---- kinds

kind-at : (t : Inside) (v : TableValue) (col : ℕ) (words : Column) → IsTable t → value_of t ≡ v → col < length v.header → words ≡ get_or t.columns.items col words
    → get_or v.kinds col kind.Void ≡ kind_in words
kind-at t v col words h e k w =
    let width = h.width in
    let size = ap (λ (u : TableValue). length u.header) e in
    let below : col < length t.columns.items = omega arith in
    sym (ap (λ (u : TableValue). get_or u.kinds col kind.Void) e) ∙ (get_or-map kind_in t.columns.items col words kind.Void below ∙ ap kind_in (sym w))

number_kind-some : (numbers : List ℤ) (at : ℕ) → at < length numbers → number_kind numbers ≡ kind.Number
number_kind-some [] at h = absurd (omega arith)
number_kind-some (n ∷ numbers) at h = refl

-- a cell of a column of numbers
pub number-of-kind : (t : Inside) (v : TableValue) (col at : ℕ) (words : Column) (numbers : Vec ℤ Global) (shown : List ℤ) (lent : Cell) → IsTable t → value_of t ≡ v
    → col < length v.header → words ≡ get_or t.columns.items col words → words ≡ Numbers numbers → shown ≡ numbers.items → lent ≡ cell.Number (get_or shown at (pos 0))
    → at < length numbers.items → IsOfKind (get_or v.kinds col kind.Void) lent
number-of-kind t v col at words numbers shown lent h e k w n s l below =
    let c = subst (IsColumn t.texts t.rows) n (column-within t v col words h e k w) in
    let kind_is : get_or v.kinds col kind.Void ≡ kind.Number = kind-at t v col words h e k w ∙ (ap kind_in n ∙ number_kind-some numbers.items at below) in
    let cell_is : lent ≡ cell.Number (get_or numbers.items at (pos 0)) = l ∙ ap (λ ns. cell.Number (get_or ns at (pos 0))) s in
    rw (kind_is, cell_is) (c.1 at (pos 0) below)

-- a cell of a column of texts
pub text-of-kind : (t : Inside) (v : TableValue) (col : ℕ) (words : Column) (places : Vec ℕ Global) (text : List ℕ) → IsTable t → value_of t ≡ v
    → col < length v.header → words ≡ get_or t.columns.items col words → words ≡ Places places → IsOfKind (get_or v.kinds col kind.Void) (cell.Text text)
text-of-kind t v col words places text h e k w p =
    let kind_is : get_or v.kinds col kind.Void ≡ kind.Text = kind-at t v col words h e k w ∙ ap kind_in p in
    rw kind_is tt

-- ---- words

word-in : (texts all : List (List ℕ)) (rows at : ℕ) (words : Column) (word : ℤ) → IsColumn texts rows words → texts ≡ all → at < rows → IsWordIn words at word
    → IsWordOf all (get_or (cells_in texts words) at (cell.Number (pos 0))) word
word-in texts all rows at (Numbers numbers) word c same h w =
    let below : at < length numbers.items = omega arith in
    rw (get_or-map cell.Number numbers.items at (pos 0) (cell.Number (pos 0)) below) w
word-in texts all rows at (Places places) word c same h w =
    let below : at < length places.items = omega arith in
    let place = get_or places.items at 0 in
    rw (get_or-map (λ p. cell.Text (get_or texts p [])) places.items at 0 (cell.Number (pos 0)) below)
    (place, w, ap (λ ts. slice_get ts place) (sym same) ∙ slice_get-get_or texts place [] (c.1 at 0 below))

column_len-rows : (texts : List (List ℕ)) (rows : ℕ) (words : Column) → IsColumn texts rows words → column_len words ≡ rows
column_len-rows texts rows (Numbers numbers) c = c.0
column_len-rows texts rows (Places places) c = c.0

-- a place of the table is one of the column
pub below-column : (t : Inside) (v : TableValue) (part row col : ℕ) (span : Span) (words : Column) → IsTable t → value_of t ≡ v → part < length v.parts
    → row < length (get_or v.parts part []) → col < length v.header → span ≡ get_or t.spans.items part span → words ≡ get_or t.columns.items col words
    → span.from + row < column_len words
below-column t v part row col span words h e p r k s w =
    let at = place-within t v part row span h e p r s in
    let n = column_len-rows t.texts t.rows words (column-within t v col words h e k w) in
    omega (arith, at.2)

-- the word of a cell
pub word-of : (t : Inside) (v : TableValue) (part row col : ℕ) (span : Span) (words : Column) (word : ℤ) → IsTable t → value_of t ≡ v → part < length v.parts
    → row < length (get_or v.parts part []) → col < length v.header → span ≡ get_or t.spans.items part span → words ≡ get_or t.columns.items col words
    → IsWordIn words (span.from + row) word → IsWordOf (texts_of v) (cell_at v part row col) word
word-of t v part row col span words word h e p r k s w i =
    let at = place-within t v part row span h e p r s in
    let cell_is : cell_at v part row col ≡ get_or (cells_in t.texts words) (span.from + row) (cell.Number (pos 0)) =
    get_or_from_slice_get (get_or (get_or v.parts part []) row []) col (get_or (cells_in t.texts words) (span.from + row) (cell.Number (pos 0))) (cell.Number (pos 0))
    (shows t v part row col span words h e p r k s w) in
    let all : t.texts ≡ texts_of v = h.texts ∙ ap texts_of e in
    rw cell_is (word-in t.texts (texts_of v) t.rows (span.from + row) words word (column-within t v col words h e k w) all at.2 i)
