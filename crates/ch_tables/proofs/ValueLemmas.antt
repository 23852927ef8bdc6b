-- The columns of a draft, and the table that they give.
use Rattle.std.proofs.Common.{◌≡◌, ℕ, zero, suc, ◌+◌, ◌-◌, ◌<◌, ◌≤◌, false, List, [], ◌∷◌, ◌++◌, length, get_or, map, Some, slice_get, ℤ, pos, refl, sym, ap, ap₂, subst, ◌∙◌, arith, append_assoc, length-append}
use Rattle.std.specs.Prelude.{All, sum_by}
use Rattle.std.specs.List.{list_all, range_with_len, zip}
use Rattle.std.proofs.lemmas.List.{append-nil, get_or-map, length-map, get_or-append-add, get_or_append_left}
use Rattle.std.proofs.lemmas.List.FromFn.{fill_by_all}
use Rattle.std.proofs.lemmas.List.Sums.{sum_by-cons}
use Rattle.std.proofs.lemmas.Option.{get_or_from_slice_get, slice_get_within}
use Rattle.std.specs.Int.RustNames.{unsigned_abs}
use Rattle.ch_cells.specs.Number.{greatest_magnitude, number_of}
use Rattle.ch_cells.proofs.Spelling.{law}
use Rattle.ch_cells.specs.declared.cell.Cell.{Cell}
use Rattle.ch_cells.specs.declared.cell.Cell.TheVariants as cell
use Rattle.ch_cells.specs.declared.cell.Kind.{Kind}
use Rattle.ch_cells.specs.declared.cell.Kind.TheVariants as kind
use Rattle.ch_tables.specs.Columns.{AllStandFor, ArePlaces, IsColumn, StandsFor, cells_in, kind_in, number_kind, row_at, rows_in, value_of}
use Rattle.ch_tables.specs.Draft.{IsDraftOf, all_rows, spans_from, with_row, with_rows}
use Rattle.ch_tables.specs.Table.{cell_as, column_of, is_number, kind_of, kinds_of, number_or_text, row_as, table_with}
use Rattle.ch_tables.specs.Whole.{AreWide}
use Rattle.ch_tables.specs.declared.column.Column.{Column}
use Rattle.ch_tables.specs.declared.column.Column.TheVariants.{Numbers, Places}
use Rattle.ch_tables.specs.declared.draft.Draft.{Draft}
use Rattle.ch_tables.specs.declared.table.Table.TheInside.{Inside}
use Rattle.ch_tables.proofs.ColumnLemmas.{length-with_row}
use Rattle.ch_tables.proofs.WordLemmas.{list_all-spelled}

-- ---- columns of texts, by the rows

get_or-with_row : (cs : List (List (List ℕ))) (fs : List (List ℕ)) (k : ℕ) → length fs ≡ length cs → k < length cs
    → get_or (with_row cs fs) k [] ≡ get_or cs k [] ++ get_or fs k [] ∷ []
get_or-with_row [] fs k e h = absurd (omega arith)
get_or-with_row (c ∷ cs) [] k e h = absurd (omega arith)
get_or-with_row (c ∷ cs) (f ∷ fs) zero e h = refl
get_or-with_row (c ∷ cs) (f ∷ fs) (suc k) e h = get_or-with_row cs fs k (omega arith) (omega arith)

pub length-with_rows : (cs rows : List (List (List ℕ))) → AreWide (length cs) rows → length (with_rows cs rows) ≡ length cs
length-with_rows cs [] w = refl
length-with_rows cs (fs ∷ rows) w =
    let n = length-with_row cs fs w.0 in
    length-with_rows (with_row cs fs) rows (subst (λ k. AreWide k rows) (sym n) w.1) ∙ n

get_or-with_rows : (cs rows : List (List (List ℕ))) (k : ℕ) → AreWide (length cs) rows → k < length cs → get_or (with_rows cs rows) k [] ≡ get_or cs k [] ++ column_of rows k
get_or-with_rows cs [] k w h = sym (append-nil (get_or cs k []))
get_or-with_rows cs (fs ∷ rows) k w h =
    let n = length-with_row cs fs w.0 in
    get_or-with_rows (with_row cs fs) rows k (subst (λ k. AreWide k rows) (sym n) w.1) (omega arith)
    ∙ (ap (λ c. c ++ column_of rows k) (get_or-with_row cs fs k w.0 h) ∙ append_assoc (get_or cs k []) (get_or fs k [] ∷ []) (column_of rows k))

-- columns without rows
abbrev pub no_texts : List (List ℕ) → List (List (List ℕ))
no_texts header = map (λ _. []) header

pub with_rows-columns : (header : List (List ℕ)) (rows : List (List (List ℕ))) → AreWide (length header) rows
    → with_rows (no_texts header) rows ≡ map (column_of rows) (range_with_len 0 (length header))
with_rows-columns header rows w =
    let n : length (no_texts header) ≡ length header = length-map header (λ (name : List ℕ). []) in
    let wide : AreWide (length (no_texts header)) rows = subst (λ k. AreWide k rows) (sym n) w in
    fill_by_all (column_of rows) (with_rows (no_texts header) rows) (length header) []
    (length-with_rows (no_texts header) rows wide ∙ n)
    (λ k h.
    let below : k < length (no_texts header) = omega arith in
    get_or-with_rows (no_texts header) rows k wide below
    ∙ ap (λ c. c ++ column_of rows k) (get_or-map (λ (name : List ℕ). []) header k [] [] h))

sum-with_row : (cs : List (List (List ℕ))) (fs : List (List ℕ)) → length fs ≡ length cs → sum_by length (with_row cs fs) ≡ sum_by length cs + length fs
sum-with_row [] [] e = refl
sum-with_row [] (f ∷ fs) e = absurd (omega arith)
sum-with_row (c ∷ cs) [] e = absurd (omega arith)
sum-with_row (c ∷ cs) (f ∷ fs) e =
    let more = sum-with_row cs fs (omega arith) in
    omega (arith, sum_by-cons length (c ++ f ∷ []) (with_row cs fs), sum_by-cons length c cs, length-append c (f ∷ []))

pub sum-with_rows : (cs rows : List (List (List ℕ))) → AreWide (length cs) rows → sum_by length (with_rows cs rows) ≡ sum_by length cs + sum_by length rows
sum-with_rows cs [] w = omega arith
sum-with_rows cs (fs ∷ rows) w =
    let n = length-with_row cs fs w.0 in
    let more = sum-with_rows (with_row cs fs) rows (subst (λ k. AreWide k rows) (sym n) w.1) in
    omega (arith, sum-with_row cs fs w.0, sum_by-cons length fs rows)

pub sum-no_texts : (header : List (List ℕ)) → sum_by length (no_texts header) ≡ 0
sum-no_texts [] = refl
sum-no_texts (name ∷ header) = let more = sum-no_texts header in omega (arith, sum_by-cons length [] (no_texts header))

-- ---- words that stand for texts

pub length-AllStandFor : (texts : List (List ℕ)) (words : List Column) (columns : List (List (List ℕ))) → AllStandFor texts words columns → length words ≡ length columns
length-AllStandFor texts [] [] s = refl
length-AllStandFor texts [] (c ∷ columns) s = absurd s
length-AllStandFor texts (w ∷ words) [] s = absurd s
length-AllStandFor texts (w ∷ words) (c ∷ columns) s = ap suc (length-AllStandFor texts words columns s.1)

length-spelled : (column : List (List ℕ)) (numbers : List ℤ) → map number_of column ≡ map Some numbers → length numbers ≡ length column
length-spelled column numbers e = let n = ap length e in omega (arith, length-map column number_of, length-map numbers (λ (z : ℤ). Some z))

length-places : (texts column : List (List ℕ)) (places : List ℕ) → ArePlaces texts column places → length places ≡ length column
length-places texts column places e = let n = ap length e in omega (arith, length-map places (slice_get texts), length-map column (λ (t : List ℕ). Some t))

within-places : (texts column : List (List ℕ)) (places : List ℕ) → ArePlaces texts column places → (k d : ℕ) → k < length places → get_or places k d < length texts
within-places texts column [] e k d h = absurd (omega arith)
within-places texts [] (at ∷ places) e k d h = cc
within-places texts (text ∷ column) (at ∷ places) e zero d h =
    let here : slice_get texts at ≡ Some text = cc in
    slice_get_within texts at text here
within-places texts (text ∷ column) (at ∷ places) e (suc k) d h =
    let rest : ArePlaces texts column places = cc in
    within-places texts column places rest k d (omega arith)

in-range : (column : List (List ℕ)) (numbers : List ℤ) → map number_of column ≡ map Some numbers → (k : ℕ) (d : ℤ) → k < length numbers → unsigned_abs (get_or numbers k d) ≤ greatest_magnitude
in-range column [] e k d h = absurd (omega arith)
in-range [] (n ∷ numbers) e k d h = cc
in-range (text ∷ column) (n ∷ numbers) e zero d h =
    let here : number_of text ≡ Some n = cc in
    ((law n text).0 here).range
in-range (text ∷ column) (n ∷ numbers) e (suc k) d h =
    let rest : map number_of column ≡ map Some numbers = cc in
    in-range column numbers rest k d (omega arith)

column-StandsFor : (texts : List (List ℕ)) (words : Column) (column : List (List ℕ)) (rows : ℕ) → StandsFor texts words column → length column ≡ rows → IsColumn texts rows words
column-StandsFor texts (Numbers numbers) column rows s n = (length-spelled column numbers.items s ∙ n, in-range column numbers.items s)
column-StandsFor texts (Places places) column rows s n = (length-places texts column places.items s.1 ∙ n, within-places texts column places.items s.1)

pub columns-AllStandFor : (texts : List (List ℕ)) (words : List Column) (columns : List (List (List ℕ))) (rows : ℕ) → AllStandFor texts words columns
    → All (λ column. length column ≡ rows) columns → (k : ℕ) (d : Column) → k < length words → IsColumn texts rows (get_or words k d)
columns-AllStandFor texts [] columns rows s n k d h = absurd (omega arith)
columns-AllStandFor texts (w ∷ words) [] rows s n k d h = absurd s
columns-AllStandFor texts (w ∷ words) (c ∷ columns) rows s n zero d h = column-StandsFor texts w c rows s.0 (n 0 c (omega arith))
columns-AllStandFor texts (w ∷ words) (c ∷ columns) rows s n (suc k) d h =
    columns-AllStandFor texts words columns rows s.1 (λ j e g. n (suc j) e (omega arith)) k d (omega arith)

-- ---- kinds and cells

kind-spelled : (column : List (List ℕ)) (numbers : List ℤ) → map number_of column ≡ map Some numbers → number_kind numbers ≡ kind_of column
kind-spelled [] [] e = refl
kind-spelled [] (n ∷ numbers) e = cc
kind-spelled (text ∷ column) [] e = cc
kind-spelled (text ∷ column) (n ∷ numbers) e = rw (list_all-spelled (text ∷ column) (n ∷ numbers) e) refl

kind-text : (column : List (List ℕ)) → list_all is_number column ≡ false → kind.Text ≡ kind_of column
kind-text [] e = cc
kind-text (text ∷ column) e = rw e refl

kind-StandsFor : (texts : List (List ℕ)) (words : Column) (column : List (List ℕ)) → StandsFor texts words column → kind_in words ≡ kind_of column
kind-StandsFor texts (Numbers numbers) column s = kind-spelled column numbers.items s
kind-StandsFor texts (Places places) column s = kind-text column s.0

pub kinds-AllStandFor : (texts : List (List ℕ)) (words : List Column) (columns : List (List (List ℕ))) → AllStandFor texts words columns → map kind_in words ≡ map kind_of columns
kinds-AllStandFor texts [] [] s = refl
kinds-AllStandFor texts [] (c ∷ columns) s = absurd s
kinds-AllStandFor texts (w ∷ words) [] s = absurd s
kinds-AllStandFor texts (w ∷ words) (c ∷ columns) s = ap₂ (λ x xs. x ∷ xs) (kind-StandsFor texts w c s.0) (kinds-AllStandFor texts words columns s.1)

-- the cells of a column of texts
abbrev pub cells_of : List (List ℕ) → List Cell
cells_of column = map (cell_as (kind_of column)) column

number-cells : (column : List (List ℕ)) (numbers : List ℤ) → map number_of column ≡ map Some numbers → map cell.Number numbers ≡ map (cell_as kind.Number) column
number-cells [] [] e = refl
number-cells [] (n ∷ numbers) e = cc
number-cells (text ∷ column) [] e = cc
number-cells (text ∷ column) (n ∷ numbers) e =
    let here : number_of text ≡ Some n = cc in
    let rest : map number_of column ≡ map Some numbers = cc in
    ap₂ (λ x xs. x ∷ xs) (ap (λ o. number_or_text o text) (sym here)) (number-cells column numbers rest)

spelled-cells : (column : List (List ℕ)) (numbers : List ℤ) → map number_of column ≡ map Some numbers → map cell.Number numbers ≡ cells_of column
spelled-cells [] [] e = refl
spelled-cells [] (n ∷ numbers) e = cc
spelled-cells (text ∷ column) [] e = cc
spelled-cells (text ∷ column) (n ∷ numbers) e =
    number-cells (text ∷ column) (n ∷ numbers) e ∙ ap (λ k. map (cell_as k) (text ∷ column)) (kind-spelled (text ∷ column) (n ∷ numbers) e)

text-cells : (texts column : List (List ℕ)) (places : List ℕ) → ArePlaces texts column places → map (λ at. cell.Text (get_or texts at [])) places ≡ map (cell_as kind.Text) column
text-cells texts [] [] e = refl
text-cells texts [] (at ∷ places) e = cc
text-cells texts (text ∷ column) [] e = cc
text-cells texts (text ∷ column) (at ∷ places) e =
    let here : slice_get texts at ≡ Some text = cc in
    let rest : ArePlaces texts column places = cc in
    ap₂ (λ x xs. cell.Text x ∷ xs) (get_or_from_slice_get texts at text [] here) (text-cells texts column places rest)

cells-StandsFor : (texts : List (List ℕ)) (words : Column) (column : List (List ℕ)) → StandsFor texts words column → cells_in texts words ≡ cells_of column
cells-StandsFor texts (Numbers numbers) column s = spelled-cells column numbers.items s
cells-StandsFor texts (Places places) column s = text-cells texts column places.items s.1 ∙ ap (λ k. map (cell_as k) column) (kind-text column s.0)

pub cells-AllStandFor : (texts : List (List ℕ)) (words : List Column) (columns : List (List (List ℕ))) → AllStandFor texts words columns → map (cells_in texts) words ≡ map cells_of columns
cells-AllStandFor texts [] [] s = refl
cells-AllStandFor texts [] (c ∷ columns) s = absurd s
cells-AllStandFor texts (w ∷ words) [] s = absurd s
cells-AllStandFor texts (w ∷ words) (c ∷ columns) s = ap₂ (λ x xs. x ∷ xs) (cells-StandsFor texts w c s.0) (cells-AllStandFor texts words columns s.1)

-- ---- rows

wide-at : (width : ℕ) (rows : List (List (List ℕ))) (r : ℕ) → AreWide width rows → r < length rows → length (get_or rows r []) ≡ width
wide-at width [] r w h = absurd (omega arith)
wide-at width (fields ∷ rows) zero w h = w.0
wide-at width (fields ∷ rows) (suc r) w h = wide-at width rows r w.1 (omega arith)

cell-of : (rows : List (List (List ℕ))) (r at : ℕ) → r < length rows
    → get_or (cells_of (column_of rows at)) r (cell.Number (pos 0)) ≡ cell_as (kind_of (column_of rows at)) (get_or (get_or rows r []) at [])
cell-of rows r at h =
    let n = length-map rows (λ (fields : List (List ℕ)). get_or fields at []) in
    let below : r < length (column_of rows at) = omega arith in
    get_or-map (cell_as (kind_of (column_of rows at))) (column_of rows at) r [] (cell.Number (pos 0)) below
    ∙ ap (cell_as (kind_of (column_of rows at))) (get_or-map (λ (fields : List (List ℕ)). get_or fields at []) rows r [] [] h)

-- a row by its columns
zip-range : (kind : ℕ → Kind) (read : ℕ → List ℕ) (s n : ℕ) (fields : List (List ℕ)) → length fields ≡ n → ((i : ℕ) → i < n → read (s + i) ≡ get_or fields i [])
    → map (λ p. cell_as p.0 p.1) (zip (map kind (range_with_len s n)) fields) ≡ map (λ at. cell_as (kind at) (read at)) (range_with_len s n)
zip-range kind read s zero [] e r = refl
zip-range kind read s zero (f ∷ fields) e r = absurd (omega arith)
zip-range kind read s (suc n) [] e r = absurd (omega arith)
zip-range kind read s (suc n) (f ∷ fields) e r =
    let here : f ≡ read s = sym (ap read (omega arith) ∙ r 0 (omega arith)) in
    ap₂ (λ x xs. x ∷ xs) (ap (cell_as (kind s)) here)
    (zip-range kind read (s + 1) n fields (omega arith) (λ i h. ap read (omega arith) ∙ r (suc i) (omega arith)))

map-range-congr : {Y : Type 0} (f g : ℕ → Y) (s n : ℕ) → ((i : ℕ) → f i ≡ g i) → map f (range_with_len s n) ≡ map g (range_with_len s n)
map-range-congr f g s zero e = refl
map-range-congr f g s (suc n) e = ap₂ (λ x xs. x ∷ xs) (e s) (map-range-congr f g (s + 1) n e)

map-map-range : {X Y : Type 0} (g : X → Y) (f : ℕ → X) (s n : ℕ) → map g (map f (range_with_len s n)) ≡ map (λ i. g (f i)) (range_with_len s n)
map-map-range g f s zero = refl
map-map-range g f s (suc n) = ap (λ xs. g (f s) ∷ xs) (map-map-range g f (s + 1) n)

pub row-cells : (width : ℕ) (rows : List (List (List ℕ))) (r : ℕ) → AreWide width rows → r < length rows
    → row_at (map cells_of (map (column_of rows) (range_with_len 0 width))) r ≡ row_as (kinds_of width rows) (get_or rows r [])
row-cells width rows r w h =
    let kind : ℕ → Kind = λ at. kind_of (column_of rows at) in
    let fields = get_or rows r [] in
    ap (λ cs. row_at cs r) (map-map-range cells_of (column_of rows) 0 width)
    ∙ (map-map-range (λ (cells : List Cell). get_or cells r (cell.Number (pos 0))) (λ at. cells_of (column_of rows at)) 0 width
    ∙ (map-range-congr (λ at. get_or (cells_of (column_of rows at)) r (cell.Number (pos 0))) (λ at. cell_as (kind at) (get_or fields at [])) 0 width (λ at. cell-of rows r at h)
    ∙ sym (zip-range kind (λ at. get_or fields at []) 0 width fields (wide-at width rows r w h) (λ i g. ap (λ at. get_or fields at []) (omega arith)))))

-- ---- parts

part-of : {X Y : Type 0} (f : ℕ → Y) (g : X → Y) (s : ℕ) (xs : List X) (d : X) → ((i : ℕ) → i < length xs → f (s + i) ≡ g (get_or xs i d))
    → map f (range_with_len s (length xs)) ≡ map g xs
part-of f g s [] d e = refl
part-of f g s (x ∷ xs) d e =
    ap₂ (λ y ys. y ∷ ys) (ap f (omega arith) ∙ e 0 (omega arith)) (part-of f g (s + 1) xs d (λ i h. ap f (omega arith) ∙ e (suc i) (omega arith)))

-- the rows of each part, of all rows
parts-of : {Y : Type 0} (f : ℕ → Y) (g : List (List ℕ) → Y) (s : ℕ) (bodies : List (List (List (List ℕ))))
    → ((i : ℕ) → i < length (all_rows bodies) → f (s + i) ≡ g (get_or (all_rows bodies) i []))
    → map (λ span. map f (range_with_len span.from (span.to - span.from))) (spans_from s bodies) ≡ map (map g) bodies
parts-of f g s [] e = refl
parts-of f g s (body ∷ bodies) e =
    let rest = all_rows bodies in
    let size = length-append body rest in
    let count : s + length body - s ≡ length body = omega arith in
    ap₂ (λ y ys. y ∷ ys)
    (ap (λ n. map f (range_with_len s n)) count
    ∙ part-of f g s body [] (λ i h. e i (omega arith) ∙ ap g (get_or_append_left body rest [] i h)))
    (parts-of f g (s + length body) bodies (λ i h.
    ap f (omega arith) ∙ (e (length body + i) (omega arith) ∙ ap g (get_or-append-add body rest i []))))

pub parts-rows : (width : ℕ) (bodies : List (List (List (List ℕ)))) → AreWide width (all_rows bodies)
    → map (rows_in (map cells_of (map (column_of (all_rows bodies)) (range_with_len 0 width)))) (spans_from 0 bodies) ≡ map (map (row_as (kinds_of width (all_rows bodies)))) bodies
parts-rows width bodies w =
    let columns = map cells_of (map (column_of (all_rows bodies)) (range_with_len 0 width)) in
    parts-of (row_at columns) (row_as (kinds_of width (all_rows bodies))) 0 bodies
    (λ i h. ap (row_at columns) (omega arith) ∙ row-cells width (all_rows bodies) i w h)

-- ---- the table

pub value-of-draft : (draft : Draft) (t : Inside) (name : List ℕ) (header : List (List ℕ)) (bodies : List (List (List (List ℕ)))) → IsDraftOf draft header bodies
    → AreWide (length header) (all_rows bodies) → AllStandFor t.texts t.columns.items draft.columns.items
    → t.name ≡ name → t.header ≡ draft.header → t.spans.items ≡ draft.spans.items
    → value_of t ≡ table_with name header (kinds_of (length header) (all_rows bodies)) bodies
value-of-draft draft t name header bodies d w s n h p =
    let rows = all_rows bodies in
    let raw : draft.columns.items ≡ map (column_of rows) (range_with_len 0 (length header)) = d.columns ∙ with_rows-columns header rows w in
    let kinds : map kind_in t.columns.items ≡ kinds_of (length header) rows =
    kinds-AllStandFor t.texts t.columns.items draft.columns.items s ∙ (ap (map kind_of) raw ∙ map-map-range kind_of (column_of rows) 0 (length header)) in
    let cells : map (cells_in t.texts) t.columns.items ≡ map cells_of (map (column_of rows) (range_with_len 0 (length header))) =
    cells-AllStandFor t.texts t.columns.items draft.columns.items s ∙ ap (map cells_of) raw in
    let parts : map (rows_in (map (cells_in t.texts) t.columns.items)) t.spans.items ≡ map (map (row_as (kinds_of (length header) rows))) bodies =
    ap₂ (λ columns spans. map (rows_in columns) spans) cells (p ∙ d.spans) ∙ parts-rows (length header) bodies w in
    let names : t.header ≡ header = h ∙ d.named in
    λ i. record { name = n i; header = names i; kinds = kinds i; parts = parts i }
