-- Columns of words, and the table that they are.
use Rattle.std.specs.Prelude.{◌≡◌, ℕ, ◌-◌, ◌<◌, ◌≤◌, ◌^◌, List, [], ◌∷◌, All, length, map, slice_get, slice_index_or, Option, Some, None, ℤ, pos, false, Vec}
use Rattle.std.specs.Global.{Global}
use Rattle.std.specs.List.{list_all, range_with_len}
use Rattle.std.specs.Int.RustNames.{unsigned_abs}
use Rattle.ch_cells.specs.Number.{greatest_magnitude, number_of}
use Rattle.ch_cells.specs.declared.cell.Cell.{Cell}
use Rattle.ch_cells.specs.declared.cell.Cell.TheVariants as cell
use Rattle.ch_cells.specs.declared.cell.Kind.{Kind}
use Rattle.ch_cells.specs.declared.cell.Kind.TheVariants as kind
use Rattle.ch_tables.specs.Refusal.{repeated}
use Rattle.ch_tables.specs.Table.{is_number}
use Rattle.ch_tables.specs.TableValue.{TableValue}
use Rattle.ch_tables.specs.Texts.{texts_of}
use Rattle.ch_tables.specs.declared.column.Column.{Column}
use Rattle.ch_tables.specs.declared.column.Column.TheVariants.{Numbers, Places}
use Rattle.ch_tables.specs.declared.draft.Span.{Span}
use Rattle.ch_tables.specs.declared.table.Table.TheInside.{Inside}

-- the numbers that the texts spell, if each spells one
abbrev pub SpellNumbers : List (List ℕ) → Option (Vec ℤ Global) → Type 0
SpellNumbers texts None = list_all is_number texts ≡ false
SpellNumbers texts (Some numbers) = map number_of texts ≡ map Some numbers.items

-- the texts at the places are these
abbrev pub ArePlaces : List (List ℕ) → List (List ℕ) → List ℕ → Type 0
ArePlaces texts column places = map (slice_get texts) places ≡ map Some column

-- a column of words stands for a column of texts
abbrev pub StandsFor : List (List ℕ) → Column → List (List ℕ) → Type 0
StandsFor texts (Numbers numbers) column = map number_of column ≡ map Some numbers.items
StandsFor texts (Places places) column = (list_all is_number column ≡ false) × ArePlaces texts column places.items

abbrev pub AllStandFor : List (List ℕ) → List Column → List (List (List ℕ)) → Type 0
AllStandFor texts [] [] = Unit {0}
AllStandFor texts [] (column ∷ columns) = ⊥
AllStandFor texts (words ∷ more) [] = ⊥
AllStandFor texts (words ∷ more) (column ∷ columns) = StandsFor texts words column × AllStandFor texts more columns

-- the cells of a column
abbrev pub cells_in : List (List ℕ) → Column → List Cell
cells_in texts (Numbers numbers) = map cell.Number numbers.items
cells_in texts (Places places) = map (λ at. cell.Text (slice_index_or texts at [])) places.items

abbrev pub column_len : Column → ℕ
column_len (Numbers numbers) = length numbers.items
column_len (Places places) = length places.items

-- the word of a column at a place
abbrev pub IsWordIn : Column → ℕ → ℤ → Type 0
IsWordIn (Numbers numbers) at word = word ≡ slice_index_or numbers.items at (pos 0)
IsWordIn (Places places) at word = word ≡ pos (slice_index_or places.items at 0)

abbrev pub number_kind : List ℤ → Kind
number_kind [] = kind.Void
number_kind (n ∷ numbers) = kind.Number

abbrev pub kind_in : Column → Kind
kind_in (Numbers numbers) = number_kind numbers.items
kind_in (Places places) = kind.Text

-- a row of columns of cells
abbrev pub row_at : List (List Cell) → ℕ → List Cell
row_at columns at = map (λ cells. slice_index_or cells at (cell.Number (pos 0))) columns

abbrev pub rows_in : List (List Cell) → Span → List (List Cell)
rows_in columns span = map (row_at columns) (range_with_len span.from (span.to - span.from))

-- what a table shows
abbrev pub value_of : Inside → TableValue
value_of t = record {
  name = t.name;
  header = t.header;
  kinds = map kind_in t.columns.items;
  parts = map (rows_in (map (cells_in t.texts) t.columns.items)) t.spans.items;
}

abbrev pub IsColumn : List (List ℕ) → ℕ → Column → Type 0
IsColumn texts rows (Numbers numbers) = (length numbers.items ≡ rows) × All (λ n. unsigned_abs n ≤ greatest_magnitude) numbers.items
IsColumn texts rows (Places places) = (length places.items ≡ rows) × All (λ at. at < length texts) places.items

-- what a table keeps
pub record IsTable (t : Inside) : Type 0 where
  pub width : length t.columns.items ≡ length t.header
  pub few_columns : length t.header < 2 ^ 32
  pub few_parts : length t.spans.items < 2 ^ 32
  pub few_texts : length t.texts < 2 ^ 32
  pub spans : All (λ span. (span.from ≤ span.to) × (span.to ≤ t.rows)) t.spans.items
  pub columns : All (IsColumn t.texts t.rows) t.columns.items
  pub names : repeated t.header ≡ None
  pub texts : t.texts ≡ texts_of (value_of t)
