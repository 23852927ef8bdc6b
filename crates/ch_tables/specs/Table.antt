-- The table that parts give.
use Rattle.std.specs.Prelude.{ℕ, ◌≤◌, List, [], ◌∷◌, length, map, flat_map, slice_index_or, Option, Some, None, is_some, Result, Ok, Err, ℤ, Bool, if◌then◌else◌}
use Rattle.std.specs.List.{list_all, range_with_len, zip}
use Rattle.std.specs.Int.RustNames.{unsigned_abs}
use Rattle.ch_cells.specs.Number.{greatest_magnitude, number_of}
use Rattle.ch_cells.specs.declared.cell.Cell.{Cell}
use Rattle.ch_cells.specs.declared.cell.Cell.TheVariants as cell
use Rattle.ch_cells.specs.declared.cell.Kind.{Kind}
use Rattle.ch_cells.specs.declared.cell.Kind.TheVariants as kind
use Rattle.ch_tables.specs.Records.{records_of}
use Rattle.ch_tables.specs.Refusal.{body_of, header_of, refusal}
use Rattle.ch_tables.specs.TableValue.{TableValue}
use Rattle.ch_tables.specs.declared.error.Room.{Room}
use Rattle.ch_tables.specs.declared.error.TableError.{TableError}

-- the texts of a column
abbrev pub column_of : List (List (List ℕ)) → ℕ → List (List ℕ)
column_of rows at = map (λ fields. slice_index_or fields at []) rows

abbrev pub is_number : List ℕ → Bool
is_number text = is_some (number_of text)

-- the kind of a column, by its texts
abbrev pub kind_of : List (List ℕ) → Kind
kind_of [] = kind.Void
kind_of (text ∷ texts) = if list_all is_number (text ∷ texts) then kind.Number else kind.Text

-- the kinds of columns, by all rows of the table
abbrev pub kinds_of : ℕ → List (List (List ℕ)) → List Kind
kinds_of width rows = map (λ at. kind_of (column_of rows at)) (range_with_len 0 width)

abbrev pub number_or_text : Option ℤ → List ℕ → Cell
number_or_text (Some n) text = cell.Number n
number_or_text None text = cell.Text text

-- a cell of a column of this kind
abbrev pub cell_as : Kind → List ℕ → Cell
cell_as kind.Number text = number_or_text (number_of text) text
cell_as kind.Text text = cell.Text text
cell_as kind.Void text = cell.Text text

-- a cell is of its column's kind, and a number is in range
abbrev pub IsOfKind : Kind → Cell → Type 0
IsOfKind kind.Number (cell.Number n) = unsigned_abs n ≤ greatest_magnitude
IsOfKind kind.Number (cell.Text text) = ⊥
IsOfKind kind.Text (cell.Number n) = ⊥
IsOfKind kind.Text (cell.Text text) = Unit {0}
IsOfKind kind.Void (cell.Number n) = ⊥
IsOfKind kind.Void (cell.Text text) = ⊥

abbrev pub row_as : List Kind → List (List ℕ) → List Cell
row_as kinds fields = map (λ p. cell_as p.0 p.1) (zip kinds fields)

abbrev pub table_with : List ℕ → List (List ℕ) → List Kind → List (List (List (List ℕ))) → TableValue
table_with name header kinds bodies = record { name = name; header = header; kinds = kinds; parts = map (map (row_as kinds)) bodies }

-- the table of parts that aren't refused, by their records
abbrev pub table_from : List ℕ → List (List (List (List ℕ))) → TableValue
table_from name parts =
    let header = header_of (slice_index_or parts 0 []) in
    let bodies = map body_of parts in
    table_with name header (kinds_of (length header) (flat_map (λ body. body) bodies)) bodies

abbrev pub table_or : Option TableError → TableValue → Result TableValue TableError
table_or None table = Ok table
table_or (Some e) table = Err e

-- what parts give: a table, or the first refusal
unfoldable pub table_of : List ℕ → Room → List (List ℕ) → Result TableValue TableError
table_of name room parts = table_or (refusal room (map records_of parts)) (table_from name (map records_of parts))
