-- Different texts.
use Rattle.std.specs.Prelude.{◌≡◌, ℕ, ℤ, pos, List, [], ◌∷◌, ◌++◌, length, map, flat_map, fold, slice_get, slice_index_or, Option, Some, None, bytes_eq, if◌then◌else◌}
use Rattle.std.specs.List.{filter_map, list_all, list_any, range_with_len}
use Rattle.ch_cells.specs.declared.cell.Cell.{Cell}
use Rattle.ch_cells.specs.declared.cell.Cell.TheVariants as cell
use Rattle.ch_tables.specs.Table.{is_number}
use Rattle.ch_tables.specs.TableValue.{TableValue}

-- texts with a further one, if it isn't among them
abbrev pub with_text : List (List ℕ) → List ℕ → List (List ℕ)
with_text texts text = if list_any (bytes_eq text) texts then texts else texts ++ text ∷ []

abbrev pub with_texts : List (List ℕ) → List (List ℕ) → List (List ℕ)
with_texts texts more = fold with_text texts more

-- the texts of a column that isn't one of numbers
abbrev pub texts_in : List (List ℕ) → List (List ℕ)
texts_in column = if list_all is_number column then [] else column

abbrev pub cell_text : Cell → Option (List ℕ)
cell_text (cell.Number n) = None
cell_text (cell.Text text) = Some text

-- the cells of a column of a table
abbrev pub column_cells : TableValue → ℕ → List Cell
column_cells table col = map (λ row. slice_index_or row col (cell.Number (pos 0))) (flat_map (λ part. part) table.parts)

-- the different texts of a table's cells, column after column
unfoldable pub texts_of : TableValue → List (List ℕ)
texts_of table = with_texts [] (flat_map (λ col. filter_map cell_text (column_cells table col)) (range_with_len 0 (length table.header)))

-- the cell at a place
abbrev pub cell_at : TableValue → ℕ → ℕ → ℕ → Cell
cell_at table part row col = slice_index_or (slice_index_or (slice_index_or table.parts part []) row []) col (cell.Number (pos 0))

-- the word of a cell: the number itself, or the place of the text
abbrev pub IsWordOf : List (List ℕ) → Cell → ℤ → Type 0
IsWordOf texts (cell.Number n) word = word ≡ n
IsWordOf texts (cell.Text text) word = (at : ℕ) × (word ≡ pos at) × (slice_get texts at ≡ Some text)
