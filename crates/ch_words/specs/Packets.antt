-- The rows of packets that a query's tables give.
use Rattle.std.specs.Prelude.{◌≡◌, ◌≢◌, ◌==◌, ◌&&◌, Bool, if◌then◌else◌, ℕ, List, [], ◌++◌, map, length, slice_index_or, ◌≤◌, true, ℤ, pos, Some, None}
use Rattle.ch_cells.specs.declared.Cell.{Cell}
use Rattle.ch_cells.specs.declared.Cell.TheVariants as cell
use Rattle.ch_cells.specs.declared.Kind.{Kind}
use Rattle.ch_cells.specs.declared.Kind.TheVariants as kind
use Rattle.ch_lists.specs.Members.{In, Each}
use Rattle.ch_cover.specs.Rows.{Row}
use Rattle.ch_pred.specs.declared.bound.Bound.{Bound}
use Rattle.ch_pred.specs.declared.pred.Col.{Col}
use Rattle.ch_pred.specs.declared.bound.Shape.{Shape}
use Rattle.ch_pred.specs.declared.bound.Shape.TheVariants as shape
use Rattle.ch_words.specs.Readings.{NamesOnly}
use Rattle.ch_words.specs.Ranks.{word_of}
use Rattle.ch_words.specs.Rows.{Gate, words_seen}
use Rattle.ch_pred.specs.Sound.{IsCarried, carried_of, has_one_table, kind_of, sides_of}
use Rattle.ch_ranks.specs.Dictionary.{Ascends}

-- the words of a row of a table: those of its carried cells
abbrev pub packed : List (List ℕ) → Bound → ℕ → List Cell → List ℤ
packed texts b side row = map (λ at. word_of texts (slice_index_or row at (cell.Number (pos 0)))) (carried_of b side)

-- a row as a worker sends it: its bit is its gate
abbrev pub sent_row : List (List ℕ) → Gate → Bound → ℕ → List Cell → Row
sent_row texts gate b side row = record { side = side; bit = gate side (words_seen b (packed texts b side row)); words = packed texts b side row }

-- the rows of a query of one table
abbrev pub sent_rows : List (List ℕ) → Gate → Bound → ℕ → List (List Cell) → List Row
sent_rows texts gate b side table = map (sent_row texts gate b side) table

-- a cell is of its column's kind, and the dictionary has each text
abbrev pub FitsKind : List (List ℕ) → Kind → Cell → Type 0
FitsKind texts kind.Number (cell.Number n) = Unit {0}
FitsKind texts kind.Number (cell.Text t) = ⊥
FitsKind texts kind.Text (cell.Number n) = ⊥
FitsKind texts kind.Text (cell.Text t) = In t texts
FitsKind texts kind.Void c = ⊥

-- each carried cell of each row fits
abbrev pub TableFits : List (List ℕ) → (ℕ → ℕ → Kind) → Bound → ℕ → List (List Cell) → Type 0
TableFits texts kinds b side table = Each (λ row. Each (λ at. FitsKind texts (kinds side at) (slice_index_or row at (cell.Number (pos 0)))) (carried_of b side)) table

-- a summed column isn't Text, and the key columns of a join or a semi-join are of one kind
abbrev pub KindsFit : (ℕ → ℕ → Kind) → Shape → Type 0
KindsFit kinds shape.Filter = Unit {0}
KindsFit kinds shape.Distinct = Unit {0}
KindsFit kinds (shape.Top by descending limit) = Unit {0}
KindsFit kinds (shape.Group keys max value) = Unit {0}
KindsFit kinds (shape.Having keys None above) = Unit {0}
KindsFit kinds (shape.Having keys (Some value) above) = kinds value.side value.at ≢ kind.Text
KindsFit kinds (shape.Join left right) = kinds left.side left.at ≡ kinds right.side right.at
KindsFit kinds (shape.Skyline dims) = Unit {0}
KindsFit kinds (shape.Semi key within) = kinds key.side key.at ≡ kinds within.side within.at

-- the rows of a table of the query
abbrev pub table_of : List (List (List Cell)) → ℕ → List (List Cell)
table_of tables side = slice_index_or tables side []

-- all rows that the tables give
abbrev pub all_sent : List (List ℕ) → Gate → Bound → List (List (List Cell)) → List Row
all_sent texts gate b tables = sent_rows texts gate b 0 (table_of tables 0) ++ sent_rows texts gate b 1 (table_of tables 1)

-- What a sound query and its tables meet: the query names only what it carries, for at most two tables, and for one table
-- alone where its kind has one; the dictionary ascends; the cells are of the columns' kinds
pub record AreSound (texts : List (List ℕ)) (kinds : ℕ → ℕ → Kind) (b : Bound) (tables : List (List (List Cell))) : Type 0 where
  pub names : NamesOnly (IsCarried b) b
  pub sides : length b.carried ≤ 2
  pub alone : has_one_table b.shape ≡ true → table_of tables 1 ≡ []
  pub ascends : Ascends texts
  pub kinds_fit : KindsFit kinds b.shape
  pub first : TableFits texts kinds b 0 (table_of tables 0)
  pub second : TableFits texts kinds b 1 (table_of tables 1)

abbrev pub column : ℕ → ℕ → Col
column side at = record { side = side; at = at }

abbrev pub is_col : Col → ℕ → ℕ → Bool
is_col c side at = (c.side == side) && (c.at == at)

-- the kind by which a key column is read: if it has no rows, that of the column with which it is compared
abbrev pub key_kind : Kind → Kind → Kind
key_kind kind.Number other = kind.Number
key_kind kind.Text other = kind.Text
key_kind kind.Void other = other

abbrev pub keys_read : Bound → Col → Col → ℕ → ℕ → Kind
keys_read b key other side at =
    if is_col key side at then key_kind (kind_of b key) (kind_of b other)
    else (if is_col other side at then key_kind (kind_of b other) (kind_of b key) else kind_of b (column side at))

-- the kind by which the words of a column are read
abbrev pub kinds_read : Bound → Shape → ℕ → ℕ → Kind
kinds_read b shape.Filter side at = kind_of b (column side at)
kinds_read b shape.Distinct side at = kind_of b (column side at)
kinds_read b (shape.Top by descending limit) side at = kind_of b (column side at)
kinds_read b (shape.Group keys max value) side at = kind_of b (column side at)
kinds_read b (shape.Having keys sum above) side at = kind_of b (column side at)
kinds_read b (shape.Join left right) side at = keys_read b left right side at
kinds_read b (shape.Skyline dims) side at = kind_of b (column side at)
kinds_read b (shape.Semi key within) side at = keys_read b key within side at

-- the tables of a query: one for each side, whose carried cells are of their columns' kinds, with each text in the dictionary
pub record TablesFit (texts : List (List ℕ)) (b : Bound) (tables : List (List (List Cell))) : Type 0 where
  pub sides : length tables ≡ sides_of b.shape
  pub cells : (side : ℕ) → TableFits texts (λ s at. kind_of b (column s at)) b side (table_of tables side)
