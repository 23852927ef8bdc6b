-- What the workers of a query scan.
use Rattle.std.specs.Prelude.{◌≡◌, ℕ, ◌==◌, ◌<◌, ◌≤◌, ◌+◌, ◌^◌, Bool, true, if◌then◌else◌, List, [], ◌∷◌, length, map, flat_map, slice_index_or, All, bytes_eq}
use Rattle.std.specs.List.{list_any}
use Rattle.ch_cells.specs.declared.Cell.{Cell}
use Rattle.ch_cover.specs.Rows.{Row}
use Rattle.ch_pred.specs.declared.bound.Bound.{Bound}
use Rattle.ch_pred.specs.Sound.{carried_of}
use Rattle.ch_protocol.specs.Packets.{Part, Tuple}
use Rattle.ch_protocol.specs.Sets.{numbers_from}
use Rattle.ch_tables.specs.TableValue.{TableValue}
use Rattle.ch_tables.specs.Texts.{texts_of}
use Rattle.ch_words.specs.Packets.{sent_row}
use Rattle.ch_stands.specs.Asked.{IsAsked, asked_gate}

-- stands where a number is no table's
abbrev pub no_table : TableValue
no_table = record { name = []; header = []; kinds = []; parts = [] }

abbrev pub table_at : List TableValue → ℕ → TableValue
table_at tables number = slice_index_or tables number no_table

-- the table of a side of a query
abbrev pub side_table : Bound → List TableValue → ℕ → TableValue
side_table b tables side = table_at tables (slice_index_or b.tables side 0)

-- the rows of a query's tables, side by side
abbrev pub asked_tables : Bound → List TableValue → List (List (List Cell))
asked_tables b tables = map (λ number. flat_map (λ part. part) (table_at tables number).parts) b.tables

-- a row as a worker sends it
abbrev pub tuple_of : List (List ℕ) → Bound → ℕ → List Cell → Tuple
tuple_of texts b side row = let sent = sent_row texts (asked_gate texts b) b side row in record { bit = sent.bit; words = sent.words }

-- Parts by how a row of a side is sent.

-- a part of a table of a side
abbrev pub part_by : (ℕ → List Cell → Tuple) → ℕ → List (List Cell) → Part
part_by tuple side rows = record { side = side; tuples = map (tuple side) rows }

-- the parts of a table, if it is that of this side. The tables of the sides are given by their numbers
abbrev pub parts_by_side : (ℕ → List Cell → Tuple) → List ℕ → List TableValue → ℕ → ℕ → List Part
parts_by_side tuple asked tables number side = if slice_index_or asked side 0 == number then map (part_by tuple side) (table_at tables number).parts else []

abbrev pub parts_by_table : (ℕ → List Cell → Tuple) → List ℕ → List TableValue → ℕ → List Part
parts_by_table tuple asked tables number = flat_map (parts_by_side tuple asked tables number) (numbers_from 0 (length asked))

-- The workers' parts: table by table in the order of the tables, and in a table in the order of its parts
abbrev pub parts_by : (ℕ → List Cell → Tuple) → List ℕ → List TableValue → List Part
parts_by tuple asked tables = flat_map (parts_by_table tuple asked tables) (numbers_from 0 (length tables))

-- The same of a query.

abbrev pub part_of : List (List ℕ) → Bound → ℕ → List (List Cell) → Part
part_of texts b = part_by (tuple_of texts b)

abbrev pub parts_of_side : List (List ℕ) → Bound → List TableValue → ℕ → ℕ → List Part
parts_of_side texts b = parts_by_side (tuple_of texts b) b.tables

abbrev pub parts_of_table : List (List ℕ) → Bound → List TableValue → ℕ → List Part
parts_of_table texts b = parts_by_table (tuple_of texts b) b.tables

abbrev pub parts_of : List (List ℕ) → Bound → List TableValue → List Part
parts_of texts b = parts_by (tuple_of texts b) b.tables

-- what a query's tables meet: it is asked of them, each is there with the columns that are carried, and its texts are in the
-- dictionary
pub record AreTables (texts : List (List ℕ)) (b : Bound) (tables : List TableValue) : Type 0 where
  pub asked : IsAsked texts b (asked_tables b tables)
  pub there : All (λ number. number < length tables) b.tables
  pub columns : (side : ℕ) → side < length b.tables → All (λ at. at < length (side_table b tables side).header) (carried_of b side)
  pub texts_in : (side : ℕ) → side < length b.tables → All (λ text. list_any (bytes_eq text) texts ≡ true) (texts_of (side_table b tables side))
