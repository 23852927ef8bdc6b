-- What the fields of the workers' parts hold.
use Rattle.std.specs.Prelude.{◌≡◌, ℕ, ℤ, ◌<◌, ◌+◌, ◌^◌, List, [], length, map, All, slice_index_or}
use Rattle.ch_pred.specs.declared.bound.Bound.{Bound}
use Rattle.ch_pred.specs.Part.{part_of as filter_part}
use Rattle.ch_pred.specs.Plain.{plain_of}
use Rattle.ch_protocol.specs.Packets.{Part}
use Rattle.ch_tables.specs.TableValue.{TableValue}
use Rattle.ch_tables.specs.Texts.{texts_of}
use Rattle.ch_table_words.specs.RowWords.{ranks_of}
use Rattle.ch_packet.specs.declared.packet.Packet.{Packet}
use Rattle.ch_parts.specs.declared.row.Head.{Head}
use Rattle.ch_parts.specs.declared.side.Side.{Side}
use Rattle.ch_parts.specs.declared.row.Source.{Source}
use Rattle.ch_parts.specs.Scanned.{AreTables, part_of, side_table, table_at}

-- the part of a table that a source names
abbrev pub source_part : List (List ℕ) → Bound → List TableValue → Source → Part
source_part texts b tables s = part_of texts b s.side (slice_index_or (side_table b tables s.side).parts s.part [])

-- the filter's part of a side, and the ranks of the texts of its table
pub record IsSideOf (texts : List (List ℕ)) (b : Bound) (tables : List TableValue) (side : ℕ) (s : Side) : Type 0 where
  pub own : plain_of s.own ≡ filter_part (plain_of b.filter) side
  pub places : s.places ≡ ranks_of texts (texts_of (side_table b tables side))

-- a source names a part that is there, and how many rows it has
pub record IsSource (b : Bound) (tables : List TableValue) (s : Source) : Type 0 where
  pub side : s.side < length b.tables
  pub part : s.part < length (side_table b tables s.side).parts
  pub rows : s.rows ≡ length (slice_index_or (side_table b tables s.side).parts s.part [])

pub record IsTidy (texts : List (List ℕ)) (b : Bound) (tables : List TableValue) (sides : List Side) (sources : List Source) : Type 0 where
  pub tables_are : AreTables texts b tables
  pub sides_are : (length sides ≡ length b.tables) × ((side : ℕ) (d : Side) → side < length sides → IsSideOf texts b tables side (slice_index_or sides side d))
  pub sources_are : All (IsSource b tables) sources

-- the packet with this head and these words
abbrev pub packet_with : Head → List ℤ → Packet
packet_with head words = record { kind = head.kind; pass = head.pass; worker = head.worker; side = head.side; number = head.number; epoch = head.epoch; bit = head.bit; words = words }
