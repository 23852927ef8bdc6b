use Rattle.std.proofs.Common.{◌≡◌, ◌<◌, ◌++◌, ℕ, List, length, map, take, All}
use Rattle.ch_pred.specs.declared.bound.Bound.{Bound}
use Rattle.ch_tables.specs.TableValue.{TableValue}
use Rattle.ch_parts.specs.Scanned.{part_of, side_table}
use Rattle.ch_parts.specs.Tidy.{IsSource, source_part}
use Rattle.ch_sources.proofs.listing.push_sources.Given as goal

abbrev pub invariant-loop-part : goal.invariant-loop-part
invariant-loop-part l = record {
  sources : (b : Bound) (tables : List TableValue) → l.side < length b.tables → side_table b tables l.side ≡ l.table → All (IsSource b tables) l.fn.sources.items → All (IsSource b tables) l.sources.items;
  parts : (texts : List (List ℕ)) (b : Bound) (tables : List TableValue) → side_table b tables l.side ≡ l.table
      → map (source_part texts b tables) l.sources.items ≡ map (source_part texts b tables) l.fn.sources.items ++ map (part_of texts b l.side) (take l.part l.table.parts);
}
