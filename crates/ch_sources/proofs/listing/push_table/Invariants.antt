use Rattle.std.proofs.Common.{◌≡◌, ◌++◌, ℕ, List, map, flat_map, All}
use Rattle.ch_protocol.specs.Sets.{numbers_from}
use Rattle.ch_parts.specs.Scanned.{parts_of_side}
use Rattle.ch_parts.specs.Tidy.{IsSource, source_part}
use Rattle.ch_sources.proofs.listing.push_table.Given as goal

abbrev pub invariant-loop-side : goal.invariant-loop-side
invariant-loop-side l = record {
  sources : All (IsSource l.bound l.tables) l.fn.sources.items → All (IsSource l.bound l.tables) l.sources.items;
  parts : (texts : List (List ℕ)) → map (source_part texts l.bound l.tables) l.sources.items
      ≡ map (source_part texts l.bound l.tables) l.fn.sources.items ++ flat_map (parts_of_side texts l.bound l.tables l.number) (numbers_from 0 l.side);
}
