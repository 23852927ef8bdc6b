use Rattle.std.proofs.Common.{◌≡◌, ℕ, List, map, flat_map, All}
use Rattle.ch_protocol.specs.Sets.{numbers_from}
use Rattle.ch_parts.specs.Scanned.{parts_of_table}
use Rattle.ch_parts.specs.Tidy.{IsSource, source_part}
use Rattle.ch_sources.proofs.listing.new_sources.Given as goal

abbrev pub invariant-loop-number : goal.invariant-loop-number
invariant-loop-number l = record {
  sources : All (IsSource l.bound l.tables) l.sources.items;
  parts : (texts : List (List ℕ)) → map (source_part texts l.bound l.tables) l.sources.items ≡ flat_map (parts_of_table texts l.bound l.tables) (numbers_from 0 l.number);
}
