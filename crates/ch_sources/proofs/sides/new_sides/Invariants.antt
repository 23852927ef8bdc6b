use Rattle.std.proofs.Common.{◌≡◌, ◌<◌, ℕ, length}
use Rattle.std.specs.Prelude.{slice_index_or}
use Rattle.ch_parts.specs.Tidy.{IsSideOf}
use Rattle.ch_parts.specs.declared.side.Side.{Side}
use Rattle.ch_sources.proofs.sides.new_sides.Given as goal

abbrev pub invariant-loop-number : goal.invariant-loop-number
invariant-loop-number l = record {
  many : length l.sides.items ≡ l.number-index;
  each : (side : ℕ) (d : Side) → side < l.number-index → IsSideOf l.ranks l.bound l.tables side (slice_index_or l.sides.items side d);
}
