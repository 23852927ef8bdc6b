use Rattle.std.proofs.Common.{◌≡◌, ◌≤◌, ◌||◌, length}
use Rattle.std.specs.Prelude.{filter}
use Rattle.std.specs.List.{range_with_len}
use Rattle.ch_bind.specs.References.{is_named}
use Rattle.ch_bind.proofs.carried.carried_in.Given as goal

-- the columns so far
abbrev pub invariant-loop-at : goal.invariant-loop-at
invariant-loop-at l = record {
  kept : l.carried ≡ filter (λ at. l.whole || is_named l.refs l.side at) (range_with_len 0 l.at);
  few : length l.carried ≤ l.at;
}
