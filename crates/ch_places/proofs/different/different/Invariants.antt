use Rattle.std.proofs.Common.{◌≡◌, drop}
use Rattle.ch_places.specs.Different.{different}
use Rattle.ch_places.proofs.different.different.Given as goal

abbrev pub invariant-loop-at : goal.invariant-loop-at
invariant-loop-at l = l.ascending.items ≡ different (drop l.at l.cols)
