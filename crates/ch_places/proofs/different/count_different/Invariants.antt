use Rattle.std.proofs.Common.{◌≡◌, ◌≤◌, ◌+◌, drop}
use Rattle.ch_places.proofs.Counted.{counted}
use Rattle.ch_places.proofs.different.count_different.Given as goal

abbrev pub invariant-loop-at : goal.invariant-loop-at
invariant-loop-at l = record {
  rest : l.count + counted (drop l.at l.cols) ≡ counted l.cols;
  few : l.count ≤ l.at;
}
