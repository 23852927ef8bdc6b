use Rattle.std.proofs.Common.{◌≡◌, ◌≤◌, ◌+◌, drop}
use Rattle.ch_pred.specs.Named.{printed_cols}
use Rattle.ch_places.proofs.Counted.{counted}
use Rattle.ch_places.proofs.different.count_printed.Given as goal

abbrev pub invariant-loop-at : goal.invariant-loop-at
invariant-loop-at l = record {
  rest : l.count + counted (printed_cols (drop l.at l.items)) ≡ counted (printed_cols l.items);
  few : l.count ≤ l.at;
}
