use Rattle.std.proofs.Common.{◌≡◌, ◌++◌, drop}
use Rattle.ch_pred.specs.Named.{printed_cols}
use Rattle.ch_places.proofs.different.printed_cols.Given as goal

abbrev pub invariant-loop-item : goal.invariant-loop-item
invariant-loop-item l = l.cols ++ printed_cols (drop l.item-index l.items) ≡ printed_cols l.items
