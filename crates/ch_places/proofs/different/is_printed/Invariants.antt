use Rattle.std.proofs.Common.{◌≡◌, drop}
use Rattle.std.specs.List.{list_any}
use Rattle.ch_pred.specs.Named.{printed_cols}
use Rattle.ch_places.specs.Different.{is_same_col}
use Rattle.ch_places.proofs.different.is_printed.Given as goal

abbrev pub invariant-loop-item : goal.invariant-loop-item
invariant-loop-item l = list_any (is_same_col l.col) (printed_cols (drop l.item-index l.items)) ≡ list_any (is_same_col l.col) (printed_cols l.items)
