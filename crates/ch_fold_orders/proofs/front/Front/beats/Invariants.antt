use Rattle.std.proofs.Common.{◌≡◌, drop}
use Rattle.std.specs.List.{list_any}
use Rattle.ch_fold_orders.specs.Front.{is_over}
use Rattle.ch_fold_orders.proofs.front.Front.beats.Given as goal

abbrev pub invariant-loop-row : goal.invariant-loop-row
invariant-loop-row l = list_any (λ s. is_over l.axes s.items l.words) (drop l.row-index l.row-items) ≡ list_any (λ s. is_over l.axes s.items l.words) l.row-items
