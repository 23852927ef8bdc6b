use Rattle.std.proofs.Common.{◌≡◌, drop}
use Rattle.std.specs.List.{list_any}
use Rattle.std.specs.Ordering.{is_lt}
use Rattle.ch_fold_orders.specs.Front.{axis_cmp}
use Rattle.ch_fold_orders.proofs.front.is_better.Given as goal

abbrev pub invariant-loop-axis : goal.invariant-loop-axis
invariant-loop-axis l = list_any (λ x. is_lt (axis_cmp l.a l.b x)) (drop l.axis-index l.axes) ≡ list_any (λ x. is_lt (axis_cmp l.a l.b x)) l.axes
