use Rattle.std.proofs.Common.{◌≡◌, drop}
use Rattle.std.specs.List.{list_all}
use Rattle.std.specs.Ordering.{is_le}
use Rattle.ch_fold_orders.specs.Front.{axis_cmp}
use Rattle.ch_fold_orders.proofs.front.is_as_good.Given as goal

abbrev pub invariant-loop-axis : goal.invariant-loop-axis
invariant-loop-axis l = list_all (λ x. is_le (axis_cmp l.a l.b x)) (drop l.axis-index l.axes) ≡ list_all (λ x. is_le (axis_cmp l.a l.b x)) l.axes
