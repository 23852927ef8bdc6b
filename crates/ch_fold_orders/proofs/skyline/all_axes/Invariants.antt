use Rattle.std.proofs.Common.{◌≡◌, map, take}
use Rattle.ch_fold_orders.specs.Skyline.{axis_of}
use Rattle.ch_fold_orders.proofs.skyline.all_axes.Given as goal

abbrev pub invariant-loop-dim : goal.invariant-loop-dim
invariant-loop-dim l = l.axes ≡ map (axis_of l.query) (take l.dim-index l.dims)
