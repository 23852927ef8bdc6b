use Rattle.std.proofs.Common.{◌≡◌, map, take}
use Rattle.ch_plan.proofs.places.directions_of.Given as goal

abbrev pub invariant-loop-dim : goal.invariant-loop-dim
invariant-loop-dim l = l.max ≡ map (λ k. k.max) (take l.dim-index l.dims)
