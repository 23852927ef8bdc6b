use Rattle.std.proofs.Common.{◌≡◌, map, take}
use Rattle.ch_bind.specs.Binding.{dim_of}
use Rattle.ch_bind.proofs.kinds.dims_of.Given as goal

abbrev pub invariant-loop-dim : goal.invariant-loop-dim
invariant-loop-dim l = l.found ≡ map (dim_of l.scope) (take l.dim-index l.dims)
