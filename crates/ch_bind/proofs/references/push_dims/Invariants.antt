use Rattle.std.proofs.Common.{◌≡◌, ◌++◌, map, take}
use Rattle.ch_bind.specs.References.{dim_reference}
use Rattle.ch_bind.proofs.references.push_dims.Given as goal

abbrev pub invariant-loop-dim : goal.invariant-loop-dim
invariant-loop-dim l = l.refs ≡ l.initial.refs ++ map (dim_reference l.scope) (take l.dim-index l.dims)
