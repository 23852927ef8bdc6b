use Rattle.std.proofs.Common.{◌≡◌, map, take}
use Rattle.op_moves.specs.Columns.{place_of}
use Rattle.ch_plan.proofs.places.places_of.Given as goal

abbrev pub invariant-loop-dim : goal.invariant-loop-dim
invariant-loop-dim l = l.places ≡ map (λ k. place_of l.bound k.col) (take l.dim-index l.dims)
