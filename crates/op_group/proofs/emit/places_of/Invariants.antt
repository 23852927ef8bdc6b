use Rattle.std.proofs.Common.{◌≡◌, take}
use Rattle.op_group.proofs.emit.places_of.Given as goal

abbrev pub invariant-loop-place : goal.invariant-loop-place
invariant-loop-place l = l.places ≡ take l.place-index l.key
