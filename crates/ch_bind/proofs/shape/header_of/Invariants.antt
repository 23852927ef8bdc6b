use Rattle.std.proofs.Common.{◌≡◌, take}
use Rattle.ch_bind.proofs.shape.header_of.Given as goal

abbrev pub invariant-loop-name : goal.invariant-loop-name
invariant-loop-name l = l.copy ≡ take l.name-index l.header
