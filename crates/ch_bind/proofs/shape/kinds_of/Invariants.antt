use Rattle.std.proofs.Common.{◌≡◌, take}
use Rattle.ch_bind.proofs.shape.kinds_of.Given as goal

abbrev pub invariant-loop-col : goal.invariant-loop-col
invariant-loop-col l = l.kinds ≡ take l.col l.table.kinds
