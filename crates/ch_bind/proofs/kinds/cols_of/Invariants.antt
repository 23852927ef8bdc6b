use Rattle.std.proofs.Common.{◌≡◌, map, take}
use Rattle.ch_bind.specs.Scope.{col_of}
use Rattle.ch_bind.proofs.kinds.cols_of.Given as goal

abbrev pub invariant-loop-col : goal.invariant-loop-col
invariant-loop-col l = l.found ≡ map (col_of l.scope) (take l.col-index l.cols)
