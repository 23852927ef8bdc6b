use Rattle.std.proofs.Common.{◌≡◌, ◌++◌, map, take}
use Rattle.ch_bind.specs.References.{mere}
use Rattle.ch_bind.proofs.references.push_columns.Given as goal

abbrev pub invariant-loop-col : goal.invariant-loop-col
invariant-loop-col l = l.refs ≡ l.initial.refs ++ map (mere l.scope) (take l.col-index l.cols)
