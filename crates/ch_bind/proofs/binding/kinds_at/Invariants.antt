use Rattle.std.proofs.Common.{◌≡◌, map, take}
use Rattle.ch_bind.specs.Scope.{kind_at}
use Rattle.ch_bind.proofs.binding.kinds_at.Given as goal

abbrev pub invariant-loop-at : goal.invariant-loop-at
invariant-loop-at l = l.kinds ≡ map (kind_at l.table) (take l.at-index l.carried)
