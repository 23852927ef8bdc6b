use Rattle.std.proofs.Common.{◌≡◌, take}
use Rattle.ch_bind.proofs.filter.copy_literals.Given as goal

abbrev pub invariant-loop-literal : goal.invariant-loop-literal
invariant-loop-literal l = l.copy.items ≡ take l.literal-index l.literals
