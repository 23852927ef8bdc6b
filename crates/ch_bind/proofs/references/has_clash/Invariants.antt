use Rattle.std.proofs.Common.{◌≡◌, drop}
use Rattle.ch_bind.specs.References.{has_clash}
use Rattle.ch_bind.proofs.references.has_clash.Given as goal

-- the literals left decide
abbrev pub invariant-loop-literal : goal.invariant-loop-literal
invariant-loop-literal l = has_clash l.kind (drop l.literal-index l.literals) ≡ has_clash l.kind l.literals
