use Rattle.std.proofs.Common.{◌≡◌, ◌∷◌, map, pos, take}
use Rattle.ch_ir.specs.declared.program.Operand.TheVariants.{Word, Const}
use Rattle.op_distinct.proofs.emit.carried_of.Given as goal

abbrev pub invariant-loop-word : goal.invariant-loop-word
invariant-loop-word l = l.carried ≡ Const (pos 1) ∷ map Word (take l.word-index l.key)
