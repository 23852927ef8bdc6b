use Rattle.std.proofs.Common.{◌≡◌, map, take}
use Rattle.ch_ir.specs.declared.program.Operand.TheVariants.{Word}
use Rattle.op_cache.proofs.operands.words_of.Given as goal

abbrev pub invariant-loop-word : goal.invariant-loop-word
invariant-loop-word l = l.operands ≡ map Word (take l.word-index l.words)
