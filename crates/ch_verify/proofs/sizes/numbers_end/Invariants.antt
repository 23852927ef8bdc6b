use Rattle.std.proofs.Common.{◌≡◌, drop, max, map}
use Rattle.ch_ir.specs.declared.program.Operand.TheVariants.{Word}
use Rattle.ch_ir.specs.Measure.{operands_end}
use Rattle.ch_verify.proofs.sizes.numbers_end.Given as goal

abbrev pub invariant-loop-number : goal.invariant-loop-number
invariant-loop-number l = max l.end (operands_end (map Word (drop l.number-index l.numbers))) ≡ operands_end (map Word l.numbers)
