use Rattle.std.proofs.Common.{◌≡◌, drop, max}
use Rattle.ch_ir.specs.Measure.{operands_end}
use Rattle.ch_verify.proofs.sizes.operands_end.Given as goal

abbrev pub invariant-loop-operand : goal.invariant-loop-operand
invariant-loop-operand l = max l.end (operands_end (drop l.operand-index l.operands)) ≡ operands_end l.operands
