use Rattle.std.proofs.Common.{◌≡◌, drop, max}
use Rattle.ch_ir.specs.Rules.{update_operands}
use Rattle.ch_ir.specs.Measure.{operands_end}
use Rattle.ch_verify.proofs.sizes.updates_end.Given as goal

abbrev pub invariant-loop-update : goal.invariant-loop-update
invariant-loop-update l = max l.end (operands_end (update_operands (drop l.update-index l.updates))) ≡ operands_end (update_operands l.updates)
