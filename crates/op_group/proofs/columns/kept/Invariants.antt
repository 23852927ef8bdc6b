use Rattle.std.proofs.Common.{◌≡◌, replicate}
use Rattle.ch_ir.specs.declared.program.Update.TheVariants.{Keep}
use Rattle.op_group.proofs.columns.kept.Given as goal

abbrev pub invariant-loop-at : goal.invariant-loop-at
invariant-loop-at l = l.updates ≡ replicate l.at Keep
