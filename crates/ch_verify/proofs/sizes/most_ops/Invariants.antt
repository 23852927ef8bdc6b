use Rattle.std.proofs.Common.{◌≡◌, drop, max}
use Rattle.ch_ir.specs.Measure.{most_ops}
use Rattle.ch_verify.proofs.sizes.most_ops.Given as goal

abbrev pub invariant-loop-t : goal.invariant-loop-t
invariant-loop-t l = max l.most (most_ops (drop l.t-index l.stages)) ≡ most_ops l.stages
