use Rattle.std.proofs.Common.{◌≡◌, drop, max}
use Rattle.ch_ir.specs.Measure.{stages_end}
use Rattle.ch_verify.proofs.sizes.stages_end.Given as goal

abbrev pub invariant-loop-t : goal.invariant-loop-t
invariant-loop-t l = max l.end (stages_end l.arrays (drop l.t-index l.stages)) ≡ stages_end l.arrays l.stages
