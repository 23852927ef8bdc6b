use Rattle.std.proofs.Common.{◌≡◌, drop, max}
use Rattle.ch_ir.specs.Measure.{ops_end}
use Rattle.ch_verify.proofs.sizes.ops_end.Given as goal

abbrev pub invariant-loop-op : goal.invariant-loop-op
invariant-loop-op l = max l.end (ops_end (drop l.op-index l.ops)) ≡ ops_end l.ops
