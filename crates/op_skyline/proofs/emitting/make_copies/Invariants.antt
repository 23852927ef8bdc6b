use Rattle.std.proofs.Common.{◌+◌, ◌-◌}
use Rattle.op_skyline.specs.Emitted.{copy_ops}
use Rattle.op_skyline.proofs.Loops.{IsComputing}
use Rattle.op_skyline.proofs.emitting.make_copies.Given as goal

abbrev pub invariant-loop-done : goal.invariant-loop-done
invariant-loop-done l = IsComputing (copy_ops (l.words - l.done) (l.to + l.done) (l.from + l.done)) (copy_ops l.words l.to l.from) l.initial.builder l.builder
