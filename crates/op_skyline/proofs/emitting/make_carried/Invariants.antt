use Rattle.std.proofs.Common.{◌+◌, ◌-◌}
use Rattle.op_skyline.specs.Emitted.{carry_ops}
use Rattle.op_skyline.proofs.Loops.{IsComputing}
use Rattle.op_skyline.proofs.emitting.make_carried.Given as goal

abbrev pub invariant-loop-done : goal.invariant-loop-done
invariant-loop-done l = IsComputing (carry_ops (l.words - l.done) (l.to + l.done) l.hit (l.old + l.done) (l.carry + l.done)) (carry_ops l.words l.to l.hit l.old l.carry) l.initial.builder l.builder
