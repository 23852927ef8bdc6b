use Rattle.std.proofs.Common.{◌+◌, ◌-◌, pos}
use Rattle.ch_ir.specs.declared.program.Operand.TheVariants.{Const}
use Rattle.op_skyline.specs.Emitted.{sum_ops}
use Rattle.op_skyline.proofs.Loops.{IsComputing}
use Rattle.op_skyline.proofs.emitting.make_sums.Given as goal

abbrev pub invariant-loop-done : goal.invariant-loop-done
invariant-loop-done l = IsComputing (sum_ops (l.words - l.done) (l.to + l.done) (l.from + l.done) l.so_far) (sum_ops l.words l.to l.from (Const (pos 0))) l.initial.builder l.builder
