use Rattle.std.proofs.Common.{◌≡◌, ◌+◌, ◌-◌, ◌*◌}
use Rattle.op_skyline.specs.Emitted.{compare_ops}
use Rattle.op_skyline.proofs.Loops.{IsComputing}
use Rattle.op_skyline.proofs.emitting.make_compared.Given as goal

abbrev pub invariant-loop-done : goal.invariant-loop-done
invariant-loop-done l = record {
  told_is : l.told ≡ l.initial.told + 2 * l.done;
  made : IsComputing (compare_ops (l.words - l.done) (l.row + l.done) (l.old + l.done) l.told) (compare_ops l.words l.row l.old l.initial.told) l.initial.builder l.builder;
}
