use Rattle.std.proofs.Common.{◌+◌, drop}
use Rattle.op_skyline.specs.Emitted.{turned_ops}
use Rattle.op_skyline.proofs.Loops.{IsComputing}
use Rattle.op_skyline.proofs.emitting.make_turned.Given as goal

abbrev pub invariant-loop-at : goal.invariant-loop-at
invariant-loop-at l = IsComputing (turned_ops (l.to + l.at) (drop l.at l.places) (drop l.at l.max)) (turned_ops l.to l.places l.max) l.initial.builder l.builder
