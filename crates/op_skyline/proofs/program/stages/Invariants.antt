use Rattle.op_skyline.proofs.UnderWay.{IsUnderWay}
use Rattle.op_skyline.proofs.program.stages.Given as goal

abbrev pub invariant-loop-array : goal.invariant-loop-array
invariant-loop-array l = IsUnderWay l.sizes l.builder l.array l.place
