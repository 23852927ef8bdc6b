use Rattle.op_topn.proofs.UnderWay.{IsUnderWay}
use Rattle.op_topn.proofs.emitting.stages.Given as goal

abbrev pub invariant-loop-done : goal.invariant-loop-done
invariant-loop-done l = IsUnderWay l.sizes l.builder l.done l.bad
