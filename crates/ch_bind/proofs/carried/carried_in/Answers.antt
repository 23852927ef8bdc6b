use Rattle.std.proofs.Common.{arith}
use Rattle.ch_bind.proofs.Marking.{carried_step, few_step}
use Rattle.ch_bind.proofs.carried.carried_in.Goals as goal

pub loop-at-preserved : goal.loop-at-preserved
loop-at-preserved c = record {
  kept = carried_step c.args.whole c.as_slice.result.now c.len-len.result c.args.side c.args.refs.now c.loop-at.carried c.push_if.new.kept c.loop-at.at c.is_kept-is.result
      (rw c.as_slice.ensures.value c.in_ok-marks.ensures) (omega arith) c.loop-at.invariant.kept c.is_kept-is.ensures c.in_ok-push_if.ensures;
  few = few_step c.loop-at.carried c.push_if.new.kept c.is_kept-is.result c.loop-at.at c.in_ok-push_if.ensures c.loop-at.invariant.few;
}
