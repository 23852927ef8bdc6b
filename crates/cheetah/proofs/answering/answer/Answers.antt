use Rattle.cheetah.proofs.Planned.{refusal_comes}
use Rattle.cheetah.proofs.answering.answer.Goals as goal
use Rattle.cheetah_run.proofs.Asked.{plannable, ranged}

pub plan-requires-clause-kind : goal.plan-requires-clause-kind
plan-requires-clause-kind c = plannable c.args.inputs.now c.requires

pub plan-requires-clause-ranged : goal.plan-requires-clause-ranged
plan-requires-clause-ranged c = ranged c.args.inputs.now c.requires

pub returns-in_ok-line-in-Err : goal.returns-in_ok-line-in-Err
returns-in_ok-line-in-Err c =
    rw c.refused.ensures (refusal_comes c.args.inputs.now c.args.print c.in-Err.error c.plan.result c.in_ok-line-in-Err.line c.in-Err.is c.in_ok-line-in-Err.ensures.known c.in_ok-line-in-Err.ensures.line c.plan.ensures.refused c.plan.ensures.memory)
