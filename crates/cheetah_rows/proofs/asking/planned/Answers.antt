use Rattle.cheetah_run.proofs.Asked.{plannable, ranged}
use Rattle.cheetah_rows.proofs.asking.planned.Goals as goal

pub plan-requires-clause-kind : goal.plan-requires-clause-kind
plan-requires-clause-kind c = plannable c.args.inputs.now c.requires

pub plan-requires-clause-ranged : goal.plan-requires-clause-ranged
plan-requires-clause-ranged c = ranged c.args.inputs.now c.requires
