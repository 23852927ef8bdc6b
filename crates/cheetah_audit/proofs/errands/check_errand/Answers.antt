use Rattle.cheetah_run.proofs.Asked.{few_carried, plannable, ranged}
use Rattle.cheetah_audit.proofs.errands.check_errand.Goals as goal

pub plan-requires-clause-kind : goal.plan-requires-clause-kind
plan-requires-clause-kind c = plannable c.args.inputs.now c.requires.asked

pub plan-requires-clause-few : goal.plan-requires-clause-few
plan-requires-clause-few c = few_carried c.args.inputs.now c.requires.asked

pub plan-requires-clause-ranged : goal.plan-requires-clause-ranged
plan-requires-clause-ranged c = ranged c.args.inputs.now c.requires.asked
