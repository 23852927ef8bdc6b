use Rattle.cheetah_inputs.proofs.Asked.{fair_steps, few_steps, unforged_steps}
use Rattle.cheetah_inputs.proofs.laws.read_schedules_can_be_run.Goals as goal

pub returns-clause-few : goal.returns-clause-few
returns-clause-few c = few_steps

pub returns-clause-unforged : goal.returns-clause-unforged
returns-clause-unforged c = unforged_steps

pub returns-clause-fair : goal.returns-clause-fair
returns-clause-fair c = fair_steps
