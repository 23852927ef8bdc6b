use Rattle.cheetah_inputs.proofs.Asked.{asked_inputs, planned_inputs}
use Rattle.cheetah_inputs.proofs.laws.read_inputs_can_be_asked.Goals as goal

pub returns-clause-planned : goal.returns-clause-planned
returns-clause-planned c = planned_inputs

pub returns-clause-asked : goal.returns-clause-asked
returns-clause-asked c = asked_inputs
