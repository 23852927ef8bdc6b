use Rattle.cheetah_inputs_laws.proofs.Planned.{inputs_planned}
use Rattle.cheetah_inputs_laws.proofs.queries_within_limits_are_planned.Goals as goal

pub returns : goal.returns
returns c = inputs_planned
