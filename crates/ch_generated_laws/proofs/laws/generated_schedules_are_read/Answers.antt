use Rattle.ch_generated_laws.proofs.Schedules.{read_as}
use Rattle.ch_generated_laws.proofs.laws.generated_schedules_are_read.Goals as goal

pub returns : goal.returns
returns c request = read_as request
