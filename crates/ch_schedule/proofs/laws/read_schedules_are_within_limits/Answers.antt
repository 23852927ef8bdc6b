use Rattle.ch_schedule.proofs.Limits.{read_fair, read_few, read_unforged}
use Rattle.ch_schedule.proofs.laws.read_schedules_are_within_limits.Goals as goal

pub returns-clause-few : goal.returns-clause-few
returns-clause-few c = read_few

pub returns-clause-unforged : goal.returns-clause-unforged
returns-clause-unforged c = read_unforged

pub returns-clause-fair : goal.returns-clause-fair
returns-clause-fair c = read_fair
