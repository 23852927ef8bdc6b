use Rattle.ch_run.proofs.Scheduling.{schedule_short, schedule_unforged}
use Rattle.ch_run.proofs.laws.schedules_may_be_followed.Goals as goal

pub returns-clause-unforged : goal.returns-clause-unforged
returns-clause-unforged c = schedule_unforged

pub returns-clause-few : goal.returns-clause-few
returns-clause-few c = schedule_short
