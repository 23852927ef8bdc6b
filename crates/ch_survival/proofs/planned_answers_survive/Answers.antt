use Rattle.ch_survival.proofs.Survives.{asked_survives}
use Rattle.ch_survival.proofs.planned_answers_survive.Goals as goal

pub returns : goal.returns
returns _ = asked_survives
