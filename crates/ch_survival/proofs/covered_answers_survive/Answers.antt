use Rattle.ch_survival.proofs.Survives.{survives}
use Rattle.ch_survival.proofs.covered_answers_survive.Goals as goal

pub returns : goal.returns
returns _ = survives
