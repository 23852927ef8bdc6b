use Rattle.ch_survival.proofs.Survives.{asked_sent}
use Rattle.ch_survival.proofs.rows_are_sent.Goals as goal

pub returns : goal.returns
returns _ = asked_sent
