use Rattle.ch_survival.proofs.Starts.{starts}
use Rattle.ch_survival.proofs.Survives.{asked_starts}
use Rattle.ch_survival.proofs.plans_start.Goals as goal

pub returns-clause-rows : goal.returns-clause-rows
returns-clause-rows _ = starts

pub returns-clause-tables : goal.returns-clause-tables
returns-clause-tables _ = asked_starts
