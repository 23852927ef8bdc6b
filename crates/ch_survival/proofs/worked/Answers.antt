use Rattle.ch_survival.proofs.WorkedFilter.{filter_survives}
use Rattle.ch_survival.proofs.worked.Goals as goal

pub returns : goal.returns
returns _ = filter_survives
