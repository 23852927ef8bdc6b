use Rattle.ch_fold_laws.proofs.Groups.{there, new}
use Rattle.ch_fold_laws.proofs.values_kept.Goals as goal

pub returns-clause-there : goal.returns-clause-there
returns-clause-there g c = λ made groups keys key value. there made groups key value keys

pub returns-clause-new : goal.returns-clause-new
returns-clause-new g c = λ made groups keys key value. new made groups key value keys
