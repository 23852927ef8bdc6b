use Rattle.ch_pred.specs.Sound.{IsCarried}
use Rattle.ch_words.proofs.Gates.{gates_fit}
use Rattle.ch_words.proofs.gates_fit.Goals as goal

pub returns : goal.returns
returns _ d b names whole = gates_fit d b (IsCarried b) names whole
