use Rattle.op_moves.specs.Steps.{steps_agree}
use Rattle.op_moves.proofs.laws.steps.Goals as goal

pub returns : goal.returns
returns _ = steps_agree
