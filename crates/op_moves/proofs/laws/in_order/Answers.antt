use Rattle.op_moves.specs.Fits.{unbroken}
use Rattle.op_moves.proofs.laws.in_order.Goals as goal

pub returns : goal.returns
returns _ = unbroken
