use Rattle.op_moves.specs.Made.{machine_made}
use Rattle.op_moves.proofs.laws.runs.Goals as goal

pub returns : goal.returns
returns _ = machine_made
