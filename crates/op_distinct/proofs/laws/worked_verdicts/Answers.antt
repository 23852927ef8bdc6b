use Rattle.op_distinct.proofs.WorkedVerdicts.{worked}
use Rattle.op_distinct.proofs.laws.worked_verdicts.Goals as goal

pub returns : goal.returns
returns _ = worked
