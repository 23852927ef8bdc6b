use Rattle.op_group.proofs.WorkedVerdicts.{worked}
use Rattle.op_group.proofs.laws.worked_verdicts.Goals as goal

pub returns : goal.returns
returns _ = worked
