use Rattle.ch_plan.proofs.WorkedNeeds.{needs_of_kinds, refusals_in_order}
use Rattle.ch_plan.proofs.laws.worked.Goals as goal

pub returns-clause-needs : goal.returns-clause-needs
returns-clause-needs _ = needs_of_kinds

pub returns-clause-refusals : goal.returns-clause-refusals
returns-clause-refusals _ = refusals_in_order
