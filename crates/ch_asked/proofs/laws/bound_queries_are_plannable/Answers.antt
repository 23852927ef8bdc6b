use Rattle.ch_asked.proofs.Plannable.{bound_plannable}
use Rattle.ch_asked.proofs.laws.bound_queries_are_plannable.Goals as goal

pub returns : goal.returns
returns c = bound_plannable
