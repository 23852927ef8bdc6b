use Rattle.ch_generated_laws.proofs.Binding.{plan_is}
use Rattle.ch_generated_laws.proofs.laws.generated_queries_are_planned.Goals as goal

pub returns : goal.returns
returns c request bound e = plan_is request.kind request.seed request.rows bound e
