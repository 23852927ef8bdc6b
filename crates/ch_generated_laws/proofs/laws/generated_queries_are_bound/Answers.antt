use Rattle.ch_generated_laws.proofs.Binding.{none_refused, sums_are}
use Rattle.ch_generated_laws.proofs.laws.generated_queries_are_bound.Goals as goal

pub returns-clause-passes : goal.returns-clause-passes
returns-clause-passes c request = none_refused request.kind request.seed request.rows

pub returns-clause-summed : goal.returns-clause-summed
returns-clause-summed c request bound e = sums_are request.kind request.seed request.rows bound e
