use Rattle.ch_trace_laws.proofs.Arrivals.{came, others}
use Rattle.ch_trace_laws.proofs.rows_are_noted.Goals as goal

pub returns-clause-came : goal.returns-clause-came
returns-clause-came c d s x is = came d s is x

pub returns-clause-others : goal.returns-clause-others
returns-clause-others c = others
