use Rattle.ch_asked.proofs.Few.{few_workers, small_workers, some_workers}
use Rattle.ch_asked.proofs.laws.workers_are_few.Goals as goal

pub returns-clause-some : goal.returns-clause-some
returns-clause-some c = some_workers

pub returns-clause-many : goal.returns-clause-many
returns-clause-many c = few_workers

pub returns-clause-sizes : goal.returns-clause-sizes
returns-clause-sizes c = small_workers
