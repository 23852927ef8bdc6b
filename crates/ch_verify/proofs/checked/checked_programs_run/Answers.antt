use Rattle.ch_verify.proofs.Apart.{accesses_apart, always_runs}
use Rattle.ch_verify.proofs.checked.checked_programs_run.Goals as goal

pub returns-clause-runs : goal.returns-clause-runs
returns-clause-runs c p h = always_runs p h

pub returns-clause-apart : goal.returns-clause-apart
returns-clause-apart c p h = accesses_apart p h
