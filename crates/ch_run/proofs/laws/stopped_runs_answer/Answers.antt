use Rattle.ch_run.proofs.Asking.{answers}
use Rattle.ch_run.proofs.laws.stopped_runs_answer.Goals as goal

pub returns : goal.returns
returns c = answers
