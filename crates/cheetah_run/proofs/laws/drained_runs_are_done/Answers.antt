use Rattle.cheetah_run.proofs.Ends.{drained_is_done}
use Rattle.cheetah_run.proofs.laws.drained_runs_are_done.Goals as goal

pub returns : goal.returns
returns c = drained_is_done
