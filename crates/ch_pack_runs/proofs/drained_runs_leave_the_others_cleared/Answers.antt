use Rattle.ch_pack_runs.proofs.Begins.{leaves_cleared}
use Rattle.ch_pack_runs.proofs.drained_runs_leave_the_others_cleared.Goals as goal

pub returns : goal.returns
returns c plans profile it q p texts b tables window workers registers x is from = leaves_cleared plans profile it q p texts b tables is registers from window workers x
