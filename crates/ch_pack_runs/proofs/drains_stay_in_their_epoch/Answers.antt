use Rattle.ch_pack_runs.proofs.Epochs.{drain_stays}
use Rattle.ch_pack_runs.proofs.drains_stay_in_their_epoch.Goals as goal

pub returns : goal.returns
returns c = drain_stays
