use Rattle.ch_pack_runs.proofs.Begins.{installed}
use Rattle.ch_pack_runs.proofs.installed_programs_are_cleared.Goals as goal

pub returns : goal.returns
returns c = installed
