use Rattle.cheetah_gen.proofs.Meanings.{said_once}
use Rattle.cheetah_gen.proofs.laws.requests_are_summed_up.Goals as goal

pub returns : goal.returns
returns c words request files outcome e comes = said_once words request files outcome e comes
