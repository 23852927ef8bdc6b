use Rattle.ch_command.proofs.Promised.{promised}
use Rattle.cheetah_pack.proofs.top.cheetah_pack.Goals as goal

pub returns-clause-promise : goal.returns-clause-promise
returns-clause-promise g c = rw c.code.ensures (promised _ _ _ _ _ c.consider-verdict.result c.end.result c.consider-verdict.ensures.fits c.end.ensures.ends)
