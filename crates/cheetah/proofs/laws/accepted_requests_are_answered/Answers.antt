use Rattle.cheetah.proofs.Completed.{answerable_is_done}
use Rattle.cheetah.proofs.laws.accepted_requests_are_answered.Goals as goal

pub returns : goal.returns
returns c words files outcome is comes = answerable_is_done words files outcome is comes
