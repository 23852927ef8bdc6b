use Rattle.ch_plan.proofs.Ranged.{default_is_ranged, read_is_ranged}
use Rattle.ch_plan.proofs.laws.profiles_are_ranged.Goals as goal

pub returns-clause-read : goal.returns-clause-read
returns-clause-read _ = read_is_ranged

pub returns-clause-unread : goal.returns-clause-unread
returns-clause-unread _ = default_is_ranged
