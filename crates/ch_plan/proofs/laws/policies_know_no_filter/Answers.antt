use Rattle.std.proofs.Common.{refl}
use Rattle.ch_plan.proofs.laws.policies_know_no_filter.Goals as goal

pub returns : goal.returns
returns _ = λ b filter profile. refl
