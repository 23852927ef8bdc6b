use Rattle.std.proofs.Common.{take}
use Rattle.cheetah_pack.proofs.plans.plan_all.Given as goal
use Rattle.cheetah_pack_run.specs.Running.{AreAskedPlans}

abbrev pub invariant-loop-number : goal.invariant-loop-number
invariant-loop-number l = AreAskedPlans l.shared.profile l.shared.tables (take l.number l.bounds) l.plans
