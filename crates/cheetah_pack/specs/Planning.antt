-- The plans of the queries, as code makes them.
use Rattle.std.specs.Prelude.{◌≡◌, ℕ, List, map, Option, Some, option_map, Result, Ok, Err}
use Rattle.ch_bind.specs.Binding.{PlainBound, plain_bound}
use Rattle.ch_ir.specs.declared.profile.Profile.{Profile}
use Rattle.ch_plan.specs.Kinds.{IsPlanOf}
use Rattle.ch_plan.specs.declared.planned.Planned.{Planned}
use Rattle.ch_pred.specs.declared.bound.Bound.{Bound}
use Rattle.cheetah_inputs.specs.Limits.{limit_exceeded, plan_line}
use Rattle.cheetah_inputs.specs.declared.inputs.Shared.{Shared}
use Rattle.cheetah_inputs.specs.declared.refusal.Refusal.{Refusal}
use Rattle.cheetah_inputs.specs.declared.refusal.Refusal.TheVariants as refusal
use Rattle.cheetah_pack_meaning.specs.Limits.{plan_refused}
use Rattle.cheetah_pack_meaning.specs.Queries.{numbered}
use Rattle.cheetah_pack_run.specs.Running.{AreAskedPlans, inputs_alone}
use Rattle.cheetah_pack_meaning.specs.Asking.{AreAsked}

-- a query that was read of these tables
abbrev pub IsAsked : Shared → Bound → Type 0
IsAsked shared b = AreAsked (inputs_alone shared.profile shared.tables b)

-- the line that refuses a query's plan
abbrev pub own_line : ℕ → Profile → PlainBound → Option (List ℕ)
own_line number profile q = option_map (λ error. numbered number (plan_line error)) (limit_exceeded q profile)

-- a plan, or the line that refuses it
abbrev pub PlansOne : ℕ → Bound → Profile → Result Planned Refusal → Type 0
PlansOne number b profile (Ok planned) = IsPlanOf planned.kind b profile
PlansOne number b profile (Err (refusal.Line line)) = own_line number profile (plain_bound b) ≡ Some line
PlansOne number b profile (Err refusal.Memory) = Unit {0}

-- all of them, or the line that refuses the first whose own need exceeds a limit
abbrev pub PlansAll : Shared → List Bound → Result (List Planned) Refusal → Type 0
PlansAll shared bounds (Ok plans) = AreAskedPlans shared.profile shared.tables bounds plans
PlansAll shared bounds (Err (refusal.Line line)) = plan_refused 0 shared.profile (map plain_bound bounds) ≡ Some line
PlansAll shared bounds (Err refusal.Memory) = Unit {0}
