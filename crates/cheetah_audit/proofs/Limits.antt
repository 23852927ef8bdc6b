-- What an errand comes to, unless its plan is refused.
use Rattle.std.proofs.Common.{◌≡◌, ◌∙◌, sym, subst, Option, Some, None}
use Rattle.std.specs.Prelude.{◌≢◌, option_map, IfErr, IfOk, Result, Ok, Err}
use Rattle.ch_bind.specs.Binding.{plain_bound}
use Rattle.ch_command.specs.Command.{refused}
use Rattle.ch_command.specs.declared.outcome.Ending.TheVariants.{Rejected}
use Rattle.ch_command.specs.declared.outcome.Outcome.{Outcome}
use Rattle.ch_plan.specs.Kinds.{IsPlanOf}
use Rattle.ch_plan.specs.Needs.{need_of, plan_refusal}
use Rattle.ch_plan.specs.declared.error.PlanError.{PlanError}
use Rattle.ch_plan.specs.declared.error.PlanError.TheVariants.{Memory}
use Rattle.ch_plan.specs.declared.kind.PlanKind.{PlanKind}
use Rattle.cheetah_audit_meaning.specs.Meaning.{WithinLimits}
use Rattle.cheetah_inputs.proofs.Limits.{limit_found, same_limits}
use Rattle.cheetah_inputs.specs.Inputs.{given_of}
use Rattle.cheetah_inputs.specs.Limits.{limit_exceeded, plan_line}
use Rattle.cheetah_inputs.specs.declared.inputs.Inputs.{Inputs}
use Rattle.cheetah_audit.specs.Result.{runs}

module _ (inputs : Inputs) (done : Outcome → Type 0) where
  abbrev limit : Option PlanError
  limit = limit_exceeded (plain_bound inputs.bound) inputs.profile

  -- a plan is there
  pub planned : (k : PlanKind) → IsPlanOf k inputs.bound inputs.profile → (outcome : Outcome) → done outcome → WithinLimits (runs.refusal (given_of inputs)) done outcome
  planned k is outcome comes =
      let none : limit ≡ None = same_limits inputs.bound inputs.profile ∙ is.within in
      subst (λ (o : Option PlanError). WithinLimits (option_map plan_line o) done outcome) (sym none) comes

  pub planned_comes : {E : Type 0} (k : PlanKind) (r : Result Outcome E) → IsPlanOf k inputs.bound inputs.profile → IfOk r done → IfOk r (λ outcome. WithinLimits (runs.refusal (given_of inputs)) done outcome)
  planned_comes k (Ok outcome) is comes = planned k is outcome comes
  planned_comes k (Err e) is comes = tt

  -- it is refused
  pub refusal_comes : {P E : Type 0} (error : PlanError) (result : Result P PlanError) (r : Result Outcome E) → result ≡ Err error
      → ((e : PlanError) → plan_refusal (need_of inputs.bound inputs.profile) inputs.profile ≡ Some e → result ≡ Err e)
      → (plan_refusal (need_of inputs.bound inputs.profile) inputs.profile ≡ None → IfErr result (λ e. e ≡ Memory))
      → IfOk r (λ outcome. (error ≢ Memory) × (outcome ≡ refused Rejected (plan_line error)))
      → IfOk r (λ outcome. WithinLimits (runs.refusal (given_of inputs)) done outcome)
  refusal_comes error result (Err e) is refused_by memory_by said = tt
  refusal_comes error result (Ok outcome) is refused_by memory_by said =
      let limited : limit ≡ Some error = limit_found inputs.bound inputs.profile error result is said.0 refused_by memory_by in
      subst (λ (o : Option PlanError). WithinLimits (option_map plan_line o) done outcome) (sym limited) said.1
