-- A query that is planned, and what it comes to.
use Rattle.std.proofs.Common.{◌≡◌, ◌≢◌, ◌∙◌, ap, sym, ℕ, Bool, true, List, Option, Some, None, Result, Ok, Err}
use Rattle.std.specs.Result.{IfErr, IfOk}
use Rattle.ch_asm.specs.Text.{program_text}
use Rattle.ch_bind.specs.Binding.{plain_bound}
use Rattle.ch_command.specs.Command.{answered, refused}
use Rattle.ch_command.specs.declared.outcome.Ending.TheVariants.{Rejected}
use Rattle.ch_command.specs.declared.outcome.Outcome.{Outcome}
use Rattle.ch_ir.specs.declared.program.Program.{Program}
use Rattle.ch_plan.specs.Kinds.{IsPlanOf, kind_program}
use Rattle.ch_plan.specs.Needs.{need_of, plan_refusal}
use Rattle.ch_plan.specs.declared.error.PlanError.{PlanError}
use Rattle.ch_plan.specs.declared.error.PlanError.TheVariants.{Memory}
use Rattle.ch_plan.specs.declared.kind.PlanKind.{PlanKind}
use Rattle.cheetah_inputs.proofs.Limits.{limit_found, same_limits}
use Rattle.cheetah_inputs.specs.Inputs.{given_of}
use Rattle.cheetah_inputs.specs.Limits.{limit_exceeded, plan_line}
use Rattle.cheetah_inputs.specs.declared.inputs.Inputs.{Inputs}
use Rattle.cheetah.specs.Answering.{Answers, outcome_planned, within_limits}

module _ {E : Type 0} (inputs : Inputs) where
  -- the program of a plan is the one that query and profile say
  pub printed_comes : (k : PlanKind) (p : Program) (judged : Result Outcome E) → p ≡ kind_program k → IsPlanOf k inputs.bound inputs.profile → IfOk judged (λ outcome. outcome ≡ answered (program_text p))
      → IfOk judged (λ outcome. outcome ≡ outcome_planned true (given_of inputs))
  printed_comes k p (Ok outcome) same is comes = comes ∙ ap (λ (q : Program). answered (program_text q)) (same ∙ is.program)
  printed_comes k p (Err memory) same is comes = tt

  -- what is planned is within the limits
  pub planned_comes : (plan : Bool) (k : PlanKind) (judged : Result Outcome E) → IsPlanOf k inputs.bound inputs.profile → IfOk judged (λ outcome. outcome ≡ outcome_planned plan (given_of inputs))
      → IfOk judged (λ outcome. Answers plan (given_of inputs) outcome)
  planned_comes plan k (Ok outcome) is comes =
      let none : limit_exceeded (plain_bound inputs.bound) inputs.profile ≡ None = same_limits inputs.bound inputs.profile ∙ is.within in
      comes ∙ sym (ap (λ (o : Option PlanError). within_limits o (outcome_planned plan (given_of inputs))) none)
  planned_comes plan k (Err memory) is comes = tt

-- a plan that is refused
pub refusal_comes : {P : Type 0} (inputs : Inputs) (plan : Bool) (error : PlanError) (result : Result P PlanError) (said : List ℕ) → result ≡ Err error → error ≢ Memory → said ≡ plan_line error
    → ((e : PlanError) → plan_refusal (need_of inputs.bound inputs.profile) inputs.profile ≡ Some e → result ≡ Err e)
    → (plan_refusal (need_of inputs.bound inputs.profile) inputs.profile ≡ None → IfErr result (λ e. e ≡ Memory))
    → Answers plan (given_of inputs) (refused Rejected said)
refusal_comes inputs plan error result said is known line refused_by memory_by =
    let found : limit_exceeded (plain_bound inputs.bound) inputs.profile ≡ Some error = limit_found inputs.bound inputs.profile error result is known refused_by memory_by in
    ap (refused Rejected) line ∙ sym (ap (λ (o : Option PlanError). within_limits o (outcome_planned plan (given_of inputs))) found)
