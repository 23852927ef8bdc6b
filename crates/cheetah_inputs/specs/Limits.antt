-- The first limit of the profile that a query's plan exceeds, and the line that refuses the plan.
use Rattle.std.specs.Prelude.{ℕ, List, [], ◌∷◌, Option, codes}
use Rattle.std.specs.Fmt.{decimal}
use Rattle.std.specs.List.{concat}
use Rattle.ch_bind.specs.Binding.{PlainBound}
use Rattle.ch_command.specs.Lines.{memory_line}
use Rattle.ch_ir.specs.declared.profile.Profile.{Profile}
use Rattle.ch_messages.specs.Machine.{limit_text}
use Rattle.ch_plan.specs.Needs.{need_of, plan_refusal}
use Rattle.ch_plan.specs.declared.error.PlanError.{PlanError}
use Rattle.ch_plan.specs.declared.error.PlanError.TheVariants.{Limit, Memory}
use Rattle.cheetah_inputs.specs.Question.{unfiltered}

-- the first limit of the profile that the query's need exceeds
abbrev pub limit_exceeded : PlainBound → Profile → Option PlanError
limit_exceeded q profile = plan_refusal (need_of (unfiltered q) profile) profile

abbrev pub plan_line : PlanError → List ℕ
plan_line (Limit which need have) = concat (codes "plan refused: " ∷ limit_text which ∷ codes " need " ∷ decimal need ∷ codes " have " ∷ decimal have ∷ codes "\n" ∷ [])
plan_line Memory = memory_line
