-- The limits that plans exceed, each alone and all in one program.
use Rattle.std.specs.Prelude.{ℕ, ◌+◌, List, [], ◌∷◌, map, Option, Some, None, option_map, codes}
use Rattle.std.specs.Fmt.{decimal}
use Rattle.std.specs.List.{concat}
use Rattle.ch_bind.specs.Binding.{PlainBound}
use Rattle.ch_command.specs.Lines.{memory_line}
use Rattle.ch_ir.specs.declared.profile.Profile.{Profile}
use Rattle.ch_messages.specs.Machine.{limit_text}
use Rattle.ch_pack.specs.Plans.{pack_refusal}
use Rattle.ch_pack.specs.declared.error.PackError.{PackError}
use Rattle.ch_pack.specs.declared.error.PackError.TheVariants.{Limit, Memory}
use Rattle.ch_pack_laws.specs.Needs.{packed_need}
use Rattle.ch_plan.specs.Needs.{need_of}
use Rattle.ch_plan.specs.declared.error.PlanError.{PlanError}
use Rattle.ch_prune.specs.declared.operator.Need.{Need}
use Rattle.cheetah_inputs.specs.Limits.{limit_exceeded, plan_line}
use Rattle.cheetah_inputs.specs.Question.{unfiltered}
use Rattle.cheetah_pack_meaning.specs.Queries.{numbered}

-- the line of this limit, or of one behind it
abbrev pub limit_or : ℕ → Option PlanError → Option (List ℕ) → Option (List ℕ)
limit_or number None behind = behind
limit_or number (Some error) behind = Some (numbered number (plan_line error))

-- the line of the first query whose plan exceeds a limit
abbrev pub plan_refused : ℕ → Profile → List PlainBound → Option (List ℕ)
plan_refused number profile [] = None
plan_refused number profile (q ∷ qs) = limit_or number (limit_exceeded q profile) (plan_refused (number + 1) profile qs)

-- what all of them need in one program
abbrev pub need_together : Profile → List PlainBound → Need
need_together profile qs = packed_need (map (λ q. need_of (unfiltered q) profile) qs)

abbrev pub pack_line : PackError → List ℕ
pack_line (Limit which need have) = concat (codes "pack refused: " ∷ limit_text which ∷ codes " need " ∷ decimal need ∷ codes " have " ∷ decimal have ∷ codes "\n" ∷ [])
pack_line Memory = memory_line

abbrev pub line_or : Option (List ℕ) → Option (List ℕ) → Option (List ℕ)
line_or None behind = behind
line_or (Some line) behind = Some line

-- the line that refuses the plans: that of the first whose own need exceeds a limit, or that of the need of all together
abbrev pub limit_line : Profile → List PlainBound → Option (List ℕ)
limit_line profile qs = line_or (plan_refused 0 profile qs) (option_map pack_line (pack_refusal (need_together profile qs) profile))
