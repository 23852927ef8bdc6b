-- What is read has a plan where its need is within the limits.
use Rattle.std.proofs.Common.{◌≡◌, ◌≤◌, ◌∙◌, sym, subst, refl, ℕ, List, length, map, Option, Some, None, Result, Ok, Err}
use Rattle.ch_asked.proofs.Plannable.{bound_plannable}
use Rattle.ch_bind.specs.Binding.{plain_bound}
use Rattle.ch_bind.specs.Shapes.{shape_of}
use Rattle.ch_ir.specs.Profile.{default_settings, profile_of}
use Rattle.ch_ir.specs.declared.profile.Profile.{Profile}
use Rattle.ch_ir.specs.declared.read.ProfileError.{ProfileError}
use Rattle.ch_lists.proofs.Members.{Each-from_All}
use Rattle.ch_messages.specs.Machine.{profile_line}
use Rattle.ch_plan.proofs.Plannable.{few_carried}
use Rattle.ch_plan.proofs.Ranged.{default_is_ranged, read_is_ranged}
use Rattle.ch_plan.specs.Kinds.{IsPlanOf}
use Rattle.ch_plan.specs.Needs.{need_of, plan_refusal}
use Rattle.ch_plan.specs.Ranged.{IsRanged}
use Rattle.ch_plan.specs.declared.kind.PlanKind.{PlanKind}
use Rattle.ch_sql.proofs.Readings.{spelled_parsed}
use Rattle.cheetah_inputs.proofs.Limits.{same_limits}
use Rattle.cheetah_inputs.specs.Inputs.{AreInputs, or_line, profile_or_line, profile_text}
use Rattle.cheetah_inputs.specs.Limits.{limit_exceeded}
use Rattle.cheetah_inputs.specs.declared.inputs.Inputs.{Inputs}
use Rattle.cheetah_words.specs.Words.{Request}
use Rattle.cheetah_inputs_laws.proofs.Limited.{bound_limited}
use Rattle.cheetah_inputs_laws.proofs.Plans.{planned}

-- a profile that is read, or the default one, has its numbers in their ranges
ranged : (text : Option (List ℕ)) (profile : Profile) → profile_or_line text ≡ Ok profile → IsRanged profile
ranged None profile e = let same : default_settings ≡ profile = cc in subst IsRanged same default_is_ranged
ranged (Some text) profile e = by (profile_of text) refl e
  where
    by : (read : Result Profile ProfileError) → profile_of text ≡ read → or_line profile_line read ≡ Ok profile → IsRanged profile
    by (Ok p) is e = let same : p ≡ profile = cc in subst IsRanged same (read_is_ranged text p is)
    by (Err error) is e = absurd cc

pub inputs_planned : (request : Request) (contents : List (List ℕ)) (inputs : Inputs) → AreInputs request contents inputs → limit_exceeded (plain_bound inputs.bound) inputs.profile ≡ None
    → (k : PlanKind) × IsPlanOf k inputs.bound inputs.profile
inputs_planned request contents inputs are none =
    let q = are.question in
    let b = inputs.bound in
    let within : plan_refusal (need_of b inputs.profile) inputs.profile ≡ None = sym (same_limits b inputs.profile) ∙ none in
    planned b inputs.profile (few_carried b.carried 16 (Each-from_All (λ columns. length columns ≤ 16) b.carried q.few)) (ranged (profile_text request contents) inputs.profile are.profile) within
    (bound_plannable q.query b inputs.tables (spelled_parsed request.query q.query q.spelled) q.passes q.is_bound q.sound)
    (bound_limited q.query b (map shape_of inputs.tables) q.passes q.is_bound)
