-- The limit that a query's plan exceeds, as the plan of its bound query tells it.
use Rattle.std.proofs.Common.{◌≡◌, ◌≢◌, ◌∙◌, ap, sym, refl, ℕ, ◌+◌, ◌*◌, Option, Some, None, Result, Err}
use Rattle.std.specs.Result.{IfErr}
use Rattle.ch_bind.specs.Binding.{plain_bound}
use Rattle.ch_ir.specs.declared.profile.Profile.{Profile}
use Rattle.ch_plan.specs.Needs.{cells_for, greatest_length, keys_of, need_of, plan_refusal, stages_of}
use Rattle.ch_plan.specs.declared.error.PlanError.{PlanError}
use Rattle.ch_plan.specs.declared.error.PlanError.TheVariants.{Memory}
use Rattle.ch_pred.specs.declared.bound.Bound.{Bound}
use Rattle.ch_pred.specs.declared.bound.Shape.{Shape}
use Rattle.ch_pred.specs.declared.bound.Shape.TheVariants as shape
use Rattle.ch_prune.specs.declared.operator.Need.{Need}
use Rattle.cheetah_inputs.specs.Limits.{limit_exceeded}
use Rattle.cheetah_inputs.specs.Question.{unfiltered}

-- a need knows nothing of the filter

same_keys : (b : Bound) (s : Shape) → keys_of (unfiltered (plain_bound b)) s ≡ keys_of b s
same_keys b shape.Filter = refl
same_keys b shape.Distinct = refl
same_keys b (shape.Top by descending limit) = refl
same_keys b (shape.Group keys max value) = refl
same_keys b (shape.Having keys sum above) = refl
same_keys b (shape.Join left right) = refl
same_keys b (shape.Skyline dims) = refl
same_keys b (shape.Semi key inner) = refl

abbrev need_with : Bound → Profile → ℕ → Need
need_with b profile n = record {
  width = greatest_length b.carried + 3;
  cells = cells_for profile n b.shape;
  words = greatest_length b.carried + 3 + 32 + stages_of profile b.shape * (n + 32);
  stages = 2 + stages_of profile b.shape;
}

pub same_needs : (b : Bound) (profile : Profile) → need_of (unfiltered (plain_bound b)) profile ≡ need_of b profile
same_needs b profile = ap (need_with b profile) (same_keys b b.shape)

pub same_limits : (b : Bound) (profile : Profile) → limit_exceeded (plain_bound b) profile ≡ plan_refusal (need_of b profile) profile
same_limits b profile = ap (λ (need : Need). plan_refusal need profile) (same_needs b profile)

-- a plan that is refused, which want of memory is not
pub limit_found : {P : Type 0} (b : Bound) (profile : Profile) (error : PlanError) (result : Result P PlanError) → result ≡ Err error → error ≢ Memory
    → ((e : PlanError) → plan_refusal (need_of b profile) profile ≡ Some e → result ≡ Err e)
    → (plan_refusal (need_of b profile) profile ≡ None → IfErr result (λ e. e ≡ Memory))
    → limit_exceeded (plain_bound b) profile ≡ Some error
limit_found {P} b profile error result is known refused_by memory_by = by (plan_refusal (need_of b profile) profile) refl
  where
    same_error : (e f : PlanError) (x y : Result P PlanError) → x ≡ Err e → y ≡ Err f → x ≡ y → e ≡ f
    same_error e f x y p q h = cc

    by : (o : Option PlanError) → plan_refusal (need_of b profile) profile ≡ o → limit_exceeded (plain_bound b) profile ≡ Some error
    by None none = absurd (known (rw is at (memory_by none)))
    by (Some e) some =
        let same : error ≡ e = same_error error e result result is (refused_by e some) refl in
        same_limits b profile ∙ (some ∙ ap Some (sym same))
