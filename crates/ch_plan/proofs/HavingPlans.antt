-- HAVING is planned by its operator: its keys are the different columns.
use Rattle.std.proofs.Common.{◌≡◌, ℕ, ◌+◌, ◌*◌, List, true, refl, sym, ◌∙◌, ap, ap₂, subst, arith, Option, Some, None}
use Rattle.std.specs.Prelude.{ℤ}
use Rattle.std.proofs.lemmas.List.{length-map}
use Rattle.ch_ir.specs.declared.profile.Profile.{Profile}
use Rattle.ch_pred.specs.declared.bound.Bound.{Bound}
use Rattle.ch_pred.specs.declared.bound.Shape.TheVariants as shape
use Rattle.ch_pred.specs.declared.pred.Col.{Col}
use Rattle.ch_places.specs.Different.{different}
use Rattle.ch_places.proofs.Fits.{place_fits}
use Rattle.ch_places.proofs.Kept.{places_only, places_read}
use Rattle.op_moves.specs.Columns.{place_of}
use Rattle.op_having.specs.Fine.{is_value_place}
use Rattle.op_having.specs.Policy.{prunes}
use Rattle.op_having.specs.Program.{having_need, program}
use Rattle.op_having.specs.Serves.{HavingServes, IsSumPlace}
use Rattle.op_having.specs.declared.having.HavingOp.{HavingOp}
use Rattle.op_having.specs.declared.sizes.Sizes.{Sizes}
use Rattle.ch_plan.specs.Kinds.{IsPlanOf, IsSumCarried, is_own_kind}
use Rattle.ch_plan.specs.Needs.{greatest_length, need_of, plan_refusal}
use Rattle.ch_plan.specs.Policy.{having_sizes, passes_of, sum_by}
use Rattle.ch_plan.specs.declared.kind.PlanKind.TheVariants as kind
use Rattle.ch_plan.proofs.KeyPlans.{key_of}
use Rattle.ch_plan.proofs.KindPlans.{shape_need, shape_policy, shape_program}
use Rattle.ch_plan.proofs.Placed.{shorter}

abbrev pub having_of : Bound → Profile → List Col → Option Col → ℤ → Sizes
having_of b profile keys sum above = having_sizes b.carried profile keys sum above

sum_stands : (b : Bound) (sum : Option Col) → IsSumPlace b (sum_by b.carried sum) sum
sum_stands b None = tt
sum_stands b (Some c) = refl

having_needs : (b : Bound) (profile : Profile) (keys : List Col) (sum : Option Col) (above : ℤ) → b.shape ≡ shape.Having keys sum above
    → having_need (having_of b profile keys sum above) ≡ need_of b profile
having_needs b profile keys sum above e =
    ap (λ (n : ℕ). record { width = greatest_length b.carried + 3; cells = profile.sketch_cells; words = greatest_length b.carried + 3 + 32 + profile.sketch_hashes * (n + 32); stages = 2 + profile.sketch_hashes })
    (length-map (different keys) (place_of b))
    ∙ sym (ap (shape_need b profile) e)

pub having_plan : (b : Bound) (profile : Profile) (keys : List Col) (sum : Option Col) (above : ℤ) (o : HavingOp) → b.shape ≡ shape.Having keys sum above
    → o.sizes ≡ having_of b profile keys sum above → o.ops ≡ profile.ops → plan_refusal (need_of b profile) profile ≡ None → IsPlanOf (kind.Having o) b profile
having_plan b profile keys sum above o e sizes ops within = record {
  own = ap (is_own_kind (kind.Having o)) e;
  policy = ap prunes sizes ∙ sym (ap (shape_policy b profile) e);
  program = ap program sizes ∙ sym (ap (shape_program b profile) e);
  times = sym (ap passes_of e);
  needs = ap having_need sizes ∙ having_needs b profile keys sum above e;
  most = ops;
  within = within;
  serves = λ d gate fits. subst (λ (s : Sizes). HavingServes s d b gate) (sym sizes)
      (record { keys = keys; sum = sum; own = e; fits = fits; read = places_read b keys; only = places_only b keys; sum_place = sum_stands b sum });
}

-- the place of what is summed is one of the row's
pub sum_fits : (b : Bound) (sum : Option Col) (width : ℕ) (value : Option ℕ) → width ≡ greatest_length b.carried + 3 → value ≡ sum_by b.carried sum → IsSumCarried b sum → is_value_place width value ≡ true
sum_fits b None width value w v h = ap (is_value_place width) v
sum_fits b (Some c) width value w v h =
    ap₂ is_value_place w v ∙ place_fits b (greatest_length b.carried + 3) (λ side. let k = shorter b.carried side in omega arith) c h

-- an operator of the sizes that were found
pub having_fits : (b : Bound) (profile : Profile) (keys : List Col) (sum : Option Col) (above : ℤ) (o : HavingOp) (width : ℕ) (key : List ℕ) (value : Option ℕ) (least : ℤ)
    → o.sizes ≡ record { width = width; hashes = profile.sketch_hashes; cells = profile.sketch_cells; keys = key; value = value; above = least }
    → width ≡ greatest_length b.carried + 3 → key ≡ key_of b keys → value ≡ sum_by b.carried sum → least ≡ above
    → b.shape ≡ shape.Having keys sum above → o.ops ≡ profile.ops → plan_refusal (need_of b profile) profile ≡ None → IsPlanOf (kind.Having o) b profile
having_fits b profile keys sum above o width key value least sizes w k v l e ops within =
    let made : ℕ → List ℕ → Option ℕ → ℤ → Sizes = λ n ks p z. record { width = n; hashes = profile.sketch_hashes; cells = profile.sketch_cells; keys = ks; value = p; above = z } in
    having_plan b profile keys sum above o e
    (sizes ∙ (ap₂ (λ (n : ℕ) (z : ℤ). made n key value z) w l ∙ ap₂ (λ (ks : List ℕ) (p : Option ℕ). made (greatest_length b.carried + 3) ks p above) k v)) ops within
