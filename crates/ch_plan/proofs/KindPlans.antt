-- FILTER, ORDER BY with LIMIT and SKYLINE OF are planned by their operators.
use Rattle.std.proofs.Common.{◌≡◌, ℕ, ◌+◌, ◌*◌, Bool, List, refl, sym, ◌∙◌, add-zero, ap, None, subst}
use Rattle.std.proofs.lemmas.List.{length-map}
use Rattle.ch_ir.specs.declared.profile.Profile.{Profile}
use Rattle.ch_ir.specs.declared.program.Program.{Program}
use Rattle.ch_pred.specs.Sound.{has_one_table}
use Rattle.ch_pred.specs.declared.bound.Bound.{Bound}
use Rattle.ch_pred.specs.declared.bound.Dim.{Dim}
use Rattle.ch_pred.specs.declared.bound.Shape.{Shape}
use Rattle.ch_pred.specs.declared.bound.Shape.TheVariants as shape
use Rattle.ch_pred.specs.declared.pred.Col.{Col}
use Rattle.ch_cover.specs.Rows.{Policy}
use Rattle.ch_prune.specs.Filtering.{filter_need, filter_program}
use Rattle.ch_prune.specs.declared.filter.Filter.{Filter}
use Rattle.ch_prune.specs.declared.operator.Need.{Need}
use Rattle.op_topn.specs.Emitted.{top_program}
use Rattle.op_topn.specs.Order.{top_need}
use Rattle.op_topn.specs.Policy.{top_policy}
use Rattle.op_topn.specs.Serves.{TopServes}
use Rattle.op_topn.specs.declared.sizes.Sizes as top
use Rattle.op_topn.specs.declared.topn.TopN.{TopN}
use Rattle.op_moves.specs.Columns.{place_of}
use Rattle.op_skyline.specs.Emitted.{skyline_program}
use Rattle.op_skyline.specs.Order.{skyline_need}
use Rattle.op_skyline.specs.Serves.{DimsStandAt}
use Rattle.op_skyline.specs.Policy.{skyline_policy}
use Rattle.op_skyline.specs.declared.sizes.Sizes as skyline
use Rattle.op_skyline.specs.declared.skyline.Skyline.{Skyline}
use Rattle.ch_plan.specs.Kinds.{IsPlanOf, is_own_kind}
use Rattle.ch_plan.specs.Needs.{cells_for, greatest_length, keys_of, need_of, plan_refusal, stages_of}
use Rattle.ch_plan.specs.Policy.{passes_of, policy_by, program_by, skyline_sizes, top_sizes}
use Rattle.ch_plan.specs.declared.kind.PlanKind.TheVariants as kind
use Rattle.ch_plan.proofs.Placed.{dims_stand}

-- the need of a query of some shape
abbrev pub shape_need : Bound → Profile → Shape → Need
shape_need b profile s =
    let width = greatest_length b.carried + 3 in
    let n = keys_of b s in
    let stages = stages_of profile s in
    record { width = width; cells = cells_for profile n s; words = width + 32 + stages * (n + 32); stages = 2 + stages }

-- the policy of a query of some shape
abbrev pub shape_policy : Bound → Profile → Shape → Policy
shape_policy b profile s = policy_by b.carried b.printed profile s

-- the program of a query of some shape
abbrev pub shape_program : Bound → Profile → Shape → Program
shape_program b profile s = program_by b.carried b.printed profile s

-- FILTER

filter_needs : (b : Bound) (profile : Profile) → filter_need (greatest_length b.carried + 3) ≡ shape_need b profile shape.Filter
filter_needs b profile =
    let w : ℕ = greatest_length b.carried + 3 in
    ap (λ (n : ℕ). record { width = w; cells = 0; words = n; stages = 2 }) (sym (add-zero (w + 32)))

pub filter_plan : (b : Bound) (profile : Profile) (o : Filter) → b.shape ≡ shape.Filter → o.width ≡ greatest_length b.carried + 3
    → o.ops ≡ profile.ops → plan_refusal (need_of b profile) profile ≡ None → IsPlanOf (kind.Filter o) b profile
filter_plan b profile o e width ops within = record {
  own = ap (is_own_kind (kind.Filter o)) e;
  policy = sym (ap (shape_policy b profile) e);
  program = ap filter_program width ∙ sym (ap (shape_program b profile) e);
  times = sym (ap passes_of e);
  needs = ap filter_need width ∙ (filter_needs b profile ∙ sym (ap (shape_need b profile) e));
  most = ops;
  within = within;
  serves = λ d gate fits. (ap has_one_table e, fits);
}

-- ORDER BY with LIMIT

abbrev pub top_of : Bound → Profile → Col → Bool → ℕ → top.Sizes
top_of b profile by descending limit = top_sizes b.carried profile by descending limit

pub top_plan : (b : Bound) (profile : Profile) (by : Col) (descending : Bool) (limit : ℕ) (o : TopN) → b.shape ≡ shape.Top by descending limit → o.sizes ≡ top_of b profile by descending limit
    → o.ops ≡ profile.ops → plan_refusal (need_of b profile) profile ≡ None → IsPlanOf (kind.Top o) b profile
top_plan b profile by descending limit o e sizes ops within = record {
  own = ap (is_own_kind (kind.Top o)) e;
  policy = ap top_policy sizes ∙ sym (ap (shape_policy b profile) e);
  program = ap top_program sizes ∙ sym (ap (shape_program b profile) e);
  times = sym (ap passes_of e);
  needs = ap top_need sizes ∙ sym (ap (shape_need b profile) e);
  most = ops;
  within = within;
  serves = λ d gate fits. subst (λ (s : top.Sizes). TopServes s d b gate) (sym sizes) (record { by = by; own = e; fits = fits; place = refl });
}

-- SKYLINE OF

abbrev pub skyline_sizes_of : Bound → Profile → List Dim → skyline.Sizes
skyline_sizes_of b profile dims = skyline_sizes b.carried profile dims

pub skyline_needs : (b : Bound) (profile : Profile) (dims : List Dim) → b.shape ≡ shape.Skyline dims → skyline_need (skyline_sizes_of b profile dims) ≡ need_of b profile
skyline_needs b profile dims e =
    ap (λ (n : ℕ). record { width = greatest_length b.carried + 3; cells = n + 2; words = greatest_length b.carried + 3 + 32 + profile.skyline_points * (n + 32); stages = 2 + profile.skyline_points })
    (length-map dims (λ k. place_of b k.col))
    ∙ sym (ap (shape_need b profile) e)

pub skyline_plan : (b : Bound) (profile : Profile) (dims : List Dim) (o : Skyline) → b.shape ≡ shape.Skyline dims → o.sizes ≡ skyline_sizes_of b profile dims
    → o.ops ≡ profile.ops → plan_refusal (need_of b profile) profile ≡ None → IsPlanOf (kind.Skyline o) b profile
skyline_plan b profile dims o e sizes ops within = record {
  own = ap (is_own_kind (kind.Skyline o)) e;
  policy = ap skyline_policy sizes ∙ sym (ap (shape_policy b profile) e);
  program = ap skyline_program sizes ∙ sym (ap (shape_program b profile) e);
  times = sym (ap passes_of e);
  needs = ap skyline_need sizes ∙ skyline_needs b profile dims e;
  most = ops;
  within = within;
  serves = λ d gate fits. record {
    dims = dims;
    own = e;
    fits = fits;
    stand = subst (λ (s : skyline.Sizes). DimsStandAt b dims s.places s.max) (sym sizes) (dims_stand b dims);
  };
}
