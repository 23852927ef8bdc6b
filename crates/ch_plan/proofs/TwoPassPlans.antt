-- A join and a semi-join are planned by their operators.
use Rattle.std.proofs.Common.{◌≡◌, sym, ◌∙◌, ap, None}
use Rattle.ch_ir.specs.declared.profile.Profile.{Profile}
use Rattle.ch_pred.specs.declared.bound.Bound.{Bound}
use Rattle.ch_pred.specs.declared.bound.Shape.TheVariants as shape
use Rattle.ch_pred.specs.declared.pred.Col.{Col}
use Rattle.op_bloom.specs.declared.sizes.Sizes as filters
use Rattle.op_join.specs.Policy as join_policy
use Rattle.op_join.specs.Program as join_program
use Rattle.op_join.specs.Program.{join_need}
use Rattle.op_join.specs.declared.join.JoinOp.{JoinOp}
use Rattle.op_semi.specs.Policy as semi_policy
use Rattle.op_semi.specs.Program as semi_program
use Rattle.op_semi.specs.Program.{semi_need}
use Rattle.op_semi.specs.declared.sizes.Sizes as semi
use Rattle.op_semi.specs.declared.semi.Semi.{Semi}
use Rattle.ch_plan.specs.Kinds.{IsPlanOf, is_own_kind}
use Rattle.ch_plan.specs.Needs.{need_of, plan_refusal}
use Rattle.ch_plan.specs.Policy.{filter_sizes, passes_of, semi_sizes}
use Rattle.ch_plan.specs.declared.kind.PlanKind.TheVariants as kind
use Rattle.ch_plan.proofs.KindPlans.{shape_need, shape_policy, shape_program}

-- the sizes of the filters of two key columns
abbrev pub filters_of : Bound → Profile → Col → Col → filters.Sizes
filters_of b profile left right = filter_sizes b.carried profile left right

pub join_plan : (b : Bound) (profile : Profile) (left right : Col) (o : JoinOp) → b.shape ≡ shape.Join left right → left.side ≡ 0 → right.side ≡ 1
    → o.sizes ≡ filters_of b profile left right → o.ops ≡ profile.ops → plan_refusal (need_of b profile) profile ≡ None → IsPlanOf (kind.Join o) b profile
join_plan b profile left right o e first second sizes ops within = record {
  own = ap (is_own_kind (kind.Join o)) e;
  policy = ap join_policy.prunes sizes ∙ sym (ap (shape_policy b profile) e);
  program = ap join_program.program sizes ∙ sym (ap (shape_program b profile) e);
  times = sym (ap passes_of e);
  needs = ap join_need sizes ∙ sym (ap (shape_need b profile) e);
  most = ops;
  within = within;
  serves = λ d gate fits. record {
    left = left;
    right = right;
    own = e;
    left_side = first;
    right_side = second;
    fits = fits;
    left_place = ap (λ (s : filters.Sizes). s.left) sizes;
    right_place = ap (λ (s : filters.Sizes). s.right) sizes;
  };
}

abbrev pub semi_sizes_of : Bound → Profile → Col → Col → semi.Sizes
semi_sizes_of b profile key inner = semi_sizes b.carried profile key inner

pub semi_plan : (b : Bound) (profile : Profile) (key inner : Col) (o : Semi) → b.shape ≡ shape.Semi key inner
    → o.sizes ≡ semi_sizes_of b profile key inner → o.ops ≡ profile.ops → plan_refusal (need_of b profile) profile ≡ None → IsPlanOf (kind.Semi o) b profile
semi_plan b profile key inner o e sizes ops within = record {
  own = ap (is_own_kind (kind.Semi o)) e;
  policy = ap semi_policy.prunes sizes ∙ sym (ap (shape_policy b profile) e);
  program = ap semi_program.program sizes ∙ sym (ap (shape_program b profile) e);
  times = sym (ap passes_of e);
  needs = ap semi_need sizes ∙ sym (ap (shape_need b profile) e);
  most = ops;
  within = within;
  serves = λ d gate fits. record {
    key = key;
    within = inner;
    own = e;
    fits = fits;
    key_place = ap (λ (s : semi.Sizes). s.bloom.left) sizes;
    inner_place = ap (λ (s : semi.Sizes). s.bloom.right) sizes;
  };
}
