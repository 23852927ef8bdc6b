use Rattle.std.proofs.Common.{◌≡◌, None, sym, subst, arith}
use Rattle.ch_plan.specs.Needs.{plan_refusal}
use Rattle.ch_prune.specs.declared.operator.Need.{Need}
use Rattle.ch_pack.proofs.laws.plans_are_made.Goals as goal

pub returns : goal.returns
returns _ profile p b is = record {
  within = subst (λ (n : Need). plan_refusal n profile ≡ None) (sym is.needs) is.within;
  most = let e = is.most in omega (arith, e);
}
