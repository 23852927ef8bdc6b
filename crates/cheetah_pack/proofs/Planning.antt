-- What planning the queries one after another comes to, and then packing their plans.
use Rattle.std.proofs.Common.{◌≡◌, ◌≢◌, ◌∙◌, ap, ap₂, arith, refl, subst, sym, ℕ, zero, suc, ◌+◌, ◌++◌, ◌≤◌, ◌<◌, List, [], ◌∷◌, All, length, map, take, Option, Some, None, Result, Ok, Err}
use Rattle.std.specs.Prelude.{IfErr, IfOk, get_or, option_map, slice_get}
use Rattle.std.proofs.lemmas.Option.{slice_get-get_or}
use Rattle.ch_bind.specs.Binding.{plain_bound}
use Rattle.ch_command.specs.Command.{refused}
use Rattle.ch_command.specs.declared.outcome.Ending.TheVariants.{Rejected}
use Rattle.ch_command.specs.declared.outcome.Outcome.{Outcome}
use Rattle.ch_ir.specs.declared.profile.Profile.{Profile}
use Rattle.ch_pack.specs.Plans.{AllMade, IsMade, needs_of, pack_refusal}
use Rattle.ch_pack.specs.declared.error.PackError.{PackError}
use Rattle.ch_pack.specs.declared.error.PackError.TheVariants.{Memory}
use Rattle.ch_pack_laws.specs.Needs.{packed_need}
use Rattle.ch_plan.specs.Kinds.{IsPlanOf}
use Rattle.ch_plan.specs.Needs.{need_of}
use Rattle.ch_plan.specs.Ranged.{IsRanged}
use Rattle.ch_plan.specs.declared.error.PlanError.{PlanError}
use Rattle.ch_plan.specs.declared.planned.Planned.{Planned}
use Rattle.ch_pred.specs.declared.bound.Bound.{Bound}
use Rattle.ch_prune.specs.declared.operator.Need.{Need}
use Rattle.ch_tables.specs.TableValue.{TableValue}
use Rattle.cheetah_inputs.proofs.Limits.{same_limits, same_needs}
use Rattle.cheetah_inputs.specs.Limits.{limit_exceeded, plan_line}
use Rattle.cheetah_inputs.specs.Question.{unfiltered}
use Rattle.cheetah_pack_meaning.specs.Limits.{limit_line, limit_or, line_or, need_together, pack_line, plan_refused}
use Rattle.cheetah_pack_meaning.specs.Meaning.{outcome_of, said_alone, together, unless_refused}
use Rattle.cheetah_pack_meaning.specs.Queries.{numbered}
use Rattle.cheetah_inputs.specs.declared.inputs.Shared.{Shared}
use Rattle.cheetah_pack_run.specs.Running.{AreAskedPlans, IsAskedPlan, inputs_alone}
use Rattle.cheetah_pack_meaning.proofs.Asked.{ranged}
use Rattle.cheetah_inputs.specs.declared.refusal.Refusal.{Refusal}
use Rattle.cheetah_inputs.specs.declared.refusal.Refusal.TheVariants as refusal
use Rattle.cheetah_pack.specs.Planning.{IsAsked, PlansAll, PlansOne, own_line}

zero_more : (k : ℕ) → k ≡ 0 + k
zero_more k = omega arith

module _ (profile : Profile) (tables : List TableValue) where
  -- no query's own need exceeds a limit
  pub plans_pass : (number : ℕ) (bounds : List Bound) (plans : List Planned) → AreAskedPlans profile tables bounds plans → plan_refused number profile (map plain_bound bounds) ≡ None
  plans_pass number [] [] are = refl
  plans_pass number [] (p ∷ plans) are = refl
  plans_pass number (b ∷ bounds) [] are = absurd are
  plans_pass number (b ∷ bounds) (p ∷ plans) are =
      let behind : Option (List ℕ) = plan_refused (number + 1) profile (map plain_bound bounds) in
      let none : limit_exceeded (plain_bound b) profile ≡ None = same_limits b profile ∙ are.0.plan.within in
      ap (λ (o : Option PlanError). limit_or number o behind) none ∙ plans_pass (number + 1) bounds plans are.1

  own_or : (number : ℕ) (o : Option PlanError) (behind : Option (List ℕ)) (line : List ℕ) → option_map (λ error. numbered number (plan_line error)) o ≡ Some line → limit_or number o behind ≡ Some line
  own_or number None behind line e = absurd cc
  own_or number (Some error) behind line e = e

  -- the first that is refused stands behind those that are planned
  pub plans_stop : (number : ℕ) (bounds : List Bound) (plans : List Planned) (k : ℕ) (b : Bound) (line : List ℕ) → AreAskedPlans profile tables (take k bounds) plans → slice_get bounds k ≡ Some b
      → own_line (number + k) profile (plain_bound b) ≡ Some line → plan_refused number profile (map plain_bound bounds) ≡ Some line
  plans_stop number [] plans k b line are at own = absurd cc
  plans_stop number (x ∷ bounds) plans zero b line are at own =
      let same : b ≡ x = cc in
      let here : number + 0 ≡ number = omega arith in
      let mine : own_line number profile (plain_bound x) ≡ Some line = subst (λ (y : Bound). own_line number profile (plain_bound y) ≡ Some line) same (subst (λ n. own_line n profile (plain_bound b) ≡ Some line) here own) in
      own_or number (limit_exceeded (plain_bound x) profile) (plan_refused (number + 1) profile (map plain_bound bounds)) line mine
  plans_stop number (x ∷ bounds) [] (suc k) b line are at own = absurd are
  plans_stop number (x ∷ bounds) (p ∷ plans) (suc k) b line are at own =
      let next : number + suc k ≡ number + 1 + k = omega arith in
      let behind : Option (List ℕ) = plan_refused (number + 1) profile (map plain_bound bounds) in
      let none : limit_exceeded (plain_bound x) profile ≡ None = same_limits x profile ∙ are.0.plan.within in
      ap (λ (o : Option PlanError). limit_or number o behind) none ∙ plans_stop (number + 1) bounds plans k b line are.1 at (subst (λ n. own_line n profile (plain_bound b) ≡ Some line) next own)

  pub stopped_all : (bounds : List Bound) (plans : List Planned) (k : ℕ) (b : Bound) (why : Refusal) → AreAskedPlans profile tables (take k bounds) plans
      → slice_get bounds k ≡ Some b → PlansOne k b profile (Err why) → PlansAll (record { profile = profile; tables = tables }) bounds (Err why)
  stopped_all bounds plans k b (refusal.Line line) are at one = plans_stop 0 bounds plans k b line are at (subst (λ n. own_line n profile (plain_bound b) ≡ Some line) (zero_more k) one)
  stopped_all bounds plans k b refusal.Memory are at one = tt

  -- one more is planned
  pub plans_more : (bounds : List Bound) (plans : List Planned) (k : ℕ) (b : Bound) (p : Planned) → AreAskedPlans profile tables (take k bounds) plans → slice_get bounds k ≡ Some b → IsAskedPlan profile tables b p
      → AreAskedPlans profile tables (take (suc k) bounds) (plans ++ p ∷ [])
  plans_more [] plans k b p are at is = absurd cc
  plans_more (x ∷ bounds) [] zero b p are at is = let same : b ≡ x = cc in (subst (λ (y : Bound). IsAskedPlan profile tables y p) same is, tt)
  plans_more (x ∷ bounds) (y ∷ plans) zero b p are at is = absurd are
  plans_more (x ∷ bounds) [] (suc k) b p are at is = absurd are
  plans_more (x ∷ bounds) (y ∷ plans) (suc k) b p are at is = (are.0, plans_more bounds plans k b p are.1 at is)

  -- as many plans as queries
  pub same_plans : (bounds : List Bound) (plans : List Planned) → AreAskedPlans profile tables bounds plans → length plans ≡ length bounds
  same_plans [] [] are = refl
  same_plans [] (p ∷ plans) are = absurd are
  same_plans (b ∷ bounds) [] are = absurd are
  same_plans (b ∷ bounds) (p ∷ plans) are = ap suc (same_plans bounds plans are.1)

  -- the plans were made under the profile
  pub all_made : ((p : Planned) (b : Bound) → IsPlanOf p.kind b profile → IsMade profile p) → (bounds : List Bound) (plans : List Planned) → AreAskedPlans profile tables bounds plans → AllMade profile plans
  all_made made [] [] are = tt
  all_made made [] (p ∷ plans) are = absurd are
  all_made made (b ∷ bounds) [] are = absurd are
  all_made made (b ∷ bounds) (p ∷ plans) are = (made p b are.0.plan, all_made made bounds plans are.1)

  -- they need what the queries do
  needs_are : (bounds : List Bound) (plans : List Planned) → AreAskedPlans profile tables bounds plans → needs_of plans ≡ map (λ q. need_of (unfiltered q) profile) (map plain_bound bounds)
  needs_are [] [] are = refl
  needs_are [] (p ∷ plans) are = absurd are
  needs_are (b ∷ bounds) [] are = absurd are
  needs_are (b ∷ bounds) (p ∷ plans) are = ap₂ (λ (n : Need) (ns : List Need). n ∷ ns) (are.0.plan.needs ∙ sym (same_needs b profile)) (needs_are bounds plans are.1)

  said_each : (bounds : List Bound) → map (λ b. said_alone profile tables (plain_bound b)) bounds ≡ map (said_alone profile tables) (map plain_bound bounds)
  said_each [] = refl
  said_each (b ∷ bounds) = ap (λ (rest : List Outcome). said_alone profile tables (plain_bound b) ∷ rest) (said_each bounds)

  module _ (bounds : List Bound) (plans : List Planned) (are : AreAskedPlans profile tables bounds plans) where
    abbrev exceeded : Option PackError
    exceeded = pack_refusal (packed_need (needs_of plans)) profile

    line_is : (o : Option PackError) → exceeded ≡ o → limit_line profile (map plain_bound bounds) ≡ option_map pack_line o
    line_is o e =
        let behind : Option (List ℕ) = option_map pack_line (pack_refusal (need_together profile (map plain_bound bounds)) profile) in
        ap (λ (line : Option (List ℕ)). line_or line behind) (plans_pass 0 bounds plans are)
        ∙ ap (option_map pack_line) (ap (λ (needs : List Need). pack_refusal (packed_need needs) profile) (sym (needs_are bounds plans are)) ∙ e)

    comes_to : (o : Option PackError) → exceeded ≡ o → unless_refused (option_map pack_line o) (together (map (λ b. said_alone profile tables (plain_bound b)) bounds)) ≡ outcome_of profile tables (map plain_bound bounds)
    comes_to o e = ap₂ (λ (line : Option (List ℕ)) (sayings : List Outcome). unless_refused line (together sayings)) (sym (line_is o e)) (said_each bounds)

    module _ {P : Type 0} (packed : Result P PackError) (refused_by : (e : PackError) → exceeded ≡ Some e → packed ≡ Err e) where
      none_if : (it : P) (o : Option PackError) → packed ≡ Ok it → exceeded ≡ o → exceeded ≡ None
      none_if it None is e = e
      none_if it (Some error) is e = let wrong = sym is ∙ refused_by error e in absurd cc

      -- all of them are packed
      pub packed_comes : (it : P) (outcome : Outcome) → packed ≡ Ok it → outcome ≡ together (map (λ b. said_alone profile tables (plain_bound b)) bounds)
          → outcome ≡ outcome_of profile tables (map plain_bound bounds)
      packed_comes it outcome is e = e ∙ comes_to None (none_if it exceeded is refl)

      pub packed_all : {E : Type 0} (it : P) (r : Result Outcome E) → packed ≡ Ok it → IfOk r (λ said. said ≡ together (map (λ b. said_alone profile tables (plain_bound b)) bounds))
          → IfOk r (λ o. o ≡ outcome_of profile tables (map plain_bound bounds))
      packed_all it (Ok outcome) is e = packed_comes it outcome is e
      packed_all it (Err memory) is e = tt

      -- their need exceeds a limit
      pub unpacked_comes : (error : PackError) (line : List ℕ) → packed ≡ Err error → error ≢ Memory → line ≡ pack_line error → (exceeded ≡ None → IfErr packed (λ e. e ≡ Memory))
          → refused Rejected line ≡ outcome_of profile tables (map plain_bound bounds)
      unpacked_comes error line is known said memory_by = by exceeded refl
        where
          same_error : (e f : PackError) (x y : Result P PackError) → x ≡ Err e → y ≡ Err f → x ≡ y → e ≡ f
          same_error e f x y p q h = cc

          by : (o : Option PackError) → exceeded ≡ o → refused Rejected line ≡ outcome_of profile tables (map plain_bound bounds)
          by None none = absurd (known (rw is at (memory_by none)))
          by (Some e) some =
              let same : error ≡ e = same_error error e packed packed is (refused_by e some) refl in
              ap (refused Rejected) (said ∙ ap pack_line same) ∙ comes_to (Some e) some

  -- a query's own need exceeds a limit
  pub stopped_comes : (bounds : List Bound) (line : List ℕ) → plan_refused 0 profile (map plain_bound bounds) ≡ Some line → refused Rejected line ≡ outcome_of profile tables (map plain_bound bounds)
  stopped_comes bounds line e =
      let qs = map plain_bound bounds in
      let behind : Option (List ℕ) = option_map pack_line (pack_refusal (need_together profile qs) profile) in
      sym (ap (λ (o : Option (List ℕ)). unless_refused (line_or o behind) (together (map (said_alone profile tables) qs))) e)

-- a query that is read off a list
pub asked_here : (shared : Shared) (bounds : List Bound) (k : ℕ) (b : Bound) → All (λ x. IsAsked shared x) bounds → k < length bounds → b ≡ get_or bounds k b → IsAsked shared b
asked_here shared bounds k b all lt is = subst (λ x. IsAsked shared x) (sym is) (all k b lt)

pub stands_here : (bounds : List Bound) (k : ℕ) (b : Bound) → k < length bounds → b ≡ get_or bounds k b → slice_get bounds k ≡ Some b
stands_here bounds k b lt is = slice_get-get_or bounds k b lt ∙ ap Some (sym is)

pub first_ranged : (shared : Shared) (bounds : List Bound) → All (λ b. IsAsked shared b) bounds → 1 ≤ length bounds → IsRanged shared.profile
first_ranged shared [] all some = absurd (omega (arith, some))
first_ranged shared (b ∷ bounds) all some = ranged (inputs_alone shared.profile shared.tables b) (all 0 b (omega arith))
