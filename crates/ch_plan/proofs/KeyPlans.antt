-- DISTINCT and GROUP BY are planned by their operators: their keys are the different columns.
use Rattle.std.proofs.Common.{◌≡◌, ◌≤◌, ℕ, ◌+◌, ◌*◌, Bool, true, List, map, length, refl, sym, ◌∙◌, ap, None, subst, arith, zero, suc}
use Rattle.std.specs.List.{list_all}
use Rattle.std.proofs.lemmas.List.{length-map}
use Rattle.ch_lists.specs.Members.{In}
use Rattle.ch_ir.specs.declared.profile.Profile.{Profile}
use Rattle.ch_ir.specs.declared.setting.Setting.TheVariants.{DistinctCols, DistinctRows, GroupCols, GroupRows}
use Rattle.ch_pred.specs.Named.{printed_cols}
use Rattle.ch_pred.specs.Sound.{IsCarried, carried_of}
use Rattle.ch_pred.specs.declared.bound.Bound.{Bound}
use Rattle.ch_pred.specs.declared.bound.Shape.TheVariants as shape
use Rattle.ch_pred.specs.declared.pred.Col.{Col}
use Rattle.ch_places.specs.Different.{different}
use Rattle.ch_places.proofs.Few.{AreAmong, few_different, first_side}
use Rattle.ch_places.proofs.Fits.{place_fits, places_fit}
use Rattle.ch_places.proofs.Kept.{places_read}
use Rattle.op_moves.specs.Columns.{place_of}
use Rattle.op_moves.specs.Values.{is_place}
use Rattle.op_distinct.specs.Program.{distinct_need, distinct_program}
use Rattle.op_distinct.specs.Shown as distinct
use Rattle.op_distinct.specs.Sizes as distinct_fit
use Rattle.op_distinct.specs.declared.distinct.Distinct.{Distinct}
use Rattle.op_distinct.specs.Serving.{DistinctServes, distinct_policy}
use Rattle.op_group.specs.Policy.{group_policy}
use Rattle.op_group.specs.Program.{group_need, group_program}
use Rattle.op_group.specs.Serving.{GroupServes}
use Rattle.op_group.specs.Shown as group
use Rattle.op_group.specs.Sizes as group_fit
use Rattle.op_group.specs.declared.group.Group.{Group}
use Rattle.ch_plan.specs.Kinds.{AreKeys, IsPlanOf, is_own_kind}
use Rattle.ch_plan.specs.Needs.{greatest_length, need_of, plan_refusal}
use Rattle.ch_plan.specs.Policy.{distinct_sizes, group_sizes, passes_of}
use Rattle.ch_plan.specs.Ranged.{IsRanged}
use Rattle.ch_plan.specs.declared.kind.PlanKind.TheVariants as kind
use Rattle.ch_plan.proofs.KindPlans.{shape_need, shape_policy, shape_program}
use Rattle.ch_plan.proofs.Placed.{shorter}

-- the places of the different ones of some columns
abbrev pub key_of : Bound → List Col → List ℕ
key_of b cols = map (place_of b) (different cols)

-- each side carries few columns
pub sides_few : (b : Bound) → greatest_length b.carried ≤ 16 → (side : ℕ) → length (carried_of b side) ≤ 16
sides_few b few side = let h = shorter b.carried side in omega arith

among : (b : Bound) (cols : List Col) → AreKeys b cols → AreAmong (carried_of b 0) cols
among b cols keys c i =
    let carried = keys.0 c i in
    let side : c.side ≡ 0 = first_side b.carried c.side c.at keys.1 carried in
    (side, subst (λ (s : ℕ). In c.at (carried_of b s)) side carried)

-- at most 16 keys
pub keys_few : (b : Bound) (cols : List Col) → greatest_length b.carried ≤ 16 → AreKeys b cols → length (different cols) ≤ 16
keys_few b cols few keys = let h = few_different cols (carried_of b 0) (among b cols keys) in let k = sides_few b few 0 in omega arith

pub counted_few : (b : Bound) (cols xs : List Col) (n : ℕ) → n ≡ length (different xs) → xs ≡ cols → greatest_length b.carried ≤ 16 → AreKeys b cols → n ≤ 16
counted_few b cols xs n e same few keys = let k : n ≡ length (different cols) = e ∙ ap (λ (ys : List Col). length (different ys)) same in let h = keys_few b cols few keys in omega arith

product_below : (r m : ℕ) → r ≤ 65536 → r * m ≤ 65536 * m
product_below r zero h = omega arith
product_below r (suc m) h = let more = product_below r m h in let e : r * suc m ≡ r * m + r = omega arith in omega arith

-- the cells of so many rows
pub product_few : (r m : ℕ) → r ≤ 65536 → m ≤ 18 → r * m ≤ 1179648
product_few r m h k = let p = product_below r m h in omega arith

pub key_fits : (b : Bound) (cols : List Col) → AreKeys b cols → list_all (is_place (greatest_length b.carried + 3)) (key_of b cols) ≡ true
key_fits b cols keys = places_fit b (greatest_length b.carried + 3) (λ side. let h = shorter b.carried side in omega arith) cols keys.0

pub key_few : (b : Bound) (cols : List Col) → greatest_length b.carried ≤ 16 → AreKeys b cols → length (key_of b cols) ≤ 16
key_few b cols few keys = let e = length-map (different cols) (place_of b) in let h = keys_few b cols few keys in omega arith

-- DISTINCT

abbrev pub distinct_of : Bound → Profile → distinct_fit.Sizes
distinct_of b profile = distinct_sizes b.carried profile (printed_cols b.printed)

pub distinct_fine : (b : Bound) (profile : Profile) → greatest_length b.carried ≤ 16 → IsRanged profile → AreKeys b (printed_cols b.printed) → distinct_fit.IsFine (distinct_of b profile)
distinct_fine b profile few ranged keys = record {
  wide = omega arith;
  narrow = omega arith;
  places = key_fits b (printed_cols b.printed) keys;
  few = key_few b (printed_cols b.printed) few keys;
  some_rows = (ranged DistinctRows).0;
  few_cols = (ranged DistinctCols).1;
}

distinct_needs : (b : Bound) (profile : Profile) → b.shape ≡ shape.Distinct → distinct_need (distinct_of b profile) ≡ need_of b profile
distinct_needs b profile e =
    ap (λ (n : ℕ). record { width = greatest_length b.carried + 3; cells = profile.distinct_rows * (n + 1); words = greatest_length b.carried + 3 + 32 + profile.distinct_cols * (n + 32); stages = 2 + profile.distinct_cols })
    (length-map (different (printed_cols b.printed)) (place_of b))
    ∙ sym (ap (shape_need b profile) e)

pub distinct_plan : (b : Bound) (profile : Profile) (o : Distinct) → b.shape ≡ shape.Distinct → distinct.sizes o ≡ distinct_of b profile
    → o.ops ≡ profile.ops → plan_refusal (need_of b profile) profile ≡ None → IsPlanOf (kind.Distinct o) b profile
distinct_plan b profile o e sizes ops within = record {
  own = ap (is_own_kind (kind.Distinct o)) e;
  policy = ap distinct_policy sizes ∙ sym (ap (shape_policy b profile) e);
  program = ap distinct_program sizes ∙ sym (ap (shape_program b profile) e);
  times = sym (ap passes_of e);
  needs = ap distinct_need sizes ∙ distinct_needs b profile e;
  most = ops;
  within = within;
  serves = λ d gate fits. subst (λ (s : distinct_fit.Sizes). DistinctServes s d b gate) (sym sizes) (record { own = e; fits = fits; read = places_read b (printed_cols b.printed) });
}

-- GROUP BY

abbrev pub group_of : Bound → Profile → List Col → Bool → Col → group_fit.Sizes
group_of b profile keys is_max value = group_sizes b.carried profile keys is_max value

pub group_fine : (b : Bound) (profile : Profile) (keys : List Col) (is_max : Bool) (value : Col) → greatest_length b.carried ≤ 16 → IsRanged profile → AreKeys b keys → IsCarried b value.side value.at
    → group_fit.IsFine (group_of b profile keys is_max value)
group_fine b profile keys is_max value few ranged are carried = record {
  wide = omega arith;
  narrow = omega arith;
  places = key_fits b keys are;
  value_place = place_fits b (greatest_length b.carried + 3) (λ side. let h = shorter b.carried side in omega arith) value carried;
  few = key_few b keys few are;
  some_rows = (ranged GroupRows).0;
  some_cols = (ranged GroupCols).0;
  few_cols = (ranged GroupCols).1;
}

group_needs : (b : Bound) (profile : Profile) (keys : List Col) (is_max : Bool) (value : Col) → b.shape ≡ shape.Group keys is_max value → group_need (group_of b profile keys is_max value) ≡ need_of b profile
group_needs b profile keys is_max value e =
    ap (λ (n : ℕ). record { width = greatest_length b.carried + 3; cells = profile.group_rows * (n + 2); words = greatest_length b.carried + 3 + 32 + profile.group_cols * (n + 32); stages = 2 + profile.group_cols })
    (length-map (different keys) (place_of b))
    ∙ sym (ap (shape_need b profile) e)

pub group_plan : (b : Bound) (profile : Profile) (keys : List Col) (is_max : Bool) (value : Col) (o : Group) → b.shape ≡ shape.Group keys is_max value → group.sizes o ≡ group_of b profile keys is_max value
    → o.ops ≡ profile.ops → plan_refusal (need_of b profile) profile ≡ None → IsPlanOf (kind.Group o) b profile
group_plan b profile keys is_max value o e sizes ops within = record {
  own = ap (is_own_kind (kind.Group o)) e;
  policy = ap group_policy sizes ∙ sym (ap (shape_policy b profile) e);
  program = ap group_program sizes ∙ sym (ap (shape_program b profile) e);
  times = sym (ap passes_of e);
  needs = ap group_need sizes ∙ group_needs b profile keys is_max value e;
  most = ops;
  within = within;
  serves = λ d gate fits. subst (λ (s : group_fit.Sizes). GroupServes s d b gate) (sym sizes)
      (record { keys = keys; value = value; own = e; fits = fits; read = places_read b keys; stands = refl });
}
