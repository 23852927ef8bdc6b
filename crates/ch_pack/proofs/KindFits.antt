-- The programs of plans break no rule, are within their needs, and have no more arrays than stages.
use Rattle.std.proofs.Common.{◌≡◌, ◌≤◌, ℕ, zero, suc, ◌+◌, List, [], ◌∷◌, ◌++◌, refl, sym, subst, ap, arith, length, replicate}
use Rattle.std.proofs.lemmas.List.{length-append}
use Rattle.ch_ir.specs.Measure.{sizes_of}
use Rattle.ch_ir.specs.Rules.{BreaksNoRule}
use Rattle.ch_ir.specs.declared.program.Array.{Array}
use Rattle.ch_ir.specs.declared.program.Program.{Program}
use Rattle.ch_ir.specs.declared.profile.Profile.{Profile}
use Rattle.ch_prune.specs.FilterLaws.{filter_measured, filter_unbroken}
use Rattle.ch_prune.specs.Needs.{IsWithin}
use Rattle.op_distinct.specs.Order.{distinct_measured, distinct_unbroken}
use Rattle.op_distinct.specs.Shown as distinct
use Rattle.op_group.specs.Order.{group_measured, group_unbroken}
use Rattle.op_group.specs.Shown as group
use Rattle.op_having.specs.Order as having_order
use Rattle.op_join.specs.Order as join_order
use Rattle.op_semi.specs.Order as semi_order
use Rattle.op_skyline.specs.Order.{skyline_measured, skyline_unbroken}
use Rattle.op_topn.specs.Order.{top_measured, top_unbroken}
use Rattle.ch_plan.specs.Kinds.{kind_most, kind_needs, kind_program}
use Rattle.ch_plan.specs.declared.kind.PlanKind.{PlanKind}
use Rattle.ch_plan.specs.declared.kind.PlanKind.TheVariants as kind
use Rattle.ch_plan.specs.declared.planned.Planned.{Planned}
use Rattle.ch_pack_laws.specs.Needs.{AllWithin, total}
use Rattle.ch_pack_laws.specs.Packed.{all_arrays}
use Rattle.ch_pack_laws.specs.Steps.{AllUnbroken}
use Rattle.ch_pack.specs.Plans.{AllMade, needs_of, programs_of}

pub record KindFits (k : PlanKind) : Type 0 where
  pub unbroken : BreaksNoRule (kind_program k)
  pub within : IsWithin (kind_needs k) (kind_most k) (sizes_of (kind_program k))
  pub arrays : length (kind_program k).arrays ≤ (kind_needs k).stages

alike : (n : ℕ) (x : Array) → length (replicate n x) ≡ n
alike zero x = refl
alike (suc n) x = ap suc (alike n x)

two_kinds : (n k : ℕ) (x y : Array) → length (replicate n x ++ replicate k y) ≤ 2 + (n + k)
two_kinds n k x y = let a = length-append (replicate n x) (replicate k y) in let b = alike n x in let c = alike k y in omega (arith, a, b, c)

one_kind : (n : ℕ) (x : Array) → length (replicate n x) ≤ 2 + n
one_kind n x = let a = alike n x in omega (arith, a)

pub kind_fits : (k : PlanKind) → KindFits k
kind_fits (kind.Filter o) = record { unbroken = filter_unbroken o.width o.least; within = filter_measured o.width o.ops o.least o.some; arrays = omega arith }
kind_fits (kind.Distinct o) = record {
  unbroken = distinct_unbroken (distinct.sizes o) o.fine;
  within = distinct_measured (distinct.sizes o) o.fine o.ops o.many;
  arrays = one_kind (distinct.sizes o).cols _;
}
kind_fits (kind.Group o) = record {
  unbroken = group_unbroken (group.sizes o) o.fine;
  within = group_measured (group.sizes o) o.fine o.ops o.many;
  arrays = one_kind (group.sizes o).cols _;
}
kind_fits (kind.Top o) = record {
  unbroken = top_unbroken o.sizes o.fine;
  within = top_measured o.sizes o.fine o.ops o.many;
  arrays = let a = alike (2 + o.sizes.steps) (record { entries = 1; cells = 1 }) in omega (arith, a);
}
kind_fits (kind.Skyline o) = record {
  unbroken = skyline_unbroken o.sizes o.fine;
  within = skyline_measured o.sizes o.fine o.ops o.many;
  arrays = one_kind o.sizes.points _;
}
kind_fits (kind.Having o) = record {
  unbroken = having_order.unbroken_program o.sizes o.fine;
  within = having_order.within_need o.sizes o.fine o.ops o.many;
  arrays = one_kind o.sizes.hashes _;
}
kind_fits (kind.Join o) = record {
  unbroken = join_order.unbroken_program o.sizes o.fine;
  within = join_order.within_need o.sizes o.fine o.ops o.many;
  arrays = one_kind o.sizes.hashes _;
}
kind_fits (kind.Semi o) = record {
  unbroken = semi_order.unbroken_program o.sizes o.fine;
  within = semi_order.within_need o.sizes o.fine o.ops o.many;
  arrays = two_kinds o.sizes.bloom.hashes o.sizes.cols _ _;
}

pub all_unbroken : (plans : List Planned) → AllUnbroken (programs_of plans)
all_unbroken [] = tt
all_unbroken (p ∷ plans) = (subst (λ (x : Program). BreaksNoRule x) (sym p.same) (kind_fits p.kind).unbroken, all_unbroken plans)

pub all_within : (profile : Profile) (plans : List Planned) → AllMade profile plans → AllWithin profile.ops (needs_of plans) (programs_of plans)
all_within profile [] made = tt
all_within profile (p ∷ plans) made =
    let w = (kind_fits p.kind).within in
    let few = made.0.most in
    let own : IsWithin (kind_needs p.kind) profile.ops (sizes_of (kind_program p.kind)) = record { width = w.width; cells = w.cells; words = w.words; stages = w.stages; many = let e = w.many in omega (arith, e, few) } in
    (subst (λ (x : Program). IsWithin (kind_needs p.kind) profile.ops (sizes_of x)) (sym p.same) own, all_within profile plans made.1)

pub arrays_few : (plans : List Planned) → length (all_arrays (programs_of plans)) ≤ total (λ n. n.stages) (needs_of plans)
arrays_few [] = omega arith
arrays_few (p ∷ plans) =
    let a : length p.checked.arrays ≤ (kind_needs p.kind).stages = subst (λ (x : Program). length x.arrays ≤ (kind_needs p.kind).stages) (sym p.same) (kind_fits p.kind).arrays in
    let b = arrays_few plans in
    let c = length-append p.checked.arrays (all_arrays (programs_of plans)) in
    omega (arith, a, b, c)
