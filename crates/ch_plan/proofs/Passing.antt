-- A program within a need that is within the limits is accepted.
use Rattle.std.proofs.Common.{◌≡◌, ◌≤◌, ◌<◌, ℕ, ◌-◌, ◌^◌, refl, arith, Option, None, Some, inl, inr, length}
use Rattle.std.proofs.lemmas.Bool.{cases_lt, lt-ltb, le-ltb}
use Rattle.ch_ir.specs.declared.profile.Profile.{Profile}
use Rattle.ch_ir.specs.declared.program.Program.{Program}
use Rattle.ch_ir.specs.declared.rules.LimitName.{LimitName}
use Rattle.ch_ir.specs.Measure.{first_refusal, sizes_of}
use Rattle.ch_ir.specs.Rules.{BreaksNoRule}
use Rattle.ch_prune.specs.Needs.{IsWithin}
use Rattle.ch_prune.specs.declared.operator.Need.{Need}
use Rattle.ch_plan.specs.declared.error.PlanError.{PlanError}
use Rattle.ch_ir.specs.Measure.{most_ops}
use Rattle.ch_ir.specs.declared.setting.Setting.TheVariants.{Stages, Ops}
use Rattle.ch_plan.specs.Needs.{exceeds, or_then, plan_refusal}
use Rattle.ch_plan.specs.Ranged.{IsRanged}

-- neither refuses
neither : (f g : Option PlanError) → or_then f g ≡ None → (f ≡ None) × (g ≡ None)
neither None g h = (refl, h)
neither (Some e) g h = cc

-- a need that isn't refused is within
within : (which : LimitName) (need have : ℕ) → exceeds which need have ≡ None → need ≤ have
within which need have h = elim (cases_lt have need) [
  | inl lt ↦ absurd (let e = lt-ltb have need lt in cc)
  | inr le ↦ le
]

-- what the four limits say
pub limits : (need : Need) (profile : Profile) → plan_refusal need profile ≡ None
    → (need.width ≤ profile.width) × (need.cells ≤ profile.cells) × (need.words ≤ profile.words) × (need.stages ≤ profile.stages)
limits need profile h =
    let a = neither _ _ h in
    let b = neither _ _ a.1 in
    let c = neither _ _ b.1 in
    (within _ _ _ a.0, within _ _ _ b.0, within _ _ _ c.0, within _ _ _ c.1)

pub passes : (p : Program) (need : Need) (ops : ℕ) (profile : Profile) → BreaksNoRule p → IsWithin need ops (sizes_of p) → plan_refusal need profile ≡ None → ops ≤ profile.ops
    → first_refusal profile p ≡ None
passes p need ops profile unbroken m h many =
    let l = limits need profile h in
    let s = sizes_of p in
    rw (
      le-ltb profile.width s.width (let e = m.width in let f = l.0 in omega arith),
      le-ltb profile.cells s.cells (let e = m.cells in let f = l.1 in omega arith),
      le-ltb profile.words s.words (let e = m.words in let f = l.2 in omega arith),
      le-ltb profile.stages s.stages (let e = m.stages in let f = l.3 in omega arith),
      le-ltb profile.ops s.ops (let e = m.many in omega arith),
    ) unbroken

-- few stages and few ops
pub few : (p : Program) (need : Need) (ops : ℕ) (profile : Profile) → IsWithin need ops (sizes_of p) → plan_refusal need profile ≡ None → ops ≤ profile.ops → IsRanged profile
    → (length p.stages < 2 ^ 32 - 1) × (most_ops p.stages < 2 ^ 32 - 1)
unfolding sizes_of
few p need ops profile m h many ranged =
    let l = limits need profile h in
    (let a = m.stages in let b = l.3 in let d = (ranged Stages).1 in omega arith, let a = m.many in let d = (ranged Ops).1 in omega arith)
