-- Plans that are made under a profile, whose packed need is within it, have a packed program that the verifier accepts.
use Rattle.std.proofs.Common.{◌≡◌, ◌≤◌, ◌<◌, ℕ, ◌+◌, ◌*◌, ◌-◌, ◌^◌, List, [], ◌∷◌, refl, sym, ◌∙◌, subst, ap, arith, inl, inr, Option, None, Some, length, max}
use Rattle.std.proofs.lemmas.Bool.{cases_lt, lt-ltb, le-ltb}
use Rattle.std.proofs.lemmas.List.{length-map}
use Rattle.ch_ir.specs.declared.profile.Profile.{Profile}
use Rattle.ch_ir.specs.declared.program.Program.{Program}
use Rattle.ch_ir.specs.declared.rules.LimitName.{LimitName}
use Rattle.ch_ir.specs.declared.setting.Setting.TheVariants as setting
use Rattle.ch_ir.specs.Measure.{first_refusal, most_ops, sizes_of}
use Rattle.ch_ir.specs.Rules.{BreaksNoRule}
use Rattle.ch_prune.specs.Needs.{IsWithin}
use Rattle.ch_prune.specs.declared.operator.Need.{Need}
use Rattle.ch_plan.specs.Kinds.{kind_needs}
use Rattle.ch_plan.specs.Needs as plan_needs
use Rattle.ch_plan.specs.Ranged.{IsRanged}
use Rattle.ch_plan.specs.declared.error.PlanError.{PlanError}
use Rattle.ch_plan.specs.declared.planned.Planned.{Planned}
use Rattle.ch_pack_laws.specs.LawfulPlans.{packed_unbroken}
use Rattle.ch_pack_laws.specs.Measured.{packed_within}
use Rattle.ch_pack_laws.specs.Needs.{greatest, packed_need, total}
use Rattle.ch_pack_laws.specs.Packed.{all_arrays, bases_from, first_free, free_after_all, last_free, packed, selector_of}
use Rattle.ch_pack_laws.specs.Plans.{free_grows}
use Rattle.ch_pack_laws.specs.Steps.{all_fine, packed_packs}
use Rattle.ch_pack.specs.declared.error.PackError.{PackError}
use Rattle.ch_pack.specs.declared.packing.Packed.{Packed}
use Rattle.ch_pack.specs.Plans.{AllMade, IsPacked, exceeds, needs_of, or_then, pack_refusal, programs_of}
use Rattle.ch_pack.specs.Small.{ProgramsSmall, VerdictsSmall}
use Rattle.ch_pack.proofs.Fitting.{programs_small, verdicts_small}
use Rattle.ch_pack.proofs.KindFits.{all_unbroken, all_within, arrays_few}

-- the four limits that a need keeps
pub record Keeps (need : Need) (profile : Profile) : Type 0 where
  pub width : need.width ≤ profile.width
  pub cells : need.cells ≤ profile.cells
  pub words : need.words ≤ profile.words
  pub stages : need.stages ≤ profile.stages

neither : (f g : Option PackError) → or_then f g ≡ None → (f ≡ None) × (g ≡ None)
neither None g h = (refl, h)
neither (Some e) g h = cc

keeps : (which : LimitName) (need have : ℕ) → exceeds which need have ≡ None → need ≤ have
keeps which need have h = elim (cases_lt have need) [
  | inl lt ↦ absurd (let e = lt-ltb have need lt in cc)
  | inr le ↦ le
]

pub need_keeps : (need : Need) (profile : Profile) → pack_refusal need profile ≡ None → Keeps need profile
need_keeps need profile h =
    let a = neither _ _ h in
    let b = neither _ _ a.1 in
    let c = neither _ _ b.1 in
    record { width = keeps _ _ _ a.0; cells = keeps _ _ _ b.0; words = keeps _ _ _ c.0; stages = keeps _ _ _ c.1 }

plan_neither : (f g : Option PlanError) → plan_needs.or_then f g ≡ None → (f ≡ None) × (g ≡ None)
plan_neither None g h = (refl, h)
plan_neither (Some e) g h = cc

plan_keeps : (which : LimitName) (need have : ℕ) → plan_needs.exceeds which need have ≡ None → need ≤ have
plan_keeps which need have h = elim (cases_lt have need) [
  | inl lt ↦ absurd (let e = lt-ltb have need lt in cc)
  | inr le ↦ le
]

plan_limits : (need : Need) (profile : Profile) → plan_needs.plan_refusal need profile ≡ None → Keeps need profile
plan_limits need profile h =
    let a = plan_neither _ _ h in
    let b = plan_neither _ _ a.1 in
    let c = plan_neither _ _ b.1 in
    record { width = plan_keeps _ _ _ a.0; cells = plan_keeps _ _ _ b.0; words = plan_keeps _ _ _ c.0; stages = plan_keeps _ _ _ c.1 }

-- The sums of needs are small

pub record NeedsSmall (plans : List Planned) : Type 0 where
  pub width : greatest (λ n. n.width) (needs_of plans) ≤ 20
  pub words : total (λ n. n.words + n.stages) (needs_of plans) ≤ 8448 * length plans
  pub stages : total (λ n. n.stages) (needs_of plans) ≤ 256 * length plans

pub needs_small : (profile : Profile) (plans : List Planned) → IsRanged profile → AllMade profile plans → NeedsSmall plans
needs_small profile [] ranged made = record { width = omega arith; words = omega arith; stages = omega arith }
needs_small profile (p ∷ plans) ranged made =
    let rest = needs_small profile plans ranged made.1 in
    let own = plan_limits (kind_needs p.kind) profile made.0.within in
    let w = (ranged setting.Width).1 in
    let v = (ranged setting.Words).1 in
    let s = (ranged setting.Stages).1 in
    let a = own.width in
    let b = own.words in
    let c = own.stages in
    let d = rest.width in
    let e = rest.words in
    let f = rest.stages in
    record { width = omega (arith, a, w, d); words = omega (arith, b, c, v, s, e); stages = omega (arith, c, s, f) }

-- What the calls of pack need

pub record PackFits (plans : List Planned) (profile : Profile) : Type 0 where
  pub small : ProgramsSmall (first_free (programs_of plans)) 0 (selector_of (programs_of plans) + 1) (programs_of plans)
  pub verdicts : VerdictsSmall (first_free (programs_of plans)) (selector_of (programs_of plans) + 1) (programs_of plans)
  pub first : first_free (programs_of plans) < 2 ^ 32
  pub last : last_free (programs_of plans) + length plans < 2 ^ 32
  pub arrays : length (all_arrays (programs_of plans)) < 2 ^ 32
  pub within : IsWithin (packed_need (needs_of plans)) profile.ops (sizes_of (packed (programs_of plans)))
  pub accepted : first_refusal profile (packed (programs_of plans)) ≡ None
  pub stages : length (packed (programs_of plans)).stages < 2 ^ 32 - 1
  pub ops : most_ops (packed (programs_of plans)).stages < 2 ^ 32 - 1

accepts : (p : Program) (need : Need) (profile : Profile) → BreaksNoRule p → IsWithin need profile.ops (sizes_of p) → Keeps need profile → first_refusal profile p ≡ None
accepts p need profile unbroken m k =
    let s = sizes_of p in
    let a = m.width in
    let b = m.cells in
    let c = m.words in
    let d = m.stages in
    let e = m.many in
    let a' = k.width in
    let b' = k.cells in
    let c' = k.words in
    let d' = k.stages in
    rw (
      le-ltb profile.width s.width (omega (arith, a, a')),
      le-ltb profile.cells s.cells (omega (arith, b, b')),
      le-ltb profile.words s.words (omega (arith, c, c')),
      le-ltb profile.stages s.stages (omega (arith, d, d')),
      le-ltb profile.ops s.ops (omega (arith, e)),
    ) unbroken

few_stages : (p : Program) (need : Need) (profile : Profile) → IsRanged profile → IsWithin need profile.ops (sizes_of p) → Keeps need profile → (length p.stages < 2 ^ 32 - 1) × (most_ops p.stages < 2 ^ 32 - 1)
unfolding sizes_of
few_stages p need profile ranged m k =
    (let a = m.stages in let b = k.stages in let d = (ranged setting.Stages).1 in omega (arith, a, b, d), let a = m.many in let d = (ranged setting.Ops).1 in omega (arith, a, d))

-- the last word is the verdict
last_word : (ps : List Program) (need : Need) (ops : ℕ) → IsWithin need ops (sizes_of (packed ps)) → last_free ps + length ps + 1 ≤ need.words
unfolding packed sizes_of
last_word ps need ops m = let e = m.words in verdict_most (selector_of ps + 1) _ (last_free ps + length ps + 1) need.words e
  where
    verdict_most : (a b c n : ℕ) → max a (max b c) ≤ n → c ≤ n
    verdict_most a b c n h = omega arith

pub pack_fits : (plans : List Planned) (profile : Profile) → AllMade profile plans → length plans ≤ 4 → IsRanged profile → pack_refusal (packed_need (needs_of plans)) profile ≡ None → PackFits plans profile
pack_fits plans profile made few ranged h =
    let ps : List Program = programs_of plans in
    let count : length ps ≡ length plans = length-map plans (λ p. p.checked) in
    let unbroken = all_unbroken plans in
    let most = (ranged setting.Ops).0 in
    let within = packed_within profile.ops (needs_of plans) ps unbroken (all_within profile plans made) (omega (arith, count, few)) (omega (arith, most)) in
    let k = need_keeps (packed_need (needs_of plans)) profile h in
    let words = k.words in
    let range = (ranged setting.Words).1 in
    let last = last_word ps (packed_need (needs_of plans)) profile.ops within in
    let grows : first_free ps ≤ last_free ps = free_grows (first_free ps) ps in
    let end : last_free ps + length ps + 1 ≤ 8192 = omega (arith, last, words, range) in
    let arrays = arrays_few plans in
    let stages = (needs_small profile plans ranged made).stages in
    let all : length (all_arrays ps) ≤ 1024 = omega (arith, arrays, stages, few) in
    let fine = all_fine (selector_of ps) ps (omega arith) unbroken in
    let both = few_stages (packed ps) (packed_need (needs_of plans)) profile ranged within k in
    let free : free_after_all (first_free ps) ps < 2 ^ 32 = omega (arith, end) in
    let chosen : selector_of ps + 1 + length ps < 2 ^ 32 = omega (arith, end, grows) in
    record {
      small = programs_small (selector_of ps) (first_free ps) 0 (selector_of ps + 1) ps fine free (omega (arith, all)) chosen;
      verdicts = verdicts_small (first_free ps) (selector_of ps + 1) ps free chosen;
      first = chosen;
      last = omega (arith, end, count);
      arrays = omega (arith, all);
      within = within;
      accepted = accepts (packed ps) (packed_need (needs_of plans)) profile (packed_unbroken ps unbroken) within k;
      stages = both.0;
      ops = both.1;
    }

selector_widest : (ps : List Program) (needs : List Need) (ops : ℕ) → IsWithin (packed_need needs) ops (sizes_of (packed ps)) → selector_of ps ≡ greatest (λ n. n.width) needs
unfolding packed sizes_of
selector_widest ps needs ops m = let e = m.width in omega (arith, e)

pub is_packed : (plans : List Planned) (profile : Profile) (it : Packed) → AllMade profile plans → PackFits plans profile → it.checked ≡ packed (programs_of plans) → it.selector ≡ selector_of (programs_of plans)
    → it.bases ≡ bases_from 0 (programs_of plans) → IsPacked plans profile it
is_packed plans profile it made fits e s b =
    let ps : List Program = programs_of plans in
    record {
      program = e;
      widest = s ∙ selector_widest ps (needs_of plans) profile.ops fits.within;
      first_arrays = b;
      packs = rw (e, s, b) (packed_packs ps (all_unbroken plans));
      within = rw e fits.within;
      accepted = rw e fits.accepted;
    }

pub fits_of : (plans : List Planned) (profile : Profile) (need : Need) → AllMade profile plans → length plans ≤ 4 → IsRanged profile → need ≡ packed_need (needs_of plans) → None ≡ pack_refusal need profile
    → PackFits plans profile
fits_of plans profile need made few ranged e h = pack_fits plans profile made few ranged (ap (λ (n : Need). pack_refusal n profile) (sym e) ∙ sym h)

-- the same at the selector that was found, and the number of plans
pub record Seated (plans : List Planned) (selector : ℕ) : Type 0 where
  pub small : ProgramsSmall (selector + 1 + length plans) 0 (selector + 1) (programs_of plans)
  pub verdicts : VerdictsSmall (selector + 1 + length plans) (selector + 1) (programs_of plans)
  pub first : selector + 1 + length plans < 2 ^ 32
  pub last : free_after_all (selector + 1 + length plans) (programs_of plans) + length plans < 2 ^ 32

pub seated : (plans : List Planned) (profile : Profile) (selector : ℕ) → selector ≡ selector_of (programs_of plans) → PackFits plans profile → Seated plans selector
seated plans profile selector e fits =
    let ps : List Program = programs_of plans in
    let count : length ps ≡ length plans = length-map plans (λ p. p.checked) in
    let free : first_free ps ≡ selector + 1 + length plans = omega (arith, e, count) in
    let chosen : selector_of ps + 1 ≡ selector + 1 = omega (arith, e) in
    record {
      small = two (λ f c. ProgramsSmall f 0 c ps) free chosen fits.small;
      verdicts = two (λ f c. VerdictsSmall f c ps) free chosen fits.verdicts;
      first = one (λ f. f < 2 ^ 32) free fits.first;
      last = one (λ f. free_after_all f ps + length plans < 2 ^ 32) free fits.last;
    }
  where
    two : (P : ℕ → ℕ → Type 0) {a b c d : ℕ} → a ≡ b → c ≡ d → P a c → P b d
    two P {a} {b} {c} {d} e f h = subst (λ (x : ℕ). P x d) e (subst (λ (y : ℕ). P a y) f h)

    one : (P : ℕ → Type 0) {a b : ℕ} → a ≡ b → P a → P b
    one P e h = subst P e h

pub passes_at : (plans : List Planned) (profile : Profile) (program : Program) → program ≡ packed (programs_of plans) → PackFits plans profile
    → (first_refusal profile program ≡ None) × (length program.stages < 2 ^ 32 - 1) × (most_ops program.stages < 2 ^ 32 - 1)
passes_at plans profile program e fits = (
  subst (λ (p : Program). first_refusal profile p ≡ None) (sym e) fits.accepted,
  subst (λ (p : Program). length p.stages < 2 ^ 32 - 1) (sym e) fits.stages,
  subst (λ (p : Program). most_ops p.stages < 2 ^ 32 - 1) (sym e) fits.ops,
)

pub need_bounds : (plans : List Planned) (profile : Profile) → IsRanged profile → AllMade profile plans → length plans ≤ 4
    → ((packed_need (needs_of plans)).width < 2 ^ 64) × ((packed_need (needs_of plans)).words < 2 ^ 64) × ((packed_need (needs_of plans)).stages < 2 ^ 64)
need_bounds plans profile ranged made few =
    let s = needs_small profile plans ranged made in
    let w = s.width in
    let v = s.words in
    let t = s.stages in
    (omega (arith, w), omega (arith, w, v, few), omega (arith, t, few))
