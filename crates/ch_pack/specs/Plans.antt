-- What packing some plans promises.
use Rattle.std.specs.Prelude.{◌≡◌, ◌≤◌, ℕ, List, [], ◌∷◌, map, nat_lt, if◌then◌else◌, Option, Some, None}
use Rattle.ch_ir.specs.declared.program.Program.{Program}
use Rattle.ch_ir.specs.declared.profile.Profile.{Profile}
use Rattle.ch_ir.specs.declared.rules.LimitName.{LimitName}
use Rattle.ch_ir.specs.declared.rules.LimitName.TheVariants.{Width, Cells, Words, Stages}
use Rattle.ch_ir.specs.Measure.{first_refusal, sizes_of}
use Rattle.ch_plan.specs.Kinds.{kind_most, kind_needs}
use Rattle.ch_plan.specs.Needs.{plan_refusal}
use Rattle.ch_plan.specs.declared.planned.Planned.{Planned}
use Rattle.ch_prune.specs.Needs.{IsWithin}
use Rattle.ch_prune.specs.declared.operator.Need.{Need}
use Rattle.ch_pack_laws.specs.Needs.{greatest, packed_need}
use Rattle.ch_pack_laws.specs.Packed.{bases_from, packed}
use Rattle.ch_pack_laws.specs.Packs.{Packs}
use Rattle.ch_pack.specs.declared.error.PackError.{PackError}
use Rattle.ch_pack.specs.declared.error.PackError.TheVariants.{Limit}
use Rattle.ch_pack.specs.declared.packing.Packed.{Packed}

abbrev pub programs_of : List Planned → List Program
programs_of plans = map (λ p. p.checked) plans

abbrev pub needs_of : List Planned → List Need
needs_of plans = map (λ p. kind_needs p.kind) plans

-- what a plan that was made under the profile keeps to
pub record IsMade (profile : Profile) (p : Planned) : Type 0 where
  pub within : plan_refusal (kind_needs p.kind) profile ≡ None
  pub most : kind_most p.kind ≤ profile.ops

abbrev pub AllMade : Profile → List Planned → Type 0
AllMade profile [] = Unit {0}
AllMade profile (p ∷ plans) = IsMade profile p × AllMade profile plans

-- refused where the need is above what the profile has
abbrev pub exceeds : LimitName → ℕ → ℕ → Option PackError
exceeds which need have = if nat_lt have need then Some (Limit which need have) else None

abbrev pub or_then : Option PackError → Option PackError → Option PackError
or_then None next = next
or_then (Some refused) next = Some refused

-- the first limit that the need exceeds
abbrev pub pack_refusal : Need → Profile → Option PackError
pack_refusal need profile =
    or_then (exceeds Width need.width profile.width)
    (or_then (exceeds Cells need.cells profile.cells)
    (or_then (exceeds Words need.words profile.words) (exceeds Stages need.stages profile.stages)))

-- The packed program does on the words of each selector what that plan's program does, it is within the packed needs, and the
-- verifier accepts it.
pub record IsPacked (plans : List Planned) (profile : Profile) (it : Packed) : Type 0 where
  pub program : it.checked ≡ packed (programs_of plans)
  pub widest : it.selector ≡ greatest (λ n. n.width) (needs_of plans)
  pub first_arrays : it.bases ≡ bases_from 0 (programs_of plans)
  pub packs : Packs (programs_of plans) it.checked it.selector it.bases
  pub within : IsWithin (packed_need (needs_of plans)) profile.ops (sizes_of it.checked)
  pub accepted : first_refusal profile it.checked ≡ None
