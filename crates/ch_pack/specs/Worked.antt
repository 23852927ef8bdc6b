-- Two plans of SELECT DISTINCT of one column, with one cached key each, in one program.
use Rattle.std.specs.Prelude.{◌≡◌, ℕ, [], ◌∷◌, Some, None}
use Rattle.ch_ir.specs.Profile.{default_settings}
use Rattle.ch_ir.specs.declared.profile.Profile.{Profile}
use Rattle.ch_ir.specs.declared.rules.LimitName.TheVariants as limit
use Rattle.ch_prune.specs.declared.operator.Need.{Need}
use Rattle.ch_pack_laws.specs.Needs.{packed_need}
use Rattle.ch_pack.specs.declared.error.PackError.TheVariants.{Limit}
use Rattle.ch_pack.specs.Plans.{pack_refusal}

abbrev pub one_key : Need
one_key = record { width = 4; cells = 2; words = 69; stages = 3 }

abbrev pub wide : Need
wide = record { width = 6; cells = 1; words = 40; stages = 2 }

abbrev pub small : ℕ → ℕ → ℕ → ℕ → Profile
small width cells words stages = record default_settings { width = width; cells = cells; words = words; stages = stages }

pub record PackedNeeds : Type 0 where
  pub twice : packed_need (one_key ∷ one_key ∷ []) ≡ record { width = 5; cells = 2; words = 165; stages = 14 }
  pub unlike : packed_need (wide ∷ one_key ∷ []) ≡ record { width = 7; cells = 2; words = 137; stages = 12 }
  pub fits : pack_refusal (packed_need (one_key ∷ one_key ∷ [])) default_settings ≡ None
  pub reached : pack_refusal (packed_need (one_key ∷ one_key ∷ [])) (small 5 2 165 14) ≡ None
  pub stages : pack_refusal (packed_need (one_key ∷ one_key ∷ [])) (small 5 2 165 13) ≡ Some (Limit limit.Stages 14 13)
  pub words : pack_refusal (packed_need (one_key ∷ one_key ∷ [])) (small 5 2 164 13) ≡ Some (Limit limit.Words 165 164)
  pub cells : pack_refusal (packed_need (one_key ∷ one_key ∷ [])) (small 5 1 164 13) ≡ Some (Limit limit.Cells 2 1)
  pub width : pack_refusal (packed_need (one_key ∷ one_key ∷ [])) (small 4 1 164 13) ≡ Some (Limit limit.Width 5 4)
