-- The profile of a request has its numbers in their ranges.
use Rattle.std.proofs.Common.{◌≡◌, ℕ, List, Option, Some, None, Result, Ok, Err, refl, subst}
use Rattle.ch_ir.specs.Profile.{default_settings, profile_of}
use Rattle.ch_ir.specs.declared.profile.Profile.{Profile}
use Rattle.ch_ir.specs.declared.read.ProfileError.{ProfileError}
use Rattle.ch_plan.proofs.Ranged.{default_is_ranged, read_is_ranged}
use Rattle.ch_plan.specs.Ranged.{IsRanged}
use Rattle.ch_messages.specs.Machine.{profile_line}
use Rattle.cheetah_inputs.specs.Inputs.{or_line, profile_or_line}

-- a profile that is read, or the default one, has its numbers in their ranges
pub given_is_ranged : (text : Option (List ℕ)) (profile : Profile) → profile_or_line text ≡ Ok profile → IsRanged profile
given_is_ranged None profile e = let same : default_settings ≡ profile = cc in subst IsRanged same default_is_ranged
given_is_ranged (Some text) profile e = by (profile_of text) refl e
  where
    by : (read : Result Profile ProfileError) → profile_of text ≡ read → or_line profile_line read ≡ Ok profile → IsRanged profile
    by (Ok p) is e = let same : p ≡ profile = cc in subst IsRanged same (read_is_ranged text p is)
    by (Err error) is e = absurd cc
