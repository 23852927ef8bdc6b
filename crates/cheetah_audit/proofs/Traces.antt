-- What a checked text comes to, and where a trace stands among what the files hold.
use Rattle.std.proofs.Common.{◌≡◌, ◌∙◌, ◌<◌, ap, arith, inl, inr, refl, sym, ℕ, zero, suc, All, List, [], ◌∷◌, ◌++◌, length, Option, Some, None}
use Rattle.std.specs.Prelude.{unwrap_or, Result, Ok, Err}
use Rattle.ch_audit_laws.specs.Said.{refused_line}
use Rattle.ch_audit_runs.specs.Checking.{IsChecked, said_in}
use Rattle.ch_audit_runs.specs.declared.checking.Checked.{Checked}
use Rattle.ch_audit_runs.specs.declared.checking.Checked.TheVariants.{Accepted, Refused}
use Rattle.ch_command.specs.Command.{answered, refused}
use Rattle.ch_command.specs.declared.outcome.Ending.TheVariants.{Rejected}
use Rattle.ch_command.specs.declared.outcome.Outcome.{Outcome}
use Rattle.ch_protocol.specs.Machine.{Config}
use Rattle.cheetah_audit_meaning.specs.Meaning.{OfTrace}
use Rattle.cheetah_inputs.specs.Inputs.{behind, first_text, listed}

pub accepted_comes : (c : Config) (text : List ℕ) (checked : Checked) (said : List ℕ) (outcome : Outcome) → IsChecked c text checked → said_in checked ≡ Ok said → outcome ≡ answered said → OfTrace c text outcome
accepted_comes c text (Accepted said') said outcome is e o =
    let same : said' ≡ said = cc in
    inl (record { value = is.0; is = is.1; rest = o ∙ ap answered (sym same ∙ is.2) })
accepted_comes c text (Refused line) said outcome is e o = absurd cc

pub refused_comes : (c : Config) (text : List ℕ) (checked : Checked) (line : List ℕ) (outcome : Outcome) → IsChecked c text checked → said_in checked ≡ Err line → outcome ≡ refused Rejected line → OfTrace c text outcome
refused_comes c text (Accepted said) line outcome is e o = absurd cc
refused_comes c text (Refused line') line outcome is e o =
    let same : line' ≡ line = cc in
    inr (record { error = is.0; is = is.1; said = o ∙ ap (refused Rejected) (sym same ∙ is.2) })

-- what holds of all that the files hold

module _ (P : List ℕ → Type 0) where
  pub all_others : (profile schedule : Option (List ℕ)) (contents : List (List ℕ)) → All P contents → All P (listed (first_text profile contents) ++ behind schedule (behind profile contents))
  all_others None None contents all = all
  all_others None (Some file) [] all = all
  all_others None (Some file) (x ∷ xs) all = λ k d lt. all (suc k) d (omega (arith, lt))
  all_others (Some p) None [] all = all
  all_others (Some p) None (a ∷ xs) all = all
  all_others (Some p) (Some file) [] all = all
  all_others (Some p) (Some file) (a ∷ []) all = all
  all_others (Some p) (Some file) (a ∷ x ∷ xs) all = both
    where
      both : All P (a ∷ xs)
      both zero d lt = all zero d (omega arith)
      both (suc k) d lt = all (suc (suc k)) d (omega (arith, lt))

  pub all_trace : (profile schedule : Option (List ℕ)) (contents : List (List ℕ)) → P [] → All P contents → P (unwrap_or (first_text schedule (behind profile contents)) [])
  all_trace profile None contents none all = none
  all_trace None (Some file) [] none all = none
  all_trace None (Some file) (x ∷ xs) none all = all 0 x (omega arith)
  all_trace (Some p) (Some file) [] none all = none
  all_trace (Some p) (Some file) (a ∷ []) none all = none
  all_trace (Some p) (Some file) (a ∷ x ∷ xs) none all = all 1 x (omega arith)
