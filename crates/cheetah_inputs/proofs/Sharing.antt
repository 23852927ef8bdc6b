-- What the contents come to where the profile or a table is refused that several queries would share.
use Rattle.std.proofs.Common.{◌≡◌, ◌∙◌, ap, refl, sym, ℕ, List, Option, None, Result, Ok, Err}
use Rattle.ch_command.specs.Command.{ReadThen, refused}
use Rattle.ch_command.specs.declared.outcome.Ending.TheVariants.{Input}
use Rattle.ch_command.specs.declared.outcome.Outcome.{Outcome}
use Rattle.ch_ir.specs.declared.profile.Profile.{Profile}
use Rattle.ch_tables.specs.TableValue.{TableValue}
use Rattle.cheetah_words.specs.Words.{Request}
use Rattle.cheetah_inputs.proofs.Chains.{reads_then, refused_then}
use Rattle.cheetah_inputs.specs.Inputs.{behind, part_texts, profile_or_line, profile_text, tables_or_line}
use Rattle.cheetah_inputs.specs.Refusals.{Reads}
use Rattle.cheetah_inputs.specs.Shared.{ReadsShared, never}
use Rattle.cheetah_inputs.specs.declared.refusal.Refusal.{Refusal}
use Rattle.cheetah_inputs.specs.declared.refusal.Refusal.TheVariants as refusal

-- without a schedule the texts of the parts stand behind the profile's
pub parts_behind : (request : Request) (contents texts : List (List ℕ)) → request.schedule ≡ None → texts ≡ behind request.profile contents → texts ≡ part_texts request contents
parts_behind request contents texts none e = e ∙ ap (λ (s : Option (List ℕ)). behind s (behind request.profile contents)) (sym none)

module _ (request : Request) (contents : List (List ℕ)) where
  abbrev behind_profile : Profile → Outcome → Type 0
  behind_profile profile outcome = ReadThen (tables_or_line request contents) (refused Input) (never profile) outcome

  pub profile_stops : (text : Option (List ℕ)) (why : Refusal) → text ≡ profile_text request contents → Reads {X = Profile} (profile_or_line text) (Err why) → ReadsShared request contents (Err why)
  profile_stops text (refusal.Line line) same reads =
      refused_then (profile_or_line (profile_text request contents)) (refused Input) behind_profile line (refused Input line) (ap profile_or_line (sym same) ∙ reads) refl
  profile_stops text refusal.Memory same reads = tt

  pub tables_stop : (profile : Profile) (why : Refusal) → profile_or_line (profile_text request contents) ≡ Ok profile → Reads {X = List TableValue} (tables_or_line request contents) (Err why) → ReadsShared request contents (Err why)
  tables_stop profile (refusal.Line line) read reads =
      reads_then (profile_or_line (profile_text request contents)) (refused Input) behind_profile profile (refused Input line) read
      (refused_then (tables_or_line request contents) (refused Input) (never profile) line (refused Input line) reads refl)
  tables_stop profile refusal.Memory read reads = tt
