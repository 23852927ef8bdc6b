-- What the contents come to where one of the inputs is refused.
use Rattle.std.proofs.Common.{◌≡◌, ◌∙◌, ap, inl, inr, refl, sym, ℕ, List, Option, Result, Ok, Err}
use Rattle.ch_command.specs.Command.{refused}
use Rattle.ch_command.specs.declared.outcome.Ending.TheVariants.{Input}
use Rattle.ch_ir.specs.declared.profile.Profile.{Profile}
use Rattle.ch_pred.specs.declared.bound.Bound.{Bound}
use Rattle.ch_schedule.specs.declared.step.Schedule.{Schedule}
use Rattle.ch_tables.specs.TableValue.{TableValue}
use Rattle.cheetah_words.specs.Words.{Request}
use Rattle.cheetah_inputs.proofs.Chains.{reads_then, refused_then}
use Rattle.cheetah_inputs.specs.Inputs.{GivesSchedule, OfSchedule, OfTables, ReadsInputs, ReadsSchedule, never, profile_or_line, profile_text, schedule_text, tables_or_line}
use Rattle.cheetah_inputs.specs.Question.{OfQuestion, ReadsQuestion}
use Rattle.cheetah_inputs.specs.Refusals.{Reads}
use Rattle.cheetah_inputs.specs.declared.inputs.Inputs.{Inputs}
use Rattle.cheetah_inputs.specs.declared.refusal.Refusal.{Refusal}
use Rattle.cheetah_inputs.specs.declared.refusal.Refusal.TheVariants as refusal

module _ (request : Request) (contents : List (List ℕ)) where
  pub profile_refused : (text : Option (List ℕ)) (why : Refusal) → text ≡ profile_text request contents → Reads {X = Profile} (profile_or_line text) (Err why) → ReadsInputs request contents (Err why)
  profile_refused text (refusal.Line line) same reads = refused_then (profile_or_line (profile_text request contents)) (refused Input) (OfSchedule request contents never) line (refused Input line) (ap profile_or_line (sym same) ∙ reads) refl
  profile_refused text refusal.Memory same reads = tt

  module _ (text : Option (List ℕ)) (profile : Profile) (same : text ≡ profile_text request contents) (read : profile_or_line text ≡ Ok profile) where
    pub schedule_refused : (lines : Option (List ℕ)) (why : Refusal) → lines ≡ schedule_text request contents → ReadsSchedule lines (Err why) → ReadsInputs request contents (Err why)
    schedule_refused lines (refusal.Line line) lines_are reads =
        reads_then (profile_or_line (profile_text request contents)) (refused Input) (OfSchedule request contents never) profile (refused Input line) (ap profile_or_line (sym same) ∙ read) (inr (rw lines_are at reads))
    schedule_refused lines refusal.Memory lines_are reads = tt

    module _ (schedule : Schedule) (given : GivesSchedule (schedule_text request contents) schedule) where
      behind_schedule : (line : List ℕ) → OfTables request contents never profile schedule (refused Input line) → ReadsInputs request contents (Err (refusal.Line line))
      behind_schedule line rest =
          reads_then (profile_or_line (profile_text request contents)) (refused Input) (OfSchedule request contents never) profile (refused Input line) (ap profile_or_line (sym same) ∙ read)
          (inl (record { value = schedule; is = given; rest = rest }))

      pub tables_refused : (why : Refusal) → Reads {X = List TableValue} (tables_or_line request contents) (Err why) → ReadsInputs request contents (Err why)
      tables_refused (refusal.Line line) reads = behind_schedule line (refused_then (tables_or_line request contents) (refused Input) (λ tables. OfQuestion request.query tables (λ q outcome. ⊥)) line (refused Input line) reads refl)
      tables_refused refusal.Memory reads = tt

      pub question_refused : (tables : List TableValue) (why : Refusal) → tables_or_line request contents ≡ Ok tables → ReadsQuestion request.query tables (Err why) → ReadsInputs request contents (Err why)
      question_refused tables (refusal.Line line) is reads =
          behind_schedule line (reads_then (tables_or_line request contents) (refused Input) (λ tables. OfQuestion request.query tables (λ q outcome. ⊥)) tables (refused Input line) is reads)
      question_refused tables refusal.Memory is reads = tt
