-- What the files of a request and its query's text give.
use Rattle.std.specs.Prelude.{◌≡◌, ◌≢◌, ℕ, true, List, [], ◌∷◌, ◌++◌, drop, map, slice_get, Option, Some, None, Result, Ok, Err}
use Rattle.ch_bind.specs.Binding.{PlainBound, plain_bound}
use Rattle.ch_command.specs.Command.{ReadThen, Refuses, Then, refused}
use Rattle.ch_command.specs.declared.outcome.Ending.TheVariants.{Input}
use Rattle.ch_command.specs.declared.outcome.Outcome.{Outcome}
use Rattle.ch_ir.specs.Profile.{default_settings, profile_of}
use Rattle.ch_ir.specs.declared.profile.Profile.{Profile}
use Rattle.ch_ir.specs.declared.read.ProfileError.{ProfileError}
use Rattle.ch_lines.specs.Lines.{lines_of}
use Rattle.ch_messages.specs.Machine.{profile_line}
use Rattle.ch_schedule.specs.Bad.{IsSchedule}
use Rattle.ch_schedule.specs.Bad as schedules
use Rattle.ch_schedule.specs.declared.read.ScheduleError.{ScheduleError}
use Rattle.ch_schedule.specs.declared.read.ScheduleError.TheVariants.{Memory}
use Rattle.ch_schedule.specs.declared.step.Schedule.{Schedule}
use Rattle.ch_tables.specs.TableValue.{TableValue}
use Rattle.cheetah_words.specs.Words.{Request}
use Rattle.cheetah_inputs.specs.Messages.{schedule_line}
use Rattle.cheetah_inputs.specs.Parts.{named_texts, tables_in}
use Rattle.cheetah_inputs.specs.Question.{IsQuestion, OfQuestion}
use Rattle.cheetah_inputs.specs.Tables.{room, tables_within}
use Rattle.cheetah_inputs.specs.declared.inputs.Inputs.{Inputs}
use Rattle.cheetah_inputs.specs.declared.refusal.Refusal.{Refusal}
use Rattle.cheetah_inputs.specs.declared.refusal.Refusal.TheVariants as refusal

-- The files of a request, in the order in which they are read: the profile, the schedule, and those of the tables.

abbrev pub listed : {X : Type 0} → Option X → List X
listed None = []
listed (Some x) = x ∷ []

abbrev pub names_of : Request → List (List ℕ)
names_of request = listed request.profile ++ listed request.schedule ++ map (λ part. part.file) request.tables

-- the text of a file that may be named stands first among those that are left; and those behind it
abbrev pub first_text : Option (List ℕ) → List (List ℕ) → Option (List ℕ)
first_text None texts = None
first_text (Some file) texts = slice_get texts 0

abbrev pub behind : Option (List ℕ) → List (List ℕ) → List (List ℕ)
behind None texts = texts
behind (Some file) texts = drop 1 texts

-- their texts, by what was read of them all
abbrev pub profile_text : Request → List (List ℕ) → Option (List ℕ)
profile_text request contents = first_text request.profile contents

abbrev pub schedule_text : Request → List (List ℕ) → Option (List ℕ)
schedule_text request contents = first_text request.schedule (behind request.profile contents)

abbrev pub part_texts : Request → List (List ℕ) → List (List ℕ)
part_texts request contents = behind request.schedule (behind request.profile contents)

-- What the texts give.

abbrev pub or_line : {X E : Type 0} → (E → List ℕ) → Result X E → Result X (List ℕ)
or_line line (Ok x) = Ok x
or_line line (Err error) = Err (line error)

-- the profile of a text, or the default one
abbrev pub profile_or_line : Option (List ℕ) → Result Profile (List ℕ)
profile_or_line None = Ok default_settings
profile_or_line (Some text) = or_line profile_line (profile_of text)

abbrev pub drain_alone : Schedule
drain_alone = record { steps = []; drain = true }

-- the schedule of a text, or the one that only drains
abbrev pub GivesSchedule : Option (List ℕ) → Schedule → Type 0
GivesSchedule None schedule = schedule ≡ drain_alone
GivesSchedule (Some text) schedule = IsSchedule (lines_of text) schedule

-- a refusal of the text; want of memory is none
abbrev pub RejectsSchedule : Option (List ℕ) → ScheduleError → Type 0
RejectsSchedule None error = ⊥
RejectsSchedule (Some text) error = (error ≢ Memory) × schedules.Refuses (lines_of text) error

abbrev pub tables_or_line : Request → List (List ℕ) → Result (List TableValue) (List ℕ)
tables_or_line request contents = tables_within room (tables_in (named_texts request.tables (part_texts request contents)))

-- all that is read: profile, schedule, tables in the order of their first words, and the bound query
pub record Given : Type 0 where
  pub profile : Profile
  pub schedule : Schedule
  pub tables : List TableValue
  pub query : PlainBound

-- What may come behind it.
abbrev pub AfterGiven : Type 1
AfterGiven = Given → Outcome → Type 0

abbrev pub OfTables : Request → List (List ℕ) → AfterGiven → Profile → Schedule → Outcome → Type 0
OfTables request contents next profile schedule outcome =
    ReadThen (tables_or_line request contents) (refused Input)
    (λ tables. OfQuestion request.query tables (λ query. next (record { profile = profile; schedule = schedule; tables = tables; query = query }))) outcome

abbrev pub OfSchedule : Request → List (List ℕ) → AfterGiven → Profile → Outcome → Type 0
OfSchedule request contents next profile outcome =
    Then (GivesSchedule (schedule_text request contents)) (Refuses (RejectsSchedule (schedule_text request contents)) (λ error. refused Input (schedule_line error)))
    (OfTables request contents next profile) outcome

-- profile, schedule, tables and query are read in this order, and the rest is over them; or the first of them is refused
abbrev pub OfContents : Request → AfterGiven → List (List ℕ) → Outcome → Type 0
OfContents request next contents outcome = ReadThen (profile_or_line (profile_text request contents)) (refused Input) (OfSchedule request contents next) outcome

-- only refusals are left
abbrev pub never : AfterGiven
never given outcome = ⊥

-- As code answers them.

abbrev pub given_of : Inputs → Given
given_of inputs = record { profile = inputs.profile; schedule = inputs.schedule; tables = inputs.tables; query = plain_bound inputs.bound }

pub record AreInputs (request : Request) (contents : List (List ℕ)) (inputs : Inputs) : Type 0 where
  pub profile : profile_or_line (profile_text request contents) ≡ Ok inputs.profile
  pub schedule : GivesSchedule (schedule_text request contents) inputs.schedule
  pub tables : tables_or_line request contents ≡ Ok inputs.tables
  pub question : IsQuestion request.query inputs.tables inputs.bound

abbrev pub ReadsInputs : Request → List (List ℕ) → Result Inputs Refusal → Type 0
ReadsInputs request contents (Ok inputs) = AreInputs request contents inputs
ReadsInputs request contents (Err (refusal.Line line)) = OfContents request never contents (refused Input line)
ReadsInputs request contents (Err refusal.Memory) = Unit {0}

-- code has this schedule, or this line refuses the text, unless memory ran out
abbrev pub ReadsSchedule : Option (List ℕ) → Result Schedule Refusal → Type 0
ReadsSchedule text (Ok schedule) = GivesSchedule text schedule
ReadsSchedule text (Err (refusal.Line line)) = Refuses (RejectsSchedule text) (λ error. refused Input (schedule_line error)) (refused Input line)
ReadsSchedule text (Err refusal.Memory) = Unit {0}
