-- What the words of the audit mean, over the files.
use Rattle.std.specs.Prelude.{◌≡◌, ℕ, List, [], ◌++◌, Option, Some, None, unwrap_or}
use Rattle.ch_audit_laws.specs.Own.{IsOwn, IsRefusedAt, cut, steps_in}
use Rattle.ch_audit_laws.specs.Said.{accepted_text, refused_line}
use Rattle.ch_command.specs.Command.{Command, Refuses, Then, answered, misused, reading, refused}
use Rattle.ch_command.specs.declared.outcome.Ending.TheVariants.{Rejected}
use Rattle.ch_command.specs.declared.outcome.Outcome.{Outcome}
use Rattle.ch_protocol.specs.Machine.{Config}
use Rattle.ch_trace_lines.specs.Trace.{trace_of}
use Rattle.cheetah_audit_words.specs.Words.{Wish, usage_line}
use Rattle.cheetah_audit_words.specs.Words.Wish.{Asking, Misused}
use Rattle.cheetah_audit_words.specs.declared.words.Task.{Task}
use Rattle.cheetah_audit_words.specs.declared.words.Task.TheVariants.{Write, Check}
use Rattle.cheetah_inputs.specs.Inputs.{AfterGiven, Given, OfContents, listed, names_of, part_texts, profile_text, schedule_text}
use Rattle.cheetah_words.specs.Words.{Request}

-- which run the inputs give, and the line that refuses its plan
pub record Runs : Type 0 where
  pub config : Given → Config
  pub refusal : Given → Option (List ℕ)

-- what is done, unless the plan is refused
abbrev pub WithinLimits : Option (List ℕ) → (Outcome → Type 0) → Outcome → Type 0
WithinLimits None done outcome = done outcome
WithinLimits (Some line) done outcome = outcome ≡ refused Rejected line

-- the trace of the run is written, whether it is done or open
abbrev pub Writes : Runs → AfterGiven
Writes runs given outcome = WithinLimits (runs.refusal given) (λ o. o ≡ answered (trace_of (runs.config given) given.schedule)) outcome

-- the text is the trace of its own events, or its first wrong line refuses it
abbrev pub OfTrace : Config → List ℕ → Outcome → Type 0
OfTrace c text outcome =
    Then (IsOwn c (cut text)) (Refuses (IsRefusedAt c (cut text)) (λ line. refused Rejected (refused_line line))) (λ lines o. o ≡ answered (accepted_text c (steps_in lines))) outcome

-- the text is checked against the run that the inputs give
abbrev pub Checks : Runs → List ℕ → AfterGiven
Checks runs text given outcome = WithinLimits (runs.refusal given) (OfTrace (runs.config given) text) outcome

-- A check names the trace where a run names its schedule. All else is read as of a request without a schedule.

abbrev pub without_schedule : Request → Request
without_schedule request = record request { schedule = None }

abbrev pub trace_text : Request → List (List ℕ) → List ℕ
trace_text request contents = unwrap_or (schedule_text request contents) []

abbrev pub other_contents : Request → List (List ℕ) → List (List ℕ)
other_contents request contents = listed (profile_text request contents) ++ part_texts request contents

abbrev pub OfErrand : Runs → Task → Request → List (List ℕ) → Outcome → Type 0
OfErrand runs Write request contents outcome = OfContents request (Writes runs) contents outcome
OfErrand runs Check request contents outcome = OfContents (without_schedule request) (Checks runs (trace_text request contents)) (other_contents request contents) outcome

-- what words with this wish mean
abbrev pub command_for : Runs → Wish → Command
command_for runs Misused = misused (λ line. line ≡ usage_line)
command_for runs (Asking task request) = reading (names_of request) (OfErrand runs task request)
