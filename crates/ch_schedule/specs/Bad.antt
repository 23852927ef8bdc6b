-- What the lines of a schedule text say, and which of them are bad.
use Rattle.std.specs.Prelude.{◌≡◌, ◌<◌, ℕ, ◌+◌, Bool, true, false, ◌||◌, nat_le, if◌then◌else◌, List, [], ◌∷◌, ◌++◌, length, take, get_or, Option, Some, None, not, is_some}
use Rattle.ch_lines.specs.Lines.{fields_of, says}
use Rattle.ch_packet.specs.Fault.{fault_of}
use Rattle.ch_schedule.specs.declared.line.Line.{Line}
use Rattle.ch_schedule.specs.declared.line.Line.TheVariants as line
use Rattle.ch_schedule.specs.declared.step.Step.{Step}
use Rattle.ch_schedule.specs.declared.step.Step.TheVariants as step
use Rattle.ch_schedule.specs.declared.step.Schedule.{Schedule}
use Rattle.ch_schedule.specs.declared.read.ScheduleWhy.{ScheduleWhy}
use Rattle.ch_schedule.specs.declared.read.ScheduleWhy.TheVariants.{NotAStep, AfterDrain, TooMany, Forged}
use Rattle.ch_schedule.specs.declared.read.ScheduleError.{ScheduleError}
use Rattle.ch_schedule.specs.declared.read.ScheduleError.TheVariants as error
use Rattle.ch_schedule.specs.declared.read.Stop.{Stop}
use Rattle.ch_schedule.specs.declared.read.Stop.TheVariants as stop
use Rattle.ch_schedule.specs.Line.{line_of}

-- what a line says; an empty line and a comment say nothing
abbrev pub said_in : List ℕ → Option Line
said_in text = if says (fields_of text) then line_of (fields_of text) else None

abbrev pub steps_of : Option Line → List Step
steps_of None = []
steps_of (Some line.Drain) = []
steps_of (Some (line.Step s)) = s ∷ []

abbrev pub is_drain : Option Line → Bool
is_drain None = false
is_drain (Some line.Drain) = true
is_drain (Some (line.Step s)) = false

-- the steps of some lines in order
abbrev pub steps_in : List (List ℕ) → List Step
steps_in [] = []
steps_in (text ∷ texts) = steps_of (said_in text) ++ steps_in texts

abbrev pub has_drain : List (List ℕ) → Bool
has_drain [] = false
has_drain (text ∷ texts) = is_drain (said_in text) || has_drain texts

-- bytes that come from a link and are a packet
abbrev pub is_forged : Step → Bool
is_forged (step.Inject link bytes) = not (is_some (fault_of bytes))
is_forged (step.Send worker) = false
is_forged (step.Resend worker place) = false
is_forged (step.Up at how) = false
is_forged (step.Down at how) = false
is_forged (step.Back at how) = false
is_forged step.Restart = false

-- why a step may not follow so many others, where `drain` stands before or doesn't
abbrev pub step_why : Bool → ℕ → Step → Option ScheduleWhy
step_why drained many s =
    if drained then Some AfterDrain
    else if nat_le 1000000 many then Some TooMany
    else if is_forged s then Some Forged
    else None

abbrev pub said_why : Bool → ℕ → Option Line → Option ScheduleWhy
said_why drained many None = Some NotAStep
said_why drained many (Some line.Drain) = if drained then Some AfterDrain else None
said_why drained many (Some (line.Step s)) = step_why drained many s

abbrev pub line_why : Bool → ℕ → List ℕ → Option ScheduleWhy
line_why drained many text = if says (fields_of text) then said_why drained many (line_of (fields_of text)) else None

-- why the line at a place is bad, by the lines before it
abbrev pub why_at : List (List ℕ) → ℕ → Option ScheduleWhy
why_at texts at = line_why (has_drain (take at texts)) (length (steps_in (take at texts))) (get_or texts at [])

-- no line is bad, and the schedule is what they say
pub record IsSchedule (texts : List (List ℕ)) (schedule : Schedule) : Type 0 where
  pub good : (at : ℕ) → at < length texts → why_at texts at ≡ None
  pub steps_are : schedule.steps ≡ steps_in texts
  pub drain_is : schedule.drain ≡ has_drain texts

-- the first bad line, counted from 1
pub record IsFirstBad (texts : List (List ℕ)) (line : ℕ) (why : ScheduleWhy) : Type 0 where
  pub at : ℕ
  pub line_is : line ≡ at + 1
  pub there : at < length texts
  pub bad : why_at texts at ≡ Some why
  pub others : (before : ℕ) → before < at → why_at texts before ≡ None

abbrev pub Refuses : List (List ℕ) → ScheduleError → Type 0
Refuses texts (error.Bad line why) = IsFirstBad texts line why
Refuses texts error.Memory = Unit {0}

abbrev pub refusal_of : ℕ → Stop → ScheduleError
refusal_of line (stop.Bad why) = error.Bad line why
refusal_of line stop.Memory = error.Memory

-- a line stops the reading for this reason, or for want of memory
abbrev pub Stops : Stop → Option ScheduleWhy → Type 0
Stops (stop.Bad why) found = found ≡ Some why
Stops stop.Memory found = Unit {0}

-- a line is added to what was read
pub record Adds (old new : Schedule) (text : List ℕ) : Type 0 where
  pub good : line_why old.drain (length old.steps) text ≡ None
  pub steps_are : new.steps ≡ old.steps ++ steps_of (said_in text)
  pub drain_is : new.drain ≡ (old.drain || is_drain (said_in text))
