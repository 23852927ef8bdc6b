-- What is found where a text is gone through along the run of its events.
use Rattle.std.specs.Prelude.{◌≡◌, ℕ, Bool, true, false, if◌then◌else◌, List, [], ◌∷◌, length}
use Rattle.ch_audit_laws.specs.Own.{cut}
use Rattle.ch_audit_laws.specs.Said.{state_after}
use Rattle.ch_audit_laws.specs.Walks.{behind, is_ending, is_next, is_over, walk}
use Rattle.ch_audit_laws.specs.Walks.Walk.{Whole as AllOf, Refused as RefusedAt}
use Rattle.ch_protocol.specs.Machine.{Config, State, start, step, stopped}
use Rattle.ch_schedule.specs.Event.{event_of}
use Rattle.ch_schedule.specs.declared.step.Step.{Step}
use Rattle.ch_trace_lines.specs.declared.line.Ending.{Ending}
use Rattle.ch_trace_lines.specs.declared.line.Noted.{Noted}
use Rattle.ch_audit_runs.specs.Arrivals.{AreKept}
use Rattle.ch_audit_runs.specs.declared.arrival.Arrival.{Arrival}
use Rattle.ch_audit_runs.specs.declared.walking.Found.{Found}
use Rattle.ch_audit_runs.specs.declared.walking.Found.TheVariants.{Next, Over, Behind, Wrong}
use Rattle.ch_audit_runs.specs.declared.walking.Walked.{Walked}
use Rattle.ch_audit_runs.specs.declared.walking.Walked.TheVariants.{Whole, Refused}

-- What is said of a run by the states in which it is.

-- it is in this state, and the rows that the master received are kept
pub record Stands (c : Config) (is_in : State → Type 0) (rows : List Arrival) (s : State) : Type 0 where
  pub run : is_in s
  pub kept : AreKept c s rows

-- the run made the event, and the line says of it what the run made of it, or it doesn't
abbrev pub Agrees : Config → State → (State → Type 0) → List Arrival → Noted → Bool → Type 0
Agrees c s is_in rows said true = Stands c is_in rows (step c s (event_of said.step)) × (is_next c s said ≡ true)
Agrees c s is_in rows said false = is_next c s said ≡ false

-- what a line comes to that says how the run ends
abbrev pub ending_found : Bool → Bool → Found
ending_found ends over = if ends then (if over then Over else Behind) else Wrong

abbrev pub Ends : Config → State → Ending → List (List ℕ) → Found → Type 0
Ends c s ending texts found = found ≡ ending_found (is_ending ending (stopped c s)) (is_over texts)

-- what a line comes to, before these texts
abbrev pub Comes : Config → State → (State → Type 0) → List Arrival → List ℕ → List (List ℕ) → Found → Type 0
Comes c s is_in rows text texts Next = (n : Step) × Stands c is_in rows (step c s (event_of n)) × (walk c s (text ∷ texts) ≡ behind n (walk c (step c s (event_of n)) texts))
Comes c s is_in rows text texts Over = Stands c is_in rows s × (walk c s (text ∷ texts) ≡ AllOf [])
Comes c s is_in rows text texts Behind = walk c s (text ∷ texts) ≡ RefusedAt 2
Comes c s is_in rows text texts Wrong = walk c s (text ∷ texts) ≡ RefusedAt 1

-- what a whole text comes to
abbrev pub Finds : Config → (State → Type 0) → List Arrival → List ℕ → Walked → Type 0
Finds c is_in rows text (Whole events) = (steps : List Step) × (walk c (start c) (cut text) ≡ AllOf steps) × (length steps ≡ events) × Stands c is_in rows (state_after c steps)
Finds c is_in rows text (Refused line) = walk c (start c) (cut text) ≡ RefusedAt line
