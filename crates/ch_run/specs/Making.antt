-- A run that makes events, and what is noted of them.
use Rattle.std.specs.Prelude.{◌≡◌, if◌then◌else◌, List, [], ◌∷◌, ◌++◌, Option, option_map}
use Rattle.ch_protocol.specs.Drain.{turns}
use Rattle.ch_protocol.specs.DrainEvents.{links_events, turns_events}
use Rattle.ch_protocol.specs.Fates.{event_fate}
use Rattle.ch_protocol.specs.Machine.{Config, State, Event, run, step, stopped, workers}
use Rattle.ch_protocol.specs.declared.fate.NoteFate.TheVariants.{Nothing}
use Rattle.ch_schedule.specs.Event.{event_of}
use Rattle.ch_schedule.specs.declared.step.Step.{Step}
use Rattle.ch_trace_lines.specs.Trace.{bytes_of, step_of}
use Rattle.ch_trace_lines.specs.declared.line.Noted.{Noted}
use Rattle.ch_engine.specs.declared.engine.Engine.{Engine}
use Rattle.ch_run.specs.Runs.{Begun, IsRunOf}

-- What is noted of a step: the trace's note of it, but that nothing becomes of a step after the stop
abbrev pub note_of : Config → State → Step → Noted
note_of c s x = record { step = x; bytes = bytes_of c s (event_of x); fate = if stopped c s then Nothing else event_fate c s (event_of x) }

-- what is noted of events, one after the other
abbrev pub notes_of : Config → List Event → State → List Noted
notes_of c [] s = []
notes_of c (e ∷ es) s = note_of c s (step_of e) ∷ notes_of c es (step c s e)

-- the notes with those of more events, where notes are kept
abbrev pub more_notes : Config → List Event → State → Option (List Noted) → Option (List Noted)
more_notes c es s notes = option_map (λ ns. ns ++ notes_of c es s) notes

-- a run, and the notes that are kept of it
abbrev pub Noting : Type 0
Noting = Engine × Option (List Noted)

-- from each state that the old run is in, the new one has made the events that are said of it, and they are noted
abbrev pub Makes : Noting → Noting → (Config → State → List Event) → Type 0
Makes old new events = (q : Begun) (s : State) → IsRunOf q old.0 s → let es = events q.given.config s in IsRunOf q new.0 (run q.given.config es s) × (new.1 ≡ more_notes q.given.config es s old.1)

-- the events of a round of a run that hasn't stopped
abbrev pub round_of : Config → State → List Event
round_of c s = turns_events c 0 (workers c) s ++ links_events c (turns c 0 (workers c) s)
