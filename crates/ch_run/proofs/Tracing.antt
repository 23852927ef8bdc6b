-- The notes of a run's events are lines of its trace.
use Rattle.std.proofs.Common.{◌≡◌, ℕ, ◌<◌, Bool, true, false, List, [], ◌∷◌, ◌++◌, map, refl, ap, sym, ◌∙◌}
use Rattle.std.specs.Prelude.{if◌then◌else◌, Option, Some}
use Rattle.ch_protocol.specs.Fates.{event_fate}
use Rattle.ch_protocol.specs.declared.fate.NoteFate.{NoteFate}
use Rattle.ch_protocol.specs.declared.fate.NoteFate.TheVariants.{Nothing}
use Rattle.ch_protocol.specs.Machine.{Config, State, Event, How, step, stopped, workers}
use Rattle.ch_protocol.specs.Machine.How.{Take, Keep, Lose}
use Rattle.ch_protocol.specs.Machine.Event.{Send, Resend, Up, Down, Back, Inject, Restart}
use Rattle.ch_protocol.specs.DrainEvents.{AreMade, drain_events}
use Rattle.ch_schedule.specs.Event.{event_of, how_of}
use Rattle.ch_schedule.specs.declared.step.Step.{Step}
use Rattle.ch_trace_lines.specs.Trace.{bytes_of, drain_steps, lines_from, noted_at, said_how, step_of}
use Rattle.ch_trace_lines.specs.declared.line.Line.TheVariants as line
use Rattle.ch_trace_lines.specs.declared.line.Noted.{Noted}
use Rattle.ch_protocol_laws.proofs.Made.{drain_made}
use Rattle.ch_protocol_laws.proofs.Reached.{reached_ready}
use Rattle.ch_engine.specs.declared.engine.Engine.{Engine}
use Rattle.ch_run.specs.Making.{more_notes, note_of, notes_of}
use Rattle.ch_run.specs.Runs.{Begun, IsRunOf}

how_back : (h : How) → how_of (said_how h) ≡ h
how_back Take = refl
how_back Keep = refl
how_back Lose = refl

-- the step that is spelled for an event stands for it
pub event_back : (e : Event) → event_of (step_of e) ≡ e
event_back (Send w) = refl
event_back (Resend w place) = refl
event_back (Up i h) = ap (Up i) (how_back h)
event_back (Down i h) = ap (Down i) (how_back h)
event_back (Back i h) = ap (Back i) (how_back h)
event_back Inject = refl
event_back Restart = refl

-- before the stop the note of a step is the trace's
pub open_note : (c : Config) (s : State) (x : Step) → stopped c s ≡ false → note_of c s x ≡ noted_at c s x
open_note c s x f = rw f refl

-- events that come before the stop, with their notes
pub noted_lines : (c : Config) (es : List Event) (s : State) → AreMade c es s → map line.Event (notes_of c es s) ≡ lines_from c s (map step_of es)
noted_lines c [] s made = refl
noted_lines c (e ∷ es) s made =
    let after : step c s (event_of (step_of e)) ≡ step c s e = ap (step c s) (event_back e) in
    ap (λ n. line.Event n ∷ map line.Event (notes_of c es (step c s e))) (open_note c s (step_of e) made.0)
    ∙ (ap (λ ls. line.Event (noted_at c s (step_of e)) ∷ ls) (noted_lines c es (step c s e) made.2)
    ∙ (ap (λ t. line.Event (noted_at c s (step_of e)) ∷ lines_from c t (map step_of es)) (sym after)
    ∙ rw made.0 refl))

-- the note of a step, with what became of it
pub note_is : (c : Config) (s : State) (x copy : Step) (bytes : Option (List ℕ)) (fate note : NoteFate) (had : Bool) → copy ≡ x → bytes ≡ bytes_of c s (event_of x) → had ≡ stopped c s
    → note ≡ (if had then Nothing else fate) → (stopped c s ≡ false → fate ≡ event_fate c s (event_of x))
    → let n : Noted = record { step = copy; bytes = bytes; fate = note } in n ≡ note_of c s x
note_is c s x copy bytes fate note had same there stop t f = rw (same, there, t ∙ becomes (stopped c s) refl) refl
  where
    becomes : (v : Bool) → stopped c s ≡ v → (if had then Nothing else fate) ≡ (if v then Nothing else event_fate c s (event_of x))
    becomes true e = rw (stop ∙ e) refl
    becomes false e = rw (stop ∙ e) (f e)

-- the notes of a drain
pub noted_drain : (q : Begun) (x : Engine) (s : State) (notes : List Noted) → IsRunOf q x s → 0 < workers q.given.config → notes ≡ notes_of q.given.config (drain_events q.given.config s) s
    → map line.Event notes ≡ lines_from q.given.config s (drain_steps q.given.config s)
noted_drain q x s notes r some e =
    let c = q.given.config in
    ap (map line.Event) e ∙ noted_lines c (drain_events c s) s (drain_made c s some (reached_ready c s some r.planned.parts.window.0 r.reached))

-- what is kept of notes from none on
pub kept_notes : (c : Config) (es : List Event) (s : State) (first notes : List Noted) (kept : Option (List Noted)) → first ≡ [] → kept ≡ more_notes c es s (Some first) → kept ≡ Some notes → notes ≡ notes_of c es s
kept_notes c es s first notes kept none more is = same notes (first ++ notes_of c es s) (sym is ∙ more) ∙ ap (λ ns. ns ++ notes_of c es s) none
  where
    same : (a b : List Noted) → Some a ≡ Some b → a ≡ b
    same a b e = cc
