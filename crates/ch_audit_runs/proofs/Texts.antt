-- The text of a run grows line by line.
use Rattle.std.proofs.Common.{◌≡◌, ◌∙◌, ◌<◌, ◌≤◌, ◌+◌, ℕ, zero, suc, Bool, true, false, List, [], ◌∷◌, ◌++◌, length, map, take, refl, ap, sym, arith, append_assoc}
use Rattle.std.specs.Prelude.{if◌then◌else◌, slice_index_or}
use Rattle.std.proofs.lemmas.Grind.{flat_map-append}
use Rattle.std.proofs.lemmas.List.{append-nil, map_more}
use Rattle.ch_protocol.specs.Drain.{drain}
use Rattle.ch_protocol.specs.DrainEvents.{drain_events}
use Rattle.ch_protocol.specs.Machine.{Config, State, Event, How, run, start, step, stopped}
use Rattle.ch_protocol.specs.Machine.How.{Take, Keep, Lose}
use Rattle.ch_protocol.specs.Machine.Event.{Send, Resend, Up, Down, Back, Inject, Restart}
use Rattle.ch_protocol_laws.proofs.DrainEvents.{run_append, run_drain}
use Rattle.ch_schedule.specs.Event.{event_of, events_of, how_of}
use Rattle.ch_schedule.specs.declared.step.Schedule.{Schedule}
use Rattle.ch_schedule.specs.declared.step.Step.{Step}
use Rattle.ch_trace_lines.proofs.Traces.{lines_more, run_stays}
use Rattle.ch_trace_lines.specs.Spelling.{ended, line_text, lines_text}
use Rattle.ch_trace_lines.specs.Trace.{drain_steps, ending_at, lines_from, noted_at, said_how, step_of, trace_of}
use Rattle.ch_trace_lines.specs.declared.line.Ending.{Ending}
use Rattle.ch_trace_lines.specs.declared.line.Line.{Line}
use Rattle.ch_trace_lines.specs.declared.line.Line.TheVariants as said
use Rattle.ch_trace_lines.specs.declared.line.Noted.{Noted}

pub lines_both : (a b : List Line) → lines_text (a ++ b) ≡ lines_text a ++ lines_text b
lines_both a b = flat_map-append (λ l. ended (line_text l)) a b

pub line_alone : (l : Line) → lines_text (l ∷ []) ≡ ended (line_text l)
line_alone l = append-nil (ended (line_text l))

lines_push : (ls : List Line) (l : Line) → lines_text (ls ++ l ∷ []) ≡ lines_text ls ++ ended (line_text l)
lines_push ls l = lines_both ls (l ∷ []) ∙ ap (λ t. lines_text ls ++ t) (line_alone l)

-- a text that grew by two pieces
grown : (first old new a b : List ℕ) → old ≡ first ++ a → new ≡ old ++ b → new ≡ first ++ (a ++ b)
grown first old new a b e f = f ∙ (ap (λ t. t ++ b) e ∙ append_assoc first a b)

pub none_noted : (text : List ℕ) (notes : List Noted) → text ≡ text ++ lines_text (map said.Event (take 0 notes))
none_noted text [] = sym (append-nil text)
none_noted text (n ∷ ns) = sym (append-nil text)

pub note_more : (first old new : List ℕ) (notes : List Noted) (n : ℕ) (d : Noted) → n < length notes → old ≡ first ++ lines_text (map said.Event (take n notes))
    → new ≡ old ++ ended (line_text (said.Event (slice_index_or notes n d))) → new ≡ first ++ lines_text (map said.Event (take (n + 1) notes))
note_more first old new notes n d lt e f =
    grown first old new (lines_text (map said.Event (take n notes))) (ended (line_text (said.Event (slice_index_or notes n d)))) e f
    ∙ ap (λ t. first ++ t) (sym (lines_push (map said.Event (take n notes)) (said.Event (slice_index_or notes n d))) ∙ ap lines_text (sym (map_more said.Event notes n d lt)))

pub take_all : {X : Type 0} (xs : List X) (n : ℕ) → length xs ≤ n → take n xs ≡ xs
take_all [] zero le = refl
take_all [] (suc n) le = refl
take_all (x ∷ xs) zero le = absurd (omega (arith, le))
take_all (x ∷ xs) (suc n) le = ap (λ ys. x ∷ ys) (take_all xs n (omega (arith, le)))

pub all_noted : (first text : List ℕ) (notes : List Noted) (n : ℕ) → length notes ≤ n → text ≡ first ++ lines_text (map said.Event (take n notes)) → text ≡ first ++ lines_text (map said.Event notes)
all_noted first text notes n le e = e ∙ ap (λ (ns : List Noted). first ++ lines_text (map said.Event ns)) (take_all notes n le)

-- one step

pub stands_still : (c : Config) (s : State) (x : Step) → stopped c s ≡ true → step c s (event_of x) ≡ s
stands_still c s x e = run_stays c s (x ∷ []) e

pub no_line_more : (c : Config) (s : State) (x : Step) (text : List ℕ) → stopped c s ≡ true → text ≡ text ++ lines_text (lines_from c s (x ∷ []))
no_line_more c s x text e = rw e (sym (append-nil text))

pub line_more : (c : Config) (s : State) (x : Step) (old new : List ℕ) (n : Noted) → stopped c s ≡ false → n ≡ noted_at c s x → new ≡ old ++ ended (line_text (said.Event n)) → new ≡ old ++ lines_text (lines_from c s (x ∷ []))
line_more c s x old new n runs is e =
    let one : new ≡ old ++ lines_text (said.Event (noted_at c s x) ∷ []) = e ∙ (ap (λ (m : Noted). old ++ ended (line_text (said.Event m))) is ∙ ap (λ t. old ++ t) (sym (line_alone (said.Event (noted_at c s x))))) in
    rw runs one

-- steps in turn

taken : (xs : List Step) (n : ℕ) (d : Step) → n < length xs → take (n + 1) xs ≡ take n xs ++ slice_index_or xs n d ∷ []
taken [] n d lt = absurd (omega (arith, lt))
taken (x ∷ xs) zero d lt = first xs
  where
    first : (ys : List Step) → take (0 + 1) (x ∷ ys) ≡ x ∷ []
    first [] = refl
    first (y ∷ ys) = refl
taken (x ∷ xs) (suc n) d lt = let e : suc n + 1 ≡ suc (n + 1) = omega arith in rw e (ap (λ ys. x ∷ ys) (taken xs n d (omega (arith, lt))))

pub none_run : (c : Config) (s : State) (steps : List Step) → run c (events_of (take 0 steps)) s ≡ s
none_run c s [] = refl
none_run c s (x ∷ xs) = refl

pub step_run : (c : Config) (s : State) (steps : List Step) (n : ℕ) (d : Step) → n < length steps
    → step c (run c (events_of (take n steps)) s) (event_of (slice_index_or steps n d)) ≡ run c (events_of (take (n + 1) steps)) s
step_run c s steps n d lt =
    sym (run_append c (events_of (take n steps)) (event_of (slice_index_or steps n d) ∷ []) s) ∙ ap (λ es. run c es s) (sym (map_more event_of steps n d lt))

pub none_written : (c : Config) (s : State) (steps : List Step) (text : List ℕ) → text ≡ text ++ lines_text (lines_from c s (take 0 steps))
none_written c s [] text = sym (append-nil text)
none_written c s (x ∷ xs) text = sym (append-nil text)

pub step_written : (c : Config) (s : State) (steps : List Step) (n : ℕ) (d : Step) (first old new : List ℕ) → n < length steps → old ≡ first ++ lines_text (lines_from c s (take n steps))
    → new ≡ old ++ lines_text (lines_from c (run c (events_of (take n steps)) s) (slice_index_or steps n d ∷ [])) → new ≡ first ++ lines_text (lines_from c s (take (n + 1) steps))
step_written c s steps n d first old new lt e f =
    let a = lines_from c s (take n steps) in
    let b = lines_from c (run c (events_of (take n steps)) s) (slice_index_or steps n d ∷ []) in
    grown first old new (lines_text a) (lines_text b) e f
    ∙ ap (λ t. first ++ t) (sym (lines_both a b) ∙ ap lines_text (sym (lines_more c s (take n steps) (slice_index_or steps n d ∷ [])) ∙ ap (lines_from c s) (sym (taken steps n d lt))))

pub all_run : (c : Config) (s : State) (steps : List Step) (n : ℕ) → length steps ≤ n → run c (events_of (take n steps)) s ≡ run c (events_of steps) s
all_run c s steps n le = ap (λ (xs : List Step). run c (events_of xs) s) (take_all steps n le)

pub all_written : (c : Config) (s : State) (steps : List Step) (n : ℕ) (first text : List ℕ) → length steps ≤ n → text ≡ first ++ lines_text (lines_from c s (take n steps)) → text ≡ first ++ lines_text (lines_from c s steps)
all_written c s steps n first text le e = e ∙ ap (λ (xs : List Step). first ++ lines_text (lines_from c s xs)) (take_all steps n le)

-- the whole trace

how_back : (h : How) → how_of (said_how h) ≡ h
how_back Take = refl
how_back Keep = refl
how_back Lose = refl

event_back : (e : Event) → event_of (step_of e) ≡ e
event_back (Send w) = refl
event_back (Resend w place) = refl
event_back (Up i h) = ap (Up i) (how_back h)
event_back (Down i h) = ap (Down i) (how_back h)
event_back (Back i h) = ap (Back i) (how_back h)
event_back Inject = refl
event_back Restart = refl

events_back : (es : List Event) → events_of (map step_of es) ≡ es
events_back [] = refl
events_back (e ∷ es) = ap (λ x. x ∷ events_of (map step_of es)) (event_back e) ∙ ap (λ xs. e ∷ xs) (events_back es)

events_both : (xs ys : List Step) → events_of (xs ++ ys) ≡ events_of xs ++ events_of ys
events_both [] ys = refl
events_both (x ∷ xs) ys = ap (λ es. event_of x ∷ es) (events_both xs ys)

module _ (c : Config) (schedule : Schedule) where
  abbrev t : State
  t = run c (events_of schedule.steps) (start c)

  abbrev rest_of : Bool → List Step
  rest_of drains = if drains then drain_steps c t else []

  abbrev rest : List Step
  rest = rest_of schedule.drain

  abbrev behind : State
  behind = run c (events_of (schedule.steps ++ rest)) (start c)

  goes_on : (xs : List Step) → run c (events_of (schedule.steps ++ xs)) (start c) ≡ run c (events_of xs) t
  goes_on xs = ap (λ es. run c es (start c)) (events_both schedule.steps xs) ∙ run_append c (events_of schedule.steps) (events_of xs) (start c)

  last : (drains : Bool) → run c (events_of (schedule.steps ++ rest_of drains)) (start c) ≡ (if drains then drain c t else t)
  last true = goes_on (drain_steps c t) ∙ (ap (λ es. run c es t) (events_back (drain_events c t)) ∙ run_drain c t)
  last false = goes_on []

  pub whole_trace : (first second third : List ℕ) (e : Ending)
      → first ≡ [] ++ lines_text (lines_from c (start c) schedule.steps)
      → second ≡ first ++ lines_text (lines_from c (run c (events_of schedule.steps) (start c)) (if schedule.drain then drain_steps c (run c (events_of schedule.steps) (start c)) else []))
      → e ≡ ending_at c (if schedule.drain then drain c (run c (events_of schedule.steps) (start c)) else run c (events_of schedule.steps) (start c))
      → third ≡ second ++ ended (line_text (said.End e)) → third ≡ trace_of c schedule
  whole_trace first second third e a b is d =
      d
      ∙ (ap (λ (x : Ending). second ++ ended (line_text (said.End x))) (is ∙ ap (ending_at c) (sym (last schedule.drain)))
      ∙ (ap (λ u. u ++ ended (line_text (said.End (ending_at c behind)))) (b ∙ (ap (λ u. u ++ lines_text (lines_from c t rest)) a ∙ (sym (lines_both (lines_from c (start c) schedule.steps) (lines_from c t rest)) ∙ ap lines_text (sym (lines_more c (start c) schedule.steps rest)))))
      ∙ sym (lines_push (lines_from c (start c) (schedule.steps ++ rest)) (said.End (ending_at c behind)))))
