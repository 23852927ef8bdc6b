-- A trace goes on while the run does.
use Rattle.std.proofs.Common.{◌≡◌, ◌∙◌, Bool, true, false, cond, List, [], ◌∷◌, ◌++◌, refl, sym, ap}
use Rattle.std.proofs.lemmas.List.{append-nil}
use Rattle.ch_protocol.specs.Machine.{Config, State, Event, step, run, stopped}
use Rattle.ch_schedule.specs.Event.{event_of, events_of}
use Rattle.ch_schedule.specs.declared.step.Step.{Step}
use Rattle.ch_trace_lines.specs.Trace.{noted_at, lines_from, ending_at, trace_from}
use Rattle.ch_trace_lines.specs.declared.line.Line.{Line}
use Rattle.ch_trace_lines.specs.declared.line.Line.TheVariants as line

stays : (c : Config) (s : State) (e : Event) → stopped c s ≡ true → step c s e ≡ s
unfolding step
stays c s e h = rw h refl

pub run_stays : (c : Config) (s : State) (steps : List Step) → stopped c s ≡ true → run c (events_of steps) s ≡ s
run_stays c s [] h = refl
run_stays c s (x ∷ xs) h = ap (run c (events_of xs)) (stays c s (event_of x) h) ∙ run_stays c s xs h

no_lines : (c : Config) (s : State) (steps : List Step) → stopped c s ≡ true → lines_from c s steps ≡ []
no_lines c s [] h = refl
no_lines c s (x ∷ xs) h = rw h refl

pub lines_more : (c : Config) (s : State) (steps others : List Step) → lines_from c s (steps ++ others) ≡ lines_from c s steps ++ lines_from c (run c (events_of steps) s) others
lines_more c s [] others = refl
lines_more c s (x ∷ xs) others = go (lines_more c (step c s (event_of x)) xs others) (stopped c s) refl
  where
    go : lines_from c (step c s (event_of x)) (xs ++ others) ≡ lines_from c (step c s (event_of x)) xs ++ lines_from c (run c (events_of xs) (step c s (event_of x))) others → (b : Bool) → stopped c s ≡ b
        → cond b [] (line.Event (noted_at c s x) ∷ lines_from c (step c s (event_of x)) (xs ++ others))
        ≡ cond b [] (line.Event (noted_at c s x) ∷ lines_from c (step c s (event_of x)) xs) ++ lines_from c (run c (events_of xs) (step c s (event_of x))) others
    go later true e = sym (ap (λ (t : State). lines_from c (run c (events_of xs) t) others) (stays c s (event_of x) e) ∙ (ap (λ (t : State). lines_from c t others) (run_stays c s xs e) ∙ no_lines c s others e))
    go later false e = ap (λ (ls : List Line). line.Event (noted_at c s x) ∷ ls) later

run_more : (c : Config) (s : State) (steps others : List Step) → run c (events_of (steps ++ others)) s ≡ run c (events_of others) (run c (events_of steps) s)
run_more c s [] others = refl
run_more c s (x ∷ xs) others = run_more c (step c s (event_of x)) xs others

pub trace_stops : (c : Config) (s : State) (steps others : List Step) → stopped c (run c (events_of steps) s) ≡ true → trace_from c s (steps ++ others) ≡ trace_from c s steps
trace_stops c s steps others h =
    let after = run c (events_of steps) s in
    let same : run c (events_of (steps ++ others)) s ≡ after = run_more c s steps others ∙ run_stays c after others h in
    let lines : lines_from c s (steps ++ others) ≡ lines_from c s steps = lines_more c s steps others ∙ (ap (λ (ls : List Line). lines_from c s steps ++ ls) (no_lines c after others h) ∙ append-nil (lines_from c s steps)) in
    ap (λ (ls : List Line). ls ++ line.End (ending_at c (run c (events_of (steps ++ others)) s)) ∷ []) lines
    ∙ ap (λ (t : State). lines_from c s steps ++ line.End (ending_at c t) ∷ []) same
