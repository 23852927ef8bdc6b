-- A trace is that of its own events.
use Rattle.std.proofs.Common.{◌≡◌, ◌∙◌, ap, sym, refl, inl, inr, Bool, true, false, List, [], ◌∷◌, ◌++◌, ℕ, Option, cond}
use Rattle.std.specs.Prelude.{not}
use Rattle.std.specs.List.{list_all}
use Rattle.ch_lists.specs.Members.{Each}
use Rattle.ch_protocol.specs.Machine.{Config, State, run, step, stopped}
use Rattle.ch_schedule.specs.Bad.{is_forged}
use Rattle.ch_schedule.specs.Event.{event_of, events_of}
use Rattle.ch_schedule.specs.declared.step.Step.{Step}
use Rattle.ch_schedule.specs.declared.step.Step.TheVariants as said
use Rattle.ch_trace_lines.proofs.Traces.{run_stays}
use Rattle.ch_trace_lines.specs.Range.{IsEvent, IsLine}
use Rattle.ch_trace_lines.specs.Trace.{ending_at, lines_from, noted_at, trace_from}
use Rattle.ch_trace_lines.specs.declared.line.Line.{Line}
use Rattle.ch_trace_lines.specs.declared.line.Line.TheVariants.{Event, End}
use Rattle.ch_protocol.specs.declared.fate.NoteFate.{NoteFate}
use Rattle.ch_audit_laws.specs.Own.{steps_in}
use Rattle.ch_audit_laws.proofs.Own.{goes_on}

ended_again : (c : Config) (s : State) (x : Step) (xs : List Step) → stopped c s ≡ true → trace_from c s (x ∷ xs) ≡ End (ending_at c s) ∷ []
ended_again c s x xs e =
    ap (λ (b : Bool). cond b [] (Event (noted_at c s x) ∷ lines_from c (step c s (event_of x)) xs) ++ End (ending_at c (run c (events_of (x ∷ xs)) s)) ∷ []) e
    ∙ ap (λ (t : State). End (ending_at c t) ∷ []) (run_stays c s (x ∷ xs) e)

pub again : (c : Config) (s : State) (steps : List Step) → trace_from c s (steps_in (trace_from c s steps)) ≡ trace_from c s steps
again c s [] = refl
again c s (x ∷ xs) = by (stopped c s) refl (again c (step c s (event_of x)) xs)
  where
    by : (b : Bool) → stopped c s ≡ b → trace_from c (step c s (event_of x)) (steps_in (trace_from c (step c s (event_of x)) xs)) ≡ trace_from c (step c s (event_of x)) xs
        → trace_from c s (steps_in (trace_from c s (x ∷ xs))) ≡ trace_from c s (x ∷ xs)
    by true e later =
        let end = ended_again c s x xs e in
        ap (λ (ls : List Line). trace_from c s (steps_in ls)) end ∙ sym end
    by false e later =
        let on = goes_on c s x xs e in
        let rest = trace_from c (step c s (event_of x)) xs in
        ap (λ (ls : List Line). trace_from c s (steps_in ls)) on
        ∙ (goes_on c s x (steps_in rest) e
        ∙ (ap (λ (ls : List Line). Event (noted_at c s x) ∷ ls) later ∙ sym on))

-- no event that is read injects a packet

fair_step : (x : Step) (packet : Option (List ℕ)) (fate : NoteFate) → IsEvent x packet fate → not (is_forged x) ≡ true
fair_step (said.Send w) packet fate h = refl
fair_step (said.Resend w k) packet fate h = refl
fair_step (said.Up at how) packet fate h = refl
fair_step (said.Down at how) packet fate h = refl
fair_step (said.Back at how) packet fate h = refl
fair_step (said.Inject l bytes) packet fate h = rw h.0.1 refl
fair_step said.Restart packet fate h = refl

pub fair : (lines : List Line) → Each IsLine lines → list_all (λ x. not (is_forged x)) (steps_in lines) ≡ true
fair [] h = refl
fair (Event n ∷ ls) h = rw (fair_step n.step n.bytes n.fate (h (Event n) (inl refl))) (fair ls (λ l i. h l (inr i)))
fair (End ending ∷ ls) h = fair ls (λ l i. h l (inr i))
