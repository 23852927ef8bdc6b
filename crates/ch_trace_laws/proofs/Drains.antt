-- The lines of a schedule's trace, and of its drain.
use Rattle.std.proofs.Common.{◌≡◌, ◌<◌, ◌≤◌, ◌+◌, ◌*◌, ◌^◌, ℕ, zero, suc, Bool, true, false, List, [], ◌∷◌, ◌++◌, length, map, refl, ap, arith, subst, sym, inl, inr, ltb-true}
use Rattle.std.specs.Prelude.{◌&&◌, cond, not, nat_lt, if◌then◌else◌, filter, replicate, slice_get, Option, Some, None}
use Rattle.std.proofs.lemmas.List.{length-map}
use Rattle.ch_lists.specs.Members.{Each}
use Rattle.ch_lists.proofs.Members.{In-append, In-map}
use Rattle.ch_protocol.specs.DrainEvents.{AreMade, back_events, drain_events, links_events, round_events, rounds_events, send_events, turn_events, turns_events}
use Rattle.ch_protocol.specs.Drain.{empty_down, empty_up, most_rounds, resend_events, resends, round, take_turn, turns}
use Rattle.ch_protocol.specs.Fates.{event_fate, is_made, resend_fate, send_fate}
use Rattle.ch_protocol.specs.Machine.{Config, State, Event, How, can_send, passes, run, size, start, step, stopped, workers}
use Rattle.ch_protocol.specs.Machine.Event.{Send, Resend, Up, Down, Back, Inject, Restart}
use Rattle.ch_protocol.specs.Machine.How.{Take, Keep, Lose}
use Rattle.ch_protocol.specs.Sender.{open_at, open_numbers}
use Rattle.ch_protocol.specs.Sets.{numbers_from}
use Rattle.ch_protocol_laws.proofs.Made.{drain_made}
use Rattle.ch_protocol_laws.proofs.Reached.{reached_ready, reached_sound, reached_step}
use Rattle.ch_protocol.specs.declared.fate.NoteFate.TheVariants.{Nothing}
use Rattle.ch_schedule.specs.Event.{event_of, events_of, how_of}
use Rattle.ch_schedule.specs.declared.step.Schedule.{Schedule}
use Rattle.ch_schedule.specs.declared.step.Step.{Step}
use Rattle.ch_trace_lines.proofs.Traces.{lines_more}
use Rattle.ch_trace_lines.specs.Range.{IsLine}
use Rattle.ch_trace_lines.specs.Trace.{drain_steps, ending_at, lines_from, noted_at, said_how, step_of, steps_done, trace_lines}
use Rattle.ch_trace_lines.specs.declared.line.Line.{Line}
use Rattle.ch_trace_lines.specs.declared.line.Line.TheVariants.{Event as Said, End}
use Rattle.ch_trace_laws.specs.Sendable.{AreSendable, IsReadable, IsSendable}
use Rattle.ch_trace_laws.proofs.Epochs.{begun, ran, stepped}
use Rattle.ch_trace_laws.proofs.Steps.{step_line}

no_lines : Each IsLine []
no_lines l i = absurd i

more_lines : (l : Line) (ls : List Line) → IsLine l → Each IsLine ls → Each IsLine (l ∷ ls)
more_lines l ls h k x (inl e) = subst IsLine (sym e) h
more_lines l ls h k x (inr i) = k x i

both_lines : (first last : List Line) → Each IsLine first → Each IsLine last → Each IsLine (first ++ last)
both_lines first last h k x i = elim (In-append x first last i) [ inl j ↦ h x j | inr j ↦ k x j ]

next_sendable : (c : Config) (s : State) (e : Event) → IsSendable c s → s.epoch + begun e < 2 ^ 32 → IsSendable c (step c s e)
next_sendable c s e is small = let after = stepped c s e in record { config = is.config; reached = reached_step c s e is.reached; small = omega (arith, small, after) }

-- the steps of a schedule

begun_le : (e : Event) → begun e ≤ 1
begun_le (Send w) = omega arith
begun_le (Resend w place) = omega arith
begun_le (Up i how) = omega arith
begun_le (Down i how) = omega arith
begun_le (Back i how) = omega arith
begun_le Inject = omega arith
begun_le Restart = omega arith

pub steps_lines : (c : Config) (steps : List Step) (s : State) → IsSendable c s → s.epoch + length steps < 2 ^ 32 → Each IsReadable steps → Each IsLine (lines_from c s steps)
steps_lines c [] s is few h = no_lines
steps_lines c (x ∷ xs) s is few h =
    let after = stepped c s (event_of x) in
    let le = begun_le (event_of x) in
    go (stopped c s) (steps_lines c xs (step c s (event_of x)) (next_sendable c s (event_of x) is (omega (arith, few, le))) (omega (arith, few, after, le)) (λ y i. h y (inr i)))
  where
    go : (b : Bool) → Each IsLine (lines_from c (step c s (event_of x)) xs) → Each IsLine (if b then [] else Said (noted_at c s x) ∷ lines_from c (step c s (event_of x)) xs)
    go true later = no_lines
    go false later = more_lines (Said (noted_at c s x)) (lines_from c (step c s (event_of x)) xs) (step_line c s is x (h x (inl refl))) later

-- the events of a drain are none that a restart or an inject is, and take the first packet of a link

abbrev IsDrained : Event → Type 0
IsDrained (Send w) = Unit {0}
IsDrained (Resend w place) = Unit {0}
IsDrained (Up i how) = i ≡ 0
IsDrained (Down i how) = i ≡ 0
IsDrained (Back i how) = i ≡ 0
IsDrained Inject = ⊥
IsDrained Restart = ⊥

none : Each IsDrained []
none e i = absurd i

one_more : (e : Event) (es : List Event) → IsDrained e → Each IsDrained es → Each IsDrained (e ∷ es)
one_more e es h k x (inl i) = subst IsDrained (sym i) h
one_more e es h k x (inr i) = k x i

both : (first last : List Event) → Each IsDrained first → Each IsDrained last → Each IsDrained (first ++ last)
both first last h k x i = elim (In-append x first last i) [ inl j ↦ h x j | inr j ↦ k x j ]

same : (n : ℕ) (e : Event) → IsDrained e → Each IsDrained (replicate n e)
same zero e h = none
same (suc n) e h = one_more e (replicate n e) h (same n e h)

resent : (s : State) (w : ℕ) → Each IsDrained (resend_events s w)
resent s w e i = let m = In-map (λ place. Resend w place) e (numbers_from 0 (length (open_numbers (s.next w) (s.acked w)))) i in subst IsDrained (sym m.2) tt

module _ (c : Config) where
  sent : (w most : ℕ) (s : State) → Each IsDrained (send_events c w most s)
  unfolding send_events
  sent w zero s = none
  sent w (suc most) s = go (can_send c s w) (sent w most (step c s (Send w)))
    where
      go : (b : Bool) → Each IsDrained (send_events c w most (step c s (Send w))) → Each IsDrained (if b then Send w ∷ send_events c w most (step c s (Send w)) else [])
      go true later = one_more (Send w) (send_events c w most (step c s (Send w))) tt later
      go false later = none

  turned : (first count : ℕ) (s : State) → Each IsDrained (turns_events c first count s)
  unfolding turns_events
  turned first zero s = none
  turned first (suc count) s =
      both (turn_events c first s) (turns_events c (suc first) count (take_turn c first s))
      (both (resend_events s first) (send_events c first (suc (size c first)) (resends c s first)) (resent s first) (sent first (suc (size c first)) (resends c s first)))
      (turned (suc first) count (take_turn c first s))

  backs : (n : ℕ) (s : State) → Each IsDrained (back_events c n s)
  unfolding back_events
  backs zero s = none
  backs (suc n) s = go (stopped c s) (backs n (step c s (Back 0 Take)))
    where
      go : (b : Bool) → Each IsDrained (back_events c n (step c s (Back 0 Take))) → Each IsDrained (if b then [] else Back 0 Take ∷ back_events c n (step c s (Back 0 Take)))
      go true later = none
      go false later = one_more (Back 0 Take) (back_events c n (step c s (Back 0 Take))) refl later

  links : (s : State) → Each IsDrained (links_events c s)
  links s =
      both (replicate (length s.up) (Up 0 Take)) (replicate (length (empty_up c s).down) (Down 0 Take) ++ back_events c (length (empty_down c (empty_up c s)).back) (empty_down c (empty_up c s)))
      (same (length s.up) (Up 0 Take) refl)
      (both (replicate (length (empty_up c s).down) (Down 0 Take)) (back_events c (length (empty_down c (empty_up c s)).back) (empty_down c (empty_up c s)))
      (same (length (empty_up c s).down) (Down 0 Take) refl)
      (backs (length (empty_down c (empty_up c s)).back) (empty_down c (empty_up c s))))

  rounded : (s : State) → Each IsDrained (round_events c s)
  rounded s = go (stopped c s)
    where
      go : (b : Bool) → Each IsDrained (if b then [] else turns_events c 0 (workers c) s ++ links_events c (turns c 0 (workers c) s))
      go true = none
      go false = both (turns_events c 0 (workers c) s) (links_events c (turns c 0 (workers c) s)) (turned 0 (workers c) s) (links (turns c 0 (workers c) s))

  rounds : (n : ℕ) (s : State) → Each IsDrained (rounds_events c n s)
  unfolding rounds_events
  rounds zero s = none
  rounds (suc n) s = both (round_events c s) (rounds_events c n (round c s)) (rounded s) (rounds n (round c s))

  drained : (s : State) → Each IsDrained (drain_events c s)
  drained s = rounds (passes c * most_rounds c) s

-- a place of a list that is there
place_below : {X : Type 0} (xs : List X) (i : ℕ) (x : X) → slice_get xs i ≡ Some x → i < length xs
place_below [] i x e = absurd cc
place_below (y ∷ ys) zero x e = omega arith
place_below (y ∷ ys) (suc i) x e = let lt = place_below ys i x e in omega (arith, lt)

fewer : {X : Type 0} (p : X → Bool) (xs : List X) → length (filter p xs) ≤ length xs
fewer p [] = omega arith
fewer {X} p (x ∷ xs) = go (p x) (fewer p xs)
  where
    go : (b : Bool) → length (filter p xs) ≤ length xs → length (cond b (x ∷ filter p xs) (filter p xs)) ≤ suc (length xs)
    go true le = omega (arith, le)
    go false le = omega (arith, le)

numbered : (from count : ℕ) → length (numbers_from from count) ≡ count
numbered from zero = refl
numbered from (suc count) = ap suc (numbered (suc from) count)

module _ (c : Config) (s : State) (is : IsSendable c s) where
  sent_readable : (w : ℕ) → nat_lt w (workers c) ≡ true → w < 2 ^ 32
  sent_readable w e = let lt = ltb-true w (workers c) e in let many = is.config.many in omega (arith, lt, many)

  open_readable : (w place k : ℕ) → nat_lt w (workers c) ≡ true → open_at (s.next w) (s.acked w) place ≡ Some k → place < 2 ^ 32
  open_readable w place k e at =
      let lt = ltb-true w (workers c) e in
      let below = place_below (open_numbers (s.next w) (s.acked w)) place k at in
      let few = fewer (λ n. not (s.acked w n)) (numbers_from 0 (s.next w)) in
      let many = numbered 0 (s.next w) in
      let within = (reached_sound c s is.reached).numbered.within w lt in
      let size = is.config.sizes w lt in
      omega (arith, below, few, many, within, size)

  readable : (e : Event) → IsDrained e → is_made (event_fate c s e) ≡ true → IsReadable (step_of e)
  readable (Send w) h made = go (nat_lt w (workers c)) refl made
    where
      go : (b : Bool) → nat_lt w (workers c) ≡ b → is_made (send_fate (b && can_send c s w)) ≡ true → w < 2 ^ 32
      go true e m = sent_readable w e
      go false e m = absurd cc
  readable (Resend w place) h made = go (nat_lt w (workers c)) refl (open_at (s.next w) (s.acked w) place) refl made
    where
      go : (b : Bool) → nat_lt w (workers c) ≡ b → (o : Option ℕ) → open_at (s.next w) (s.acked w) place ≡ o → is_made (if b then resend_fate o else Nothing) ≡ true → (w < 2 ^ 32) × (place < 2 ^ 32)
      go true e (Some k) at m = (sent_readable w e, open_readable w place k e at)
      go true e None at m = absurd cc
      go false e o at m = absurd cc
  readable (Up i how) h made = omega (arith, h)
  readable (Down i how) h made = omega (arith, h)
  readable (Back i how) h made = omega (arith, h)
  readable Inject h made = absurd h
  readable Restart h made = absurd h

how_back : (h : How) → how_of (said_how h) ≡ h
how_back Take = refl
how_back Keep = refl
how_back Lose = refl

event_back : (e : Event) → event_of (step_of e) ≡ e
event_back (Send w) = refl
event_back (Resend w place) = refl
event_back (Up i h) = ap (Up i) (how_back h)
event_back (Down i h) = ap (Down i) (how_back h)
event_back (Back i h) = ap (Back i) (how_back h)
event_back Inject = refl
event_back Restart = refl

begins_none : (e : Event) → IsDrained e → begun e ≡ 0
begins_none (Send w) h = refl
begins_none (Resend w place) h = refl
begins_none (Up i how) h = refl
begins_none (Down i how) h = refl
begins_none (Back i how) h = refl
begins_none Inject h = absurd h
begins_none Restart h = absurd h

drained_lines : (c : Config) (es : List Event) (s : State) → IsSendable c s → AreMade c es s → Each IsDrained es → Each IsLine (lines_from c s (map step_of es))
drained_lines c [] s is made h = no_lines
drained_lines c (e ∷ es) s is made h =
    let runs : stopped c s ≡ false = made.0 in
    let here = step_line c s is (step_of e) (readable c s is e (h e (inl refl)) made.1) in
    let begins = begins_none e (h e (inl refl)) in
    let small = is.small in
    let later = drained_lines c es (step c s e) (next_sendable c s e is (omega (arith, small, begins))) made.2 (λ x i. h x (inr i)) in
    let after : step c s (event_of (step_of e)) ≡ step c s e = ap (step c s) (event_back e) in
    let both' : Each IsLine (Said (noted_at c s (step_of e)) ∷ lines_from c (step c s (event_of (step_of e))) (map step_of es)) =
    more_lines (Said (noted_at c s (step_of e))) (lines_from c (step c s (event_of (step_of e))) (map step_of es)) here (subst (λ (t : State). Each IsLine (lines_from c t (map step_of es))) (sym after) later) in
    rw runs both'

ended : (c : Config) (s : State) (lines : List Line) → Each IsLine lines → Each IsLine (lines ++ End (ending_at c s) ∷ [])
ended c s lines h = both_lines lines (End (ending_at c s) ∷ []) h (more_lines (End (ending_at c s)) [] tt no_lines)

pub trace_in_range : (c : Config) (schedule : Schedule) → AreSendable c → 0 < workers c → 1 ≤ c.window → Each IsReadable schedule.steps → length schedule.steps < 2 ^ 32 → Each IsLine (trace_lines c (steps_done c schedule))
trace_in_range c schedule are some room h few = ended c (run c (events_of (steps_done c schedule)) (start c)) (lines_from c (start c) (steps_done c schedule)) (whole schedule.drain)
  where
    at_start : IsSendable c (start c)
    at_start = record { config = are; reached = ([], refl); small = omega arith }

    t : State
    t = run c (events_of schedule.steps) (start c)

    behind : IsSendable c t
    behind =
        let after = ran c (events_of schedule.steps) (start c) in
        let many = length-map schedule.steps event_of in
        record { config = are; reached = (events_of schedule.steps, refl); small = omega (arith, after, many, few) }

    front : Each IsLine (lines_from c (start c) schedule.steps)
    front = steps_lines c schedule.steps (start c) at_start (omega (arith, few)) h

    more : (steps : List Step) → Each IsLine (lines_from c t steps) → Each IsLine (lines_from c (start c) (schedule.steps ++ steps))
    more steps k = rw lines_more (both_lines (lines_from c (start c) schedule.steps) (lines_from c t steps) front k)

    whole : (b : Bool) → Each IsLine (lines_from c (start c) (schedule.steps ++ (if b then drain_steps c t else [])))
    whole true = more (drain_steps c t) (drained_lines c (drain_events c t) t behind (drain_made c t some (reached_ready c t some room behind.reached)) (drained c t))
    whole false = more [] no_lines
