-- Drain is the run of its events.
use Rattle.std.proofs.Common.{◌≡◌, ℕ, zero, suc, ◌*◌, List, [], ◌∷◌, ◌++◌, length, replicate, refl, ap, sym, ◌∙◌, inl, inr}
use Rattle.std.proofs.lemmas.Bool.{cases_Bool}
use Rattle.ch_protocol.specs.Machine.{Config, State, Event, size, workers, passes, can_send, step, run, stopped}
use Rattle.ch_protocol.specs.Machine.How.{Take}
use Rattle.ch_protocol.specs.Machine.Event.{Send, Up, Down, Back}
use Rattle.ch_protocol.specs.Drain.{resend_events, repeat, resends, sends, take_turn, turns, round, empty_up, empty_down, empty_back, most_rounds, drain}
use Rattle.ch_protocol_laws.proofs.Fuel.{step_stopped, repeat_stopped, round_stopped}
use Rattle.ch_protocol.specs.DrainEvents.{send_events, turn_events, turns_events, back_events, links_events, round_events, rounds_events, drain_events}

pub run_append : (c : Config) (xs ys : List Event) (s : State) → run c (xs ++ ys) s ≡ run c ys (run c xs s)
run_append c [] ys s = refl
run_append c (x ∷ xs) ys s = run_append c xs ys (step c s x)

pub run_replicate : (c : Config) (n : ℕ) (e : Event) (s : State) → run c (replicate n e) s ≡ repeat (λ t. step c t e) n s
unfolding repeat
run_replicate c zero e s = refl
run_replicate c (suc n) e s = run_replicate c n e (step c s e)

pub run_sends : (c : Config) (w most : ℕ) (s : State) → run c (send_events c w most s) s ≡ sends c w most s
unfolding sends send_events
run_sends c w zero s = refl
run_sends c w (suc most) s = elim (cases_Bool (can_send c s w)) [
  | inl t ↦ rw t (run_sends c w most (step c s (Send w)))
  | inr f ↦ rw f refl
]

pub run_turn : (c : Config) (w : ℕ) (s : State) → run c (turn_events c w s) s ≡ take_turn c w s
run_turn c w s = run_append c (resend_events s w) (send_events c w (suc (size c w)) (resends c s w)) s ∙ run_sends c w (suc (size c w)) (resends c s w)

pub run_turns : (c : Config) (first count : ℕ) (s : State) → run c (turns_events c first count s) s ≡ turns c first count s
unfolding turns turns_events
run_turns c first zero s = refl
run_turns c first (suc count) s =
    run_append c (turn_events c first s) (turns_events c (suc first) count (take_turn c first s)) s
    ∙ (ap (run c (turns_events c (suc first) count (take_turn c first s))) (run_turn c first s) ∙ run_turns c (suc first) count (take_turn c first s))

pub run_backs : (c : Config) (n : ℕ) (s : State) → run c (back_events c n s) s ≡ repeat (λ t. step c t (Back 0 Take)) n s
unfolding repeat back_events
run_backs c zero s = refl
run_backs c (suc n) s = elim (cases_Bool (stopped c s)) [
  | inl t ↦ rw t (sym (repeat_stopped c (λ u. step c u (Back 0 Take)) (suc n) s (step_stopped c s (Back 0 Take) t)))
  | inr f ↦ rw f (run_backs c n (step c s (Back 0 Take)))
]

pub run_links : (c : Config) (s : State) → run c (links_events c s) s ≡ empty_back c (empty_down c (empty_up c s))
run_links c s =
    let ups = replicate (length s.up) (Up 0 Take) in
    let downs = replicate (length (empty_up c s).down) (Down 0 Take) in
    let backs = back_events c (length (empty_down c (empty_up c s)).back) (empty_down c (empty_up c s)) in
    run_append c ups (downs ++ backs) s
    ∙ (ap (run c (downs ++ backs)) (run_replicate c (length s.up) (Up 0 Take) s)
    ∙ (run_append c downs backs (empty_up c s)
    ∙ (ap (run c backs) (run_replicate c (length (empty_up c s).down) (Down 0 Take) (empty_up c s))
    ∙ run_backs c (length (empty_down c (empty_up c s)).back) (empty_down c (empty_up c s)))))

pub run_round : (c : Config) (s : State) → run c (round_events c s) s ≡ round c s
unfolding round
run_round c s = elim (cases_Bool (stopped c s)) [
  | inl t ↦ rw t (sym (round_stopped c s t))
  | inr f ↦ rw f (run_append c (turns_events c 0 (workers c) s) (links_events c (turns c 0 (workers c) s)) s
      ∙ (ap (run c (links_events c (turns c 0 (workers c) s))) (run_turns c 0 (workers c) s) ∙ run_links c (turns c 0 (workers c) s)))
]

pub run_rounds : (c : Config) (n : ℕ) (s : State) → run c (rounds_events c n s) s ≡ repeat (round c) n s
unfolding repeat rounds_events
run_rounds c zero s = refl
run_rounds c (suc n) s =
    run_append c (round_events c s) (rounds_events c n (round c s)) s
    ∙ (ap (run c (rounds_events c n (round c s))) (run_round c s) ∙ run_rounds c n (round c s))

pub run_drain : (c : Config) (s : State) → run c (drain_events c s) s ≡ drain c s
run_drain c s = run_rounds c (passes c * most_rounds c) s
