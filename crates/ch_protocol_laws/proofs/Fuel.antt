-- The sends of a turn end where a send would put nothing on the link, and a round of a run that has stopped does nothing.
use Rattle.std.proofs.Common.{◌≡◌, ℕ, zero, suc, ◌+◌, ◌-◌, ◌<◌, ◌≤◌, ◌&&◌, Bool, true, false, eqb, eqb-true, nat_lt, ltb-true, lt-ltb, List, [], ◌∷◌, length, map, refl, ap, sym, ◌∙◌, subst, arith, inl, inr}
use Rattle.std.proofs.lemmas.Bool.{cases_Bool, or_cases, and_from, and_parts, cond-true, cond-false, false_from_ne_true}
use Rattle.ch_protocol.specs.Sets.{numbers_from, all_below}
use Rattle.ch_protocol.specs.Sender.{least_open, open_numbers, has_room, may_end}
use Rattle.ch_protocol.specs.Machine.{Config, State, Event, size, workers, passes, send_next, send, effect, change_pass, step, run, confirmed, stopped, count_step, can_send}
use Rattle.ch_protocol.specs.Machine.How.{Take}
use Rattle.ch_protocol.specs.Machine.Event.{Send, Resend, Up, Down, Back}
use Rattle.ch_protocol.specs.Drain.{resends, take_turn, repeat, sends, turns, round, empty_up, empty_down, empty_back}
use Rattle.ch_protocol_laws.proofs.Ways.{IsReady, step_cases, step_ready}
use Rattle.ch_protocol_laws.proofs.Rounds.{run_ready}
use Rattle.ch_protocol.proofs.Tests.{set_at-same, all_below-at}

pub step_stopped : (c : Config) (s : State) (ev : Event) → stopped c s ≡ true → step c s ev ≡ s
unfolding step
step_stopped c s ev t = cond-true (stopped c s) s (change_pass c (count_step (effect c s ev))) t

pub repeat_stopped : (c : Config) (f : State → State) (n : ℕ) (s : State) → f s ≡ s → repeat f n s ≡ s
unfolding repeat
repeat_stopped c f zero s e = refl
repeat_stopped c f (suc n) s e = ap (repeat f n) e ∙ repeat_stopped c f n s e

run_stopped : (c : Config) (evs : List Event) (s : State) → stopped c s ≡ true → run c evs s ≡ s
run_stopped c [] s t = refl
run_stopped c (ev ∷ evs) s t = ap (run c evs) (step_stopped c s ev t) ∙ run_stopped c evs s t

sends_stopped : (c : Config) (w fuel : ℕ) (s : State) → stopped c s ≡ true → sends c w fuel s ≡ s
unfolding sends
sends_stopped c w zero s t = refl
sends_stopped c w (suc fuel) s t = elim (cases_Bool (can_send c s w)) [
  | inl m ↦ cond-true (can_send c s w) (sends c w fuel (step c s (Send w))) s m ∙ (ap (sends c w fuel) (step_stopped c s (Send w) t) ∙ sends_stopped c w fuel s t)
  | inr f ↦ cond-false (can_send c s w) (sends c w fuel (step c s (Send w))) s f
]

turns_stopped : (c : Config) (w count : ℕ) (s : State) → stopped c s ≡ true → turns c w count s ≡ s
unfolding turns
turns_stopped c w zero s t = refl
turns_stopped c w (suc count) s t =
    ap (turns c (suc w) count) (ap (sends c w (suc (size c w))) (run_stopped c (map (λ place. Resend w place) (numbers_from 0 (length (open_numbers (s.next w) (s.acked w))))) s t) ∙ sends_stopped c w (suc (size c w)) s t) ∙ turns_stopped c (suc w) count s t

pub round_stopped : (c : Config) (s : State) → stopped c s ≡ true → round c s ≡ s
unfolding round
round_stopped c s t =
    ap (empty_back c) (ap (empty_down c) (ap (empty_up c) (turns_stopped c 0 (workers c) s t) ∙ repeat_stopped c (λ u. step c u (Up 0 Take)) (length s.up) s (step_stopped c s (Up 0 Take) t))
    ∙ repeat_stopped c (λ u. step c u (Down 0 Take)) (length s.down) s (step_stopped c s (Down 0 Take) t))
    ∙ repeat_stopped c (λ u. step c u (Back 0 Take)) (length s.back) s (step_stopped c s (Back 0 Take) t)

-- what a send changes
send_same : (c : Config) (s : State) (w : ℕ) → w < workers c → can_send c s w ≡ true → ((send c s w).acked ≡ s.acked) × ((send c s w).next w ≡ suc (s.next w)) × ((send c s w).pass ≡ s.pass)
send_same c s w in' m =
    subst (λ (t : State). (t.acked ≡ s.acked) × (t.next w ≡ suc (s.next w)) × (t.pass ≡ s.pass))
    (sym (cond-true (nat_lt w (workers c) && can_send c s w) (send_next s w) s (and_from (nat_lt w (workers c)) (can_send c s w) (lt-ltb w (workers c) in') m)))
    (refl, set_at-same w w (suc (s.next w)) s.next refl, refl)

-- nothing is left to send to a worker whose Fin is sent
no_send : (c : Config) (s : State) (w : ℕ) → size c w < s.next w → can_send c s w ≡ false
no_send c s w lt = false_from_ne_true (can_send c s w) (λ m. elim (or_cases (has_room (size c w) c.window (s.next w) (s.acked w)) (may_end (size c w) (s.next w) (s.acked w)) m) [
  | inl t ↦ absurd (omega (arith, ltb-true (s.next w) (size c w) (and_parts (nat_lt (s.next w) (size c w)) (nat_lt (s.next w - least_open (size c w) (s.acked w)) c.window) t).0))
  | inr t ↦ absurd (omega (arith, eqb-true (s.next w) (size c w) (and_parts (eqb (s.next w) (size c w)) (all_below (s.acked w) (size c w)) t).0))
])

module _ (c : Config) (some : 0 < workers c) (w : ℕ) (in' : w < workers c) where
  not_stopped : (s : State) → IsReady c s → can_send c s w ≡ true → stopped c s ≡ true → ⊥
  not_stopped s r m t =
      let q = and_parts (eqb s.pass (passes c)) (confirmed c s) t in
      let fin : size c w < s.expected s.pass w = r.sound.numbered.below w (size c w) in' (all_below-at (λ v. s.acked v (size c v)) (workers c) w q.1 in') in
      cc (m, no_send c s w (omega (arith, fin, r.sound.numbered.sent w in')))

  sent_next : (s : State) → IsReady c s → can_send c s w ≡ true → (step c s (Send w)).next w ≡ suc (s.next w)
  sent_next s r m =
      let q = send_same c s w in' m in
      step_cases c (λ t. t.next w ≡ suc (s.next w)) s (Send w)
      (λ t. absurd (not_stopped s r m t))
      (λ f t lt. absurd (omega (arith, r.turned (ap (λ (a : ℕ → ℕ → Bool). all_below (λ v. a v (size c v)) (workers c)) (sym q.0) ∙ t), q.2)))
      (λ f g. q.1)

  -- a turn's sends end where a send would put nothing on the link
  pub sends_end : (fuel : ℕ) (s : State) → IsReady c s → suc (size c w) ≤ s.next w + fuel → can_send c (sends c w fuel s) w ≡ false
  unfolding sends
  sends_end zero s r le = no_send c s w (omega arith)
  sends_end (suc fuel) s r le = elim (cases_Bool (can_send c s w)) [
    | inl m ↦ ap (λ (t : State). can_send c t w) (cond-true (can_send c s w) (sends c w fuel (step c s (Send w))) s m)
        ∙ sends_end fuel (step c s (Send w)) (step_ready c s (Send w) some r) (omega (arith, sent_next s r m))
    | inr f ↦ ap (λ (t : State). can_send c t w) (cond-false (can_send c s w) (sends c w fuel (step c s (Send w))) s f) ∙ f
  ]

pub turn_ends : (c : Config) (some : 0 < workers c) (room : 1 ≤ c.window) (w : ℕ) → w < workers c → (s : State) → IsReady c s → can_send c (take_turn c w s) w ≡ false
turn_ends c some room w in' s r = sends_end c some w in' (suc (size c w)) (resends c s w)
    (run_ready c some room 0 0 (λ v. 0) (map (λ place. Resend w place) (numbers_from 0 (length (open_numbers (s.next w) (s.acked w))))) s r) (omega arith)
