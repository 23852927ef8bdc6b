-- The invariant in every state that a run reaches.
use Rattle.std.proofs.Common.{◌≡◌, ℕ, suc, ◌-◌, ◌<◌, ◌≤◌, true, not, ◌&&◌, eqb, nat_lt, List, [], ◌∷◌, remove, slice_get, Option, Some, None, refl, arith, inl, inr, eqb-true, ltb-true}
use Rattle.std.proofs.lemmas.Bool.{and_parts, or_cases}
use Rattle.ch_protocol.specs.Sets.{all_below, numbers_from}
use Rattle.ch_protocol.specs.Packets.{Packet, Ack}
use Rattle.ch_protocol.specs.Sender.{has_room, may_end, least_open, open_numbers}
use Rattle.ch_protocol.specs.Machine.{can_send, Config, State, How, Event, size, workers, passes, send_next, resend_this, send, resend, meet_at, receive_at, learn_at, effect, change_pass, step, run, start, confirmed, stopped, count_step}
use Rattle.ch_protocol.specs.Machine.How.{Take, Keep, Lose}
use Rattle.ch_protocol.specs.Machine.Event.{Send, Resend, Up, Down, Back, Inject, Restart}
use Rattle.ch_protocol.specs.Invariant.{IsSound}
use Rattle.ch_lists.proofs.Members.{In-filter}
use Rattle.ch_protocol.proofs.Lists.{In-get, In-numbers}
use Rattle.ch_protocol.proofs.Tests.{set_at-same, either_way, all_below-at}
use Rattle.ch_protocol_laws.proofs.Links.{start_sound, with_counts, without_up, without_down, without_back, go_up_sound, grow_sound}
use Rattle.ch_protocol_laws.proofs.Acks.{receive_sound, learn_sound, begin_sound, restart_sound}
use Rattle.ch_protocol_laws.proofs.Switch.{meet_sound}

module _ (c : Config) (s : State) (i : IsSound c s) where
  pub send_next_sound : (w : ℕ) → w < workers c → s.next w ≤ size c w → (s.next w ≡ size c w → (k : ℕ) → k < size c w → s.acked w k ≡ true) → IsSound c (send_next s w)
  send_next_sound w h room all = go_up_sound c _ (grow_sound c s i w h room all) w (s.next w) (record {
    worker = h;
    first = i.in_range.0;
    begun = omega arith;
    number = room;
    sent = λ e. omega (arith, set_at-same w w (suc (s.next w)) s.next refl);
  })

  pub send_sound : (w : ℕ) → IsSound c (send c s w)
  send_sound w = either_way (IsSound c) (nat_lt w (workers c) && can_send c s w) _ _
      (λ t.
      let both = and_parts (nat_lt w (workers c)) (can_send c s w) t in
      let h : w < workers c = ltb-true w (workers c) both.0 in
      elim (or_cases (has_room (size c w) c.window (s.next w) (s.acked w)) (may_end (size c w) (s.next w) (s.acked w)) both.1) [
        | inl r ↦
            let lt : s.next w < size c w = ltb-true (s.next w) (size c w) (and_parts (nat_lt (s.next w) (size c w)) (nat_lt (s.next w - least_open (size c w) (s.acked w)) c.window) r).0 in
            send_next_sound w h (omega arith) (λ e. absurd (omega arith))
        | inr r ↦
            let p = and_parts (eqb (s.next w) (size c w)) (all_below (s.acked w) (size c w)) r in
            let e : s.next w ≡ size c w = eqb-true (s.next w) (size c w) p.0 in
            send_next_sound w h (omega arith) (λ _ k lt. all_below-at (s.acked w) (size c w) k p.1 lt)
      ])
      (λ f. i)

  pub resend_sound : (w place : ℕ) → IsSound c (resend c s w place)
  resend_sound w place = either_way (IsSound c) (nat_lt w (workers c)) _ _
      (λ t. go (ltb-true w (workers c) t) (slice_get (open_numbers (s.next w) (s.acked w)) place) refl)
      (λ f. i)
    where
      go : w < workers c → (o : Option ℕ) → slice_get (open_numbers (s.next w) (s.acked w)) place ≡ o → IsSound c (resend_this s w o)
      go h None e = i
      go h (Some k) e =
          let j = In-filter (λ k. not (s.acked w k)) k (numbers_from 0 (s.next w)) (In-get k (open_numbers (s.next w) (s.acked w)) place e) in
          let lt : k < s.next w = omega (arith, In-numbers k 0 (s.next w) j.0) in
          go_up_sound c s i w k (record { worker = h; first = i.in_range.0; begun = omega arith; number = omega (arith, i.numbered.within w h); sent = λ _. lt })

  meet_at_sound : (k : ℕ) (how : How) (o : Option Packet) → slice_get s.up k ≡ o → IsSound c (meet_at c s k how o)
  meet_at_sound k Take None e = i
  meet_at_sound k Keep None e = i
  meet_at_sound k Lose None e = i
  meet_at_sound k Take (Some m) e = meet_sound c (record s { up = remove s.up k }) (without_up c s i k) m.name (i.up m (In-get m s.up k e)).known
  meet_at_sound k Keep (Some m) e = meet_sound c s i m.name (i.up m (In-get m s.up k e)).known
  meet_at_sound k Lose (Some m) e = without_up c s i k

  receive_at_sound : (k : ℕ) (how : How) (o : Option Packet) → slice_get s.down k ≡ o → IsSound c (receive_at s k how o)
  receive_at_sound k Take None e = i
  receive_at_sound k Keep None e = i
  receive_at_sound k Lose None e = i
  receive_at_sound k Take (Some m) e = receive_sound c (record s { down = remove s.down k }) (without_down c s i k) m (i.down m (In-get m s.down k e))
  receive_at_sound k Keep (Some m) e = receive_sound c s i m (i.down m (In-get m s.down k e))
  receive_at_sound k Lose (Some m) e = without_down c s i k

  learn_at_sound : (k : ℕ) (how : How) (o : Option Ack) → slice_get s.back k ≡ o → IsSound c (learn_at s k how o)
  learn_at_sound k Take None e = i
  learn_at_sound k Keep None e = i
  learn_at_sound k Lose None e = i
  learn_at_sound k Take (Some a) e = learn_sound c (record s { back = remove s.back k }) (without_back c s i k) a (i.back a (In-get a s.back k e))
  learn_at_sound k Keep (Some a) e = learn_sound c s i a (i.back a (In-get a s.back k e))
  learn_at_sound k Lose (Some a) e = without_back c s i k

  pub effect_sound : (e : Event) → IsSound c (effect c s e)
  effect_sound (Send w) = send_sound w
  effect_sound (Resend w place) = resend_sound w place
  effect_sound (Up k how) = meet_at_sound k how (slice_get s.up k) refl
  effect_sound (Down k how) = receive_at_sound k how (slice_get s.down k) refl
  effect_sound (Back k how) = learn_at_sound k how (slice_get s.back k) refl
  effect_sound Inject = i
  effect_sound Restart = restart_sound c s i

  change_pass_sound : IsSound c (change_pass c s)
  change_pass_sound = either_way (IsSound c) (confirmed c s && nat_lt s.pass (passes c)) _ _
      (λ t. let p = and_parts (confirmed c s) (nat_lt s.pass (passes c)) t in begin_sound c s i p.0 (ltb-true s.pass (passes c) p.1))
      (λ f. i)

pub step_sound : (c : Config) (s : State) → IsSound c s → (e : Event) → IsSound c (step c s e)
unfolding step
step_sound c s i e = either_way (IsSound c) (stopped c s) _ _
    (λ t. i)
    (λ f. change_pass_sound c (count_step (effect c s e)) (with_counts c (effect c s e) (effect_sound c s i e) _))

pub run_sound : (c : Config) (es : List Event) (s : State) → IsSound c s → IsSound c (run c es s)
run_sound c [] s i = i
run_sound c (e ∷ es) s i = run_sound c es (step c s e) (step_sound c s i e)

pub sound : (c : Config) (es : List Event) → IsSound c (run c es (start c))
sound c es = run_sound c es (start c) (start_sound c)
