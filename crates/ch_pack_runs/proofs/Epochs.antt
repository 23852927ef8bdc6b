-- A drain stays in its epoch.
use Rattle.std.proofs.Common.{◌≡◌, ◌∙◌, refl, ℕ, zero, suc, ◌*◌, Bool, true, false, List, [], ◌∷◌, length, map}
use Rattle.std.specs.Prelude.{if◌then◌else◌, ◌&&◌, nat_lt, slice_get, remove, Option, Some, None}
use Rattle.ch_protocol.specs.Drain.{drain, empty_down, empty_up, most_rounds, repeat, resends, round, sends, take_turn, turns}
use Rattle.ch_protocol.specs.Machine.{Config, Event, State, can_send, change_pass, confirmed, count_step, effect, fate_at, follow, is_fin, learn_at, meet_at, passes, receive_at, resend_this, run, size, step, stopped, workers}
use Rattle.ch_protocol.specs.Machine.Event.{Back, Down, Resend, Send, Up}
use Rattle.ch_protocol.specs.Machine.How.{Take}
use Rattle.ch_protocol.specs.Packets.{Ack, Name, Packet}
use Rattle.ch_protocol.specs.Sender.{is_current, open_at, open_numbers}
use Rattle.ch_protocol.specs.Sets.{numbers_from}
use Rattle.ch_protocol.specs.declared.fate.Fate.{Fate}
use Rattle.ch_protocol.specs.declared.fate.Fate.TheVariants.{Dropped, Forwarded, Passed, Pruned}

-- one of two states, both of this epoch
either : (b : Bool) (x y : State) (epoch : ℕ) → x.epoch ≡ epoch → y.epoch ≡ epoch → (if b then x else y).epoch ≡ epoch
either true x y epoch a b = a
either false x y epoch a b = b

-- an event that by itself stays in the epoch
stays : (c : Config) (s : State) (e : Event) → (effect c s e).epoch ≡ s.epoch → (step c s e).epoch ≡ s.epoch
unfolding step
stays c s e same =
    let t = count_step (effect c s e) in
    either (stopped c s) s (change_pass c t) s.epoch refl (either (confirmed c t && nat_lt t.pass (passes c)) _ t s.epoch same same)

send_stays : (c : Config) (s : State) (w : ℕ) → (step c s (Send w)).epoch ≡ s.epoch
send_stays c s w = stays c s (Send w) (either (nat_lt w (workers c) && can_send c s w) _ s s.epoch refl refl)

resend_stays : (c : Config) (s : State) (w place : ℕ) → (step c s (Resend w place)).epoch ≡ s.epoch
resend_stays c s w place = stays c s (Resend w place) (either (nat_lt w (workers c)) _ s s.epoch (this (open_at (s.next w) (s.acked w) place)) refl)
  where
    this : (o : Option ℕ) → (resend_this s w o).epoch ≡ s.epoch
    this None = refl
    this (Some k) = refl

up_stays : (c : Config) (s : State) → (step c s (Up 0 Take)).epoch ≡ s.epoch
up_stays c s = stays c s (Up 0 Take) (met (slice_get s.up 0))
  where
    followed : (fin : Bool) (fate : Fate) (t : State) (x : Name) → (follow fin fate t x).epoch ≡ t.epoch
    followed fin Dropped t x = refl
    followed fin Pruned t x = refl
    followed fin Forwarded t x = refl
    followed fin Passed t x = refl

    met : (o : Option Packet) → (meet_at c s 0 Take o).epoch ≡ s.epoch
    met None = refl
    met (Some m) = let t = record s { up = remove s.up 0 } in followed (is_fin c m.name) (fate_at c t m.name) t m.name

down_stays : (c : Config) (s : State) → (step c s (Down 0 Take)).epoch ≡ s.epoch
down_stays c s = stays c s (Down 0 Take) (received (slice_get s.down 0))
  where
    received : (o : Option Packet) → (receive_at s 0 Take o).epoch ≡ s.epoch
    received None = refl
    received (Some m) = refl

back_stays : (c : Config) (s : State) → (step c s (Back 0 Take)).epoch ≡ s.epoch
back_stays c s = stays c s (Back 0 Take) (learned (slice_get s.back 0))
  where
    learned : (o : Option Ack) → (learn_at s 0 Take o).epoch ≡ s.epoch
    learned None = refl
    learned (Some a) = either (is_current s.pass s.epoch a.name.pass a.epoch) _ (record s { back = remove s.back 0 }) s.epoch refl refl

-- what is repeated
repeats : (f : State → State) → ((t : State) → (f t).epoch ≡ t.epoch) → (n : ℕ) (s : State) → (repeat f n s).epoch ≡ s.epoch
unfolding repeat
repeats f h zero s = refl
repeats f h (suc n) s = repeats f h n (f s) ∙ h s

resends_stay : (c : Config) (w : ℕ) (places : List ℕ) (s : State) → (run c (map (λ place. Resend w place) places) s).epoch ≡ s.epoch
resends_stay c w [] s = refl
resends_stay c w (place ∷ places) s = resends_stay c w places (step c s (Resend w place)) ∙ resend_stays c s w place

sends_stay : (c : Config) (w most : ℕ) (s : State) → (sends c w most s).epoch ≡ s.epoch
unfolding sends
sends_stay c w zero s = refl
sends_stay c w (suc most) s = either (can_send c s w) (sends c w most (step c s (Send w))) s s.epoch (sends_stay c w most (step c s (Send w)) ∙ send_stays c s w) refl

turn_stays : (c : Config) (w : ℕ) (s : State) → (take_turn c w s).epoch ≡ s.epoch
turn_stays c w s =
    sends_stay c w (suc (size c w)) (resends c s w) ∙ resends_stay c w (numbers_from 0 (length (open_numbers (s.next w) (s.acked w)))) s

turns_stay : (c : Config) (first count : ℕ) (s : State) → (turns c first count s).epoch ≡ s.epoch
unfolding turns
turns_stay c first zero s = refl
turns_stay c first (suc count) s = turns_stay c (suc first) count (take_turn c first s) ∙ turn_stays c first s

round_stays : (c : Config) (s : State) → (round c s).epoch ≡ s.epoch
unfolding round
round_stays c s =
    let t = turns c 0 (workers c) s in
    let u = empty_up c t in
    let v = empty_down c u in
    repeats (λ x. step c x (Back 0 Take)) (back_stays c) (length v.back) v
    ∙ (repeats (λ x. step c x (Down 0 Take)) (down_stays c) (length u.down) u
    ∙ (repeats (λ x. step c x (Up 0 Take)) (up_stays c) (length t.up) t ∙ turns_stay c 0 (workers c) s))

pub drain_stays : (c : Config) (s : State) → (drain c s).epoch ≡ s.epoch
drain_stays c s = repeats (round c) (round_stays c) (passes c * most_rounds c) s
