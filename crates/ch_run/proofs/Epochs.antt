-- An event begins one epoch at most.
use Rattle.std.proofs.Common.{◌≡◌, ℕ, suc, ◌+◌, ◌<◌, ◌≤◌, ◌^◌, Bool, true, false, refl, arith}
use Rattle.std.specs.Prelude.{if◌then◌else◌, slice_get, remove, Option, Some, None, ◌&&◌, nat_lt}
use Rattle.ch_protocol.specs.Packets.{Packet, Ack, Name}
use Rattle.ch_protocol.specs.Sender.{is_current, open_at}
use Rattle.ch_protocol.specs.Machine.{Config, State, Event, How, can_send, change_pass, confirmed, count_step, effect, fate_at, follow, is_fin, learn, learn_at, meet_at, passes, receive_at, resend_this, step, stopped, workers}
use Rattle.ch_protocol.specs.Machine.How.{Take, Keep, Lose}
use Rattle.ch_protocol.specs.Machine.Event.{Send, Resend, Up, Down, Back, Inject, Restart}
use Rattle.ch_protocol.specs.declared.fate.Fate.{Fate}
use Rattle.ch_protocol.specs.declared.fate.Fate.TheVariants.{Dropped, Pruned, Forwarded, Passed}
use Rattle.ch_schedule.specs.declared.step.Step.{Step}
use Rattle.ch_schedule.specs.declared.step.Step.TheVariants as said
use Rattle.ch_engine.specs.Stands.{HasEpoch}

if_epoch : (b : Bool) (x y : State) (n : ℕ) → x.epoch ≤ n → y.epoch ≤ n → (if b then x else y).epoch ≤ n
if_epoch true x y n a b = a
if_epoch false x y n a b = b

follow_epoch : (fin : Bool) (fate : Fate) (s : State) (x : Name) → (follow fin fate s x).epoch ≡ s.epoch
follow_epoch fin Dropped s x = refl
follow_epoch fin Pruned s x = refl
follow_epoch fin Forwarded s x = refl
follow_epoch fin Passed s x = refl

resend_epoch : (s : State) (w : ℕ) (o : Option ℕ) → (resend_this s w o).epoch ≡ s.epoch
resend_epoch s w None = refl
resend_epoch s w (Some k) = refl

meet_epoch : (c : Config) (s : State) (i : ℕ) (how : How) (o : Option Packet) → (meet_at c s i how o).epoch ≡ s.epoch
meet_epoch c s i how None = refl
meet_epoch c s i Take (Some m) = let t = record s { up = remove s.up i } in follow_epoch (is_fin c m.name) (fate_at c t m.name) t m.name
meet_epoch c s i Keep (Some m) = follow_epoch (is_fin c m.name) (fate_at c s m.name) s m.name
meet_epoch c s i Lose (Some m) = refl

receive_epoch : (s : State) (i : ℕ) (how : How) (o : Option Packet) → (receive_at s i how o).epoch ≡ s.epoch
receive_epoch s i how None = refl
receive_epoch s i Take (Some m) = refl
receive_epoch s i Keep (Some m) = refl
receive_epoch s i Lose (Some m) = refl

same_either : (b : Bool) (x y : State) (n : ℕ) → x.epoch ≡ n → y.epoch ≡ n → (if b then x else y).epoch ≡ n
same_either true x y n a b = a
same_either false x y n a b = b

learned_epoch : (s : State) (a : Ack) → (learn s a).epoch ≡ s.epoch
learned_epoch s a = same_either (is_current s.pass s.epoch a.name.pass a.epoch) _ s s.epoch refl refl

learn_epoch : (s : State) (i : ℕ) (how : How) (o : Option Ack) → (learn_at s i how o).epoch ≡ s.epoch
learn_epoch s i how None = refl
learn_epoch s i Take (Some a) = learned_epoch (record s { back = remove s.back i }) a
learn_epoch s i Keep (Some a) = learned_epoch s a
learn_epoch s i Lose (Some a) = refl

effect_epoch : (c : Config) (s : State) (e : Event) → (effect c s e).epoch ≤ suc s.epoch
effect_epoch c s (Send w) = if_epoch (nat_lt w (workers c) && can_send c s w) _ s (suc s.epoch) (omega arith) (omega arith)
effect_epoch c s (Resend w place) = if_epoch (nat_lt w (workers c)) _ s (suc s.epoch) (omega (arith, resend_epoch s w (open_at (s.next w) (s.acked w) place))) (omega arith)
effect_epoch c s (Up i how) = omega (arith, meet_epoch c s i how (slice_get s.up i))
effect_epoch c s (Down i how) = omega (arith, receive_epoch s i how (slice_get s.down i))
effect_epoch c s (Back i how) = omega (arith, learn_epoch s i how (slice_get s.back i))
effect_epoch c s Inject = omega arith
effect_epoch c s Restart = omega arith

pub step_epoch : (c : Config) (s : State) (e : Event) → (step c s e).epoch ≤ suc s.epoch
unfolding step
step_epoch c s e =
    let t = count_step (effect c s e) in
    let le = effect_epoch c s e in
    if_epoch (stopped c s) s (change_pass c t) (suc s.epoch) (omega arith) (if_epoch (confirmed c t && nat_lt t.pass (passes c)) _ t (suc s.epoch) le le)

-- an epoch is left for each step
pub epoch_left : (step : Step) (epoch : ℕ) → epoch + 1 < 2 ^ 32 → HasEpoch step epoch
epoch_left (said.Send w) epoch lt = tt
epoch_left (said.Resend w place) epoch lt = tt
epoch_left (said.Up i how) epoch lt = tt
epoch_left (said.Down i how) epoch lt = tt
epoch_left (said.Back i how) epoch lt = tt
epoch_left (said.Inject l bytes) epoch lt = tt
epoch_left said.Restart epoch lt = lt
