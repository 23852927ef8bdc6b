-- An event begins an epoch where it is a restart, and no other does.
use Rattle.std.proofs.Common.{◌≡◌, ◌≤◌, ◌+◌, ℕ, Bool, true, false, List, [], ◌∷◌, length, refl, arith}
use Rattle.std.specs.Prelude.{◌&&◌, nat_lt, if◌then◌else◌, slice_get, remove, Option, Some, None}
use Rattle.ch_protocol.specs.Machine.{Config, State, Event, How, can_send, change_pass, confirmed, count_step, effect, fate_at, follow, is_fin, learn, learn_at, meet_at, passes, receive_at, resend_this, run, step, stopped, workers}
use Rattle.ch_protocol.specs.Machine.Event.{Send, Resend, Up, Down, Back, Inject, Restart}
use Rattle.ch_protocol.specs.Machine.How.{Take, Keep, Lose}
use Rattle.ch_protocol.specs.Packets.{Ack, Name, Packet}
use Rattle.ch_protocol.specs.Sender.{is_current, open_at}
use Rattle.ch_protocol.specs.declared.fate.Fate.{Fate}
use Rattle.ch_protocol.specs.declared.fate.Fate.TheVariants.{Dropped, Pruned, Forwarded, Passed}

-- how many epochs an event begins
abbrev pub begun : Event → ℕ
begun (Send w) = 0
begun (Resend w place) = 0
begun (Up i how) = 0
begun (Down i how) = 0
begun (Back i how) = 0
begun Inject = 0
begun Restart = 1

either_epoch : (b : Bool) (x y : State) (n : ℕ) → x.epoch ≤ n → y.epoch ≤ n → (if b then x else y).epoch ≤ n
either_epoch true x y n a b = a
either_epoch false x y n a b = b

followed : (fin : Bool) (fate : Fate) (s : State) (x : Name) → (follow fin fate s x).epoch ≡ s.epoch
followed fin Dropped s x = refl
followed fin Pruned s x = refl
followed fin Forwarded s x = refl
followed fin Passed s x = refl

resent : (s : State) (w : ℕ) (o : Option ℕ) → (resend_this s w o).epoch ≡ s.epoch
resent s w None = refl
resent s w (Some k) = refl

met : (c : Config) (s : State) (i : ℕ) (how : How) (o : Option Packet) → (meet_at c s i how o).epoch ≡ s.epoch
met c s i how None = refl
met c s i Take (Some m) = let t = record s { up = remove s.up i } in followed (is_fin c m.name) (fate_at c t m.name) t m.name
met c s i Keep (Some m) = followed (is_fin c m.name) (fate_at c s m.name) s m.name
met c s i Lose (Some m) = refl

received : (s : State) (i : ℕ) (how : How) (o : Option Packet) → (receive_at s i how o).epoch ≡ s.epoch
received s i how None = refl
received s i Take (Some m) = refl
received s i Keep (Some m) = refl
received s i Lose (Some m) = refl

learned : (s : State) (a : Ack) → (learn s a).epoch ≤ s.epoch
learned s a = either_epoch (is_current s.pass s.epoch a.name.pass a.epoch) _ s s.epoch (omega arith) (omega arith)

learned_at : (s : State) (i : ℕ) (how : How) (o : Option Ack) → (learn_at s i how o).epoch ≤ s.epoch
learned_at s i how None = omega arith
learned_at s i Take (Some a) = learned (record s { back = remove s.back i }) a
learned_at s i Keep (Some a) = learned s a
learned_at s i Lose (Some a) = omega arith

effected : (c : Config) (s : State) (e : Event) → (effect c s e).epoch ≤ s.epoch + begun e
effected c s (Send w) = either_epoch (nat_lt w (workers c) && can_send c s w) _ s (s.epoch + 0) (omega arith) (omega arith)
effected c s (Resend w place) = either_epoch (nat_lt w (workers c)) _ s (s.epoch + 0) (omega (arith, resent s w (open_at (s.next w) (s.acked w) place))) (omega arith)
effected c s (Up i how) = omega (arith, met c s i how (slice_get s.up i))
effected c s (Down i how) = omega (arith, received s i how (slice_get s.down i))
effected c s (Back i how) = omega (arith, learned_at s i how (slice_get s.back i))
effected c s Inject = omega arith
effected c s Restart = omega arith

pub stepped : (c : Config) (s : State) (e : Event) → (step c s e).epoch ≤ s.epoch + begun e
unfolding step
stepped c s e =
    let t = count_step (effect c s e) in
    let le = effected c s e in
    either_epoch (stopped c s) s (change_pass c t) (s.epoch + begun e) (omega arith) (either_epoch (confirmed c t && nat_lt t.pass (passes c)) _ t (s.epoch + begun e) le le)

begun_few : (e : Event) → begun e ≤ 1
begun_few (Send w) = omega arith
begun_few (Resend w place) = omega arith
begun_few (Up i how) = omega arith
begun_few (Down i how) = omega arith
begun_few (Back i how) = omega arith
begun_few Inject = omega arith
begun_few Restart = omega arith

-- there are no more epochs than events
pub ran : (c : Config) (es : List Event) (s : State) → (run c es s).epoch ≤ s.epoch + length es
ran c [] s = omega arith
ran c (e ∷ es) s = omega (arith, ran c es (step c s e), stepped c s e, begun_few e)
