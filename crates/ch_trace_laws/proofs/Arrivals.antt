-- What the master receives, by the fate of a step.
use Rattle.std.proofs.Common.{◌≡◌, ◌∙◌, ℕ, Bool, true, false, ◌∷◌, refl, arith}
use Rattle.std.specs.Prelude.{◌≢◌, ◌&&◌, nat_lt, if◌then◌else◌, slice_get, remove, Option, Some, None, option_map}
use Rattle.ch_protocol.proofs.Lists.{In-get}
use Rattle.ch_protocol.specs.Fates.{back_fate, down_fate, event_fate, resend_fate, send_fate, switch_fate, unless_lost, up_fate}
use Rattle.ch_protocol.specs.Machine.{Config, State, Event, How, begin_pass, can_send, change_pass, confirmed, count_step, effect, fate_at, follow, is_fin, learn_at, meet_at, passes, receive_at, resend_this, step, stopped, workers}
use Rattle.ch_protocol.specs.Machine.Event.{Send, Resend, Up, Down, Back, Inject, Restart}
use Rattle.ch_protocol.specs.Machine.How.{Take, Keep, Lose}
use Rattle.ch_protocol.specs.Packets.{Ack, Name, Packet}
use Rattle.ch_protocol.specs.Receiver.{has}
use Rattle.ch_protocol.specs.Sender.{is_current, open_at}
use Rattle.ch_protocol.specs.declared.fate.Fate.{Fate}
use Rattle.ch_protocol.specs.declared.fate.Fate.TheVariants as fate
use Rattle.ch_protocol.specs.declared.fate.NoteFate.TheVariants.{Nothing, New, Old, Taken, Ignored}
use Rattle.ch_schedule.specs.Event.{event_of, how_of}
use Rattle.ch_schedule.specs.declared.step.Step.{Step}
use Rattle.ch_schedule.specs.declared.step.Step.TheVariants as step
use Rattle.ch_ends.specs.Packets.{packet_bytes}
use Rattle.ch_trace_lines.specs.Trace.{noted_at}
use Rattle.ch_trace_laws.specs.Sendable.{IsSendable, Receives}
use Rattle.ch_trace_laws.proofs.Packets.{known_name, row_sent, sound_of}

-- the names behind a step are those behind what it does by itself

pass_names : (c : Config) (s : State) → (change_pass c s).received ≡ s.received
pass_names c s = go (confirmed c s && nat_lt s.pass (passes c))
  where
    go : (b : Bool) → (if b then begin_pass s else s).received ≡ s.received
    go true = refl
    go false = refl

pub step_names : (c : Config) (s : State) (e : Event) → stopped c s ≡ false → (step c s e).received ≡ (effect c s e).received
unfolding step
step_names c s e runs = rw runs (pass_names c (count_step (effect c s e)))

followed : (fin : Bool) (f : Fate) (s : State) (x : Name) → (follow fin f s x).received ≡ s.received
followed fin fate.Dropped s x = refl
followed fin fate.Pruned s x = refl
followed fin fate.Forwarded s x = refl
followed fin fate.Passed s x = refl

met : (c : Config) (s : State) (i : ℕ) (how : How) (o : Option Packet) → (meet_at c s i how o).received ≡ s.received
met c s i how None = refl
met c s i Take (Some m) = let t = record s { up = remove s.up i } in followed (is_fin c m.name) (fate_at c t m.name) t m.name
met c s i Keep (Some m) = followed (is_fin c m.name) (fate_at c s m.name) s m.name
met c s i Lose (Some m) = refl

either_names : (b : Bool) (s x y : State) → x.received ≡ s.received → y.received ≡ s.received → (if b then x else y).received ≡ s.received
either_names true s x y a b = a
either_names false s x y a b = b

resent : (s : State) (w : ℕ) (o : Option ℕ) → (resend_this s w o).received ≡ s.received
resent s w None = refl
resent s w (Some k) = refl

learned : (s : State) (i : ℕ) (how : How) (o : Option Ack) → (learn_at s i how o).received ≡ s.received
learned s i how None = refl
learned s i Take (Some a) = let t = record s { back = remove s.back i } in either_names (is_current s.pass s.epoch a.name.pass a.epoch) t _ t refl refl
learned s i Keep (Some a) = either_names (is_current s.pass s.epoch a.name.pass a.epoch) s _ s refl refl
learned s i Lose (Some a) = refl

-- a packet that the master has, or that isn't there or is lost, adds no name
collected : (b : Bool) (s : State) (x : Name) → ((if b then Old else New) ≢ New) → (if b then s.received else x ∷ s.received) ≡ s.received
collected true s x other = refl
collected false s x other = absurd (other refl)

old_names : (s : State) (i : ℕ) (how : How) (o : Option Packet) → down_fate s how o ≢ New → (receive_at s i how o).received ≡ s.received
old_names s i how None other = refl
old_names s i Take (Some m) other = collected (has s.received m.name) s m.name other
old_names s i Keep (Some m) other = collected (has s.received m.name) s m.name other
old_names s i Lose (Some m) other = refl

effect_names : (c : Config) (s : State) (e : Event) → event_fate c s e ≢ New → (effect c s e).received ≡ s.received
effect_names c s (Send w) other = either_names (nat_lt w (workers c) && can_send c s w) s _ s refl refl
effect_names c s (Resend w place) other = either_names (nat_lt w (workers c)) s _ s (resent s w (open_at (s.next w) (s.acked w) place)) refl
effect_names c s (Up i how) other = met c s i how (slice_get s.up i)
effect_names c s (Down i how) other = old_names s i how (slice_get s.down i) other
effect_names c s (Back i how) other = learned s i how (slice_get s.back i)
effect_names c s Inject other = refl
effect_names c s Restart other = refl

pub others : (c : Config) (s : State) (x : Step) → stopped c s ≡ false → (noted_at c s x).fate ≢ New → (step c s (event_of x)).received ≡ s.received
others c s x runs other = step_names c s (event_of x) runs ∙ effect_names c s (event_of x) other

-- a new packet adds its name

added : (b : Bool) (s : State) (x : Name) → (if b then Old else New) ≡ New → (if b then s.received else x ∷ s.received) ≡ x ∷ s.received
added true s x e = absurd cc
added false s x e = refl

new_names : (s : State) (i : ℕ) (how : How) (m : Packet) → down_fate s how (Some m) ≡ New → (receive_at s i how (Some m)).received ≡ m.name ∷ s.received
new_names s i Take m e = added (has s.received m.name) s m.name e
new_names s i Keep m e = added (has s.received m.name) s m.name e
new_names s i Lose m e = absurd cc

switch_not : (f : Fate) (how : How) → unless_lost how (switch_fate f) ≡ New → ⊥
switch_not fate.Dropped Take e = cc
switch_not fate.Pruned Take e = cc
switch_not fate.Forwarded Take e = cc
switch_not fate.Passed Take e = cc
switch_not fate.Dropped Keep e = cc
switch_not fate.Pruned Keep e = cc
switch_not fate.Forwarded Keep e = cc
switch_not fate.Passed Keep e = cc
switch_not f Lose e = cc

up_not : (c : Config) (s : State) (how : How) (o : Option Packet) → up_fate c s how o ≡ New → ⊥
up_not c s how None e = cc
up_not c s how (Some m) e = switch_not (fate_at c s m.name) how e

learned_not : (b : Bool) (how : How) → unless_lost how (if b then Taken else Ignored) ≡ New → ⊥
learned_not true Take e = cc
learned_not false Take e = cc
learned_not true Keep e = cc
learned_not false Keep e = cc
learned_not b Lose e = cc

back_not : (s : State) (how : How) (o : Option Ack) → back_fate s how o ≡ New → ⊥
back_not s how None e = cc
back_not s how (Some a) e = learned_not (is_current s.pass s.epoch a.name.pass a.epoch) how e

send_not : (b : Bool) → send_fate b ≡ New → ⊥
send_not true e = cc
send_not false e = cc

resend_not : (b : Bool) (o : Option ℕ) → (if b then resend_fate o else Nothing) ≡ New → ⊥
resend_not true None e = cc
resend_not true (Some k) e = cc
resend_not false o e = cc

module _ (c : Config) (s : State) (is : IsSendable c s) where
  came_down : (i : ℕ) (how : How) (o : Option Packet) → slice_get s.down i ≡ o → down_fate s how o ≡ New → Receives c s (receive_at s i how o) (option_map (packet_bytes c) o)
  came_down i how None at e = absurd cc
  came_down i how (Some m) at e =
      let sound = sound_of c s is in
      let on = sound.down m (In-get m s.down i at) in
      let small = is.small in
      let past = on.past in
      record {
        packet = m;
        spelled = row_sent c m is.config (known_name c s m.name sound on.known) (omega (arith, small, past));
        bytes_are = refl;
        number = on.known.number;
        received = new_names s i how m e;
      }

  pub came : (x : Step) → stopped c s ≡ false → (noted_at c s x).fate ≡ New → Receives c s (step c s (event_of x)) (noted_at c s x).bytes
  came (step.Send w) runs e = absurd (send_not (nat_lt w (workers c) && can_send c s w) e)
  came (step.Resend w place) runs e = absurd (resend_not (nat_lt w (workers c)) (open_at (s.next w) (s.acked w) place) e)
  came (step.Up at how) runs e = absurd (up_not c s (how_of how) (slice_get s.up at) e)
  came (step.Down at how) runs e =
      let r = came_down at (how_of how) (slice_get s.down at) refl e in
      record { packet = r.packet; spelled = r.spelled; bytes_are = r.bytes_are; number = r.number; received = step_names c s (Down at (how_of how)) runs ∙ r.received }
  came (step.Back at how) runs e = absurd (back_not s (how_of how) (slice_get s.back at) e)
  came (step.Inject l bytes) runs e = absurd cc
  came step.Restart runs e = absurd cc
