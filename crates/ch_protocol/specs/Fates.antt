-- What becomes of each event of a run.
use Rattle.std.specs.Prelude.{ℕ, nat_lt, Bool, true, false, ◌&&◌, if◌then◌else◌, List, [], ◌∷◌, Option, Some, None, slice_get}
use Rattle.ch_protocol.specs.Packets.{Packet, Ack}
use Rattle.ch_protocol.specs.Sender.{open_at, is_current}
use Rattle.ch_protocol.specs.Receiver.{has}
use Rattle.ch_protocol.specs.Machine.{Config, State, Event, How, workers, can_send, fate_at, step}
use Rattle.ch_protocol.specs.Machine.How.{Take, Keep, Lose}
use Rattle.ch_protocol.specs.Machine.Event.{Send, Resend, Up, Down, Back, Inject, Restart}
use Rattle.ch_protocol.specs.declared.fate.Fate.{Fate}
use Rattle.ch_protocol.specs.declared.fate.Fate.TheVariants as fate
use Rattle.ch_protocol.specs.declared.fate.NoteFate.{NoteFate}
use Rattle.ch_protocol.specs.declared.fate.NoteFate.TheVariants.{Nothing, Sent, Dropped, Pruned, Forwarded, Passed, New, Old, Taken, Ignored, Lost, Injected, Restarted}

abbrev pub switch_fate : Fate → NoteFate
switch_fate fate.Dropped = Dropped
switch_fate fate.Pruned = Pruned
switch_fate fate.Forwarded = Forwarded
switch_fate fate.Passed = Passed

abbrev pub unless_lost : How → NoteFate → NoteFate
unless_lost Take note = note
unless_lost Keep note = note
unless_lost Lose note = Lost

abbrev pub send_fate : Bool → NoteFate
send_fate can = if can then Sent else Nothing

abbrev pub resend_fate : Option ℕ → NoteFate
resend_fate None = Nothing
resend_fate (Some k) = Sent

abbrev pub up_fate : Config → State → How → Option Packet → NoteFate
up_fate c s how None = Nothing
up_fate c s how (Some m) = unless_lost how (switch_fate (fate_at c s m.name))

abbrev pub down_fate : State → How → Option Packet → NoteFate
down_fate s how None = Nothing
down_fate s how (Some m) = unless_lost how (if has s.received m.name then Old else New)

abbrev pub back_fate : State → How → Option Ack → NoteFate
back_fate s how None = Nothing
back_fate s how (Some a) = unless_lost how (if is_current s.pass s.epoch a.name.pass a.epoch then Taken else Ignored)

-- what becomes of an event in a state where the run hasn't stopped
abbrev pub event_fate : Config → State → Event → NoteFate
event_fate c s (Send w) = send_fate (nat_lt w (workers c) && can_send c s w)
event_fate c s (Resend w place) = if nat_lt w (workers c) then resend_fate (open_at (s.next w) (s.acked w) place) else Nothing
event_fate c s (Up i how) = up_fate c s how (slice_get s.up i)
event_fate c s (Down i how) = down_fate s how (slice_get s.down i)
event_fate c s (Back i how) = back_fate s how (slice_get s.back i)
event_fate c s Inject = Injected
event_fate c s Restart = Restarted

-- the fates of a list of events, one after the other
abbrev pub fates : Config → List Event → State → List NoteFate
fates c [] s = []
fates c (e ∷ es) s = event_fate c s e ∷ fates c es (step c s e)

-- whether the event does something but to be counted
abbrev pub is_made : NoteFate → Bool
is_made Nothing = false
is_made Sent = true
is_made Dropped = true
is_made Pruned = true
is_made Forwarded = true
is_made Passed = true
is_made New = true
is_made Old = true
is_made Taken = true
is_made Ignored = true
is_made Lost = true
is_made Injected = true
is_made Restarted = true
