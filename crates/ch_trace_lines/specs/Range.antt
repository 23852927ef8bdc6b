-- What a line can say: numbers of 32 bits, packets that are packets and injects that are none, and a fate that the event can
-- have.
use Rattle.std.specs.Prelude.{◌≡◌, ◌≤◌, ◌<◌, ◌^◌, ℕ, true, is_some, List, length, Option, Some, None}
use Rattle.std.specs.List.{AllByRecursion}
use Rattle.ch_lists.specs.Members.{In}
use Rattle.ch_packet.specs.Fault.{fault_of}
use Rattle.ch_protocol.specs.declared.fate.NoteFate.{NoteFate}
use Rattle.ch_protocol.specs.declared.fate.NoteFate.TheVariants.{Nothing, Sent, Injected, Restarted}
use Rattle.ch_schedule.specs.declared.step.Link.TheVariants as link
use Rattle.ch_schedule.specs.declared.step.Step.{Step}
use Rattle.ch_schedule.specs.declared.step.Step.TheVariants as step
use Rattle.ch_trace_lines.specs.Fates.{fates_for}
use Rattle.ch_trace_lines.specs.declared.line.Line.{Line}
use Rattle.ch_trace_lines.specs.declared.line.Line.TheVariants.{Event, End}

abbrev pub AreBytes : List ℕ → Type 0
AreBytes bytes = AllByRecursion (λ b. b < 256) bytes

-- bytes that `view` accepts
abbrev pub IsPacket : Option (List ℕ) → Type 0
IsPacket None = Unit {0}
IsPacket (Some bytes) = (fault_of bytes ≡ None) × AreBytes bytes

-- bytes that a link may give: at most 256, and no packet
abbrev pub IsGiven : List ℕ → Type 0
IsGiven bytes = (length bytes ≤ 256) × (is_some (fault_of bytes) ≡ true) × AreBytes bytes

-- what becomes of a send and a resend
abbrev pub sent_of : Option (List ℕ) → NoteFate
sent_of None = Nothing
sent_of (Some bytes) = Sent

abbrev pub IsNumber : ℕ → Type 0
IsNumber n = n < 2 ^ 32

abbrev pub IsEvent : Step → Option (List ℕ) → NoteFate → Type 0
IsEvent (step.Send worker) packet fate = IsNumber worker × IsPacket packet × (fate ≡ sent_of packet)
IsEvent (step.Resend worker place) packet fate = IsNumber worker × IsNumber place × IsPacket packet × (fate ≡ sent_of packet)
IsEvent (step.Up at how) packet fate = IsNumber at × IsPacket packet × In fate (fates_for link.Up how (is_some packet))
IsEvent (step.Down at how) packet fate = IsNumber at × IsPacket packet × In fate (fates_for link.Down how (is_some packet))
IsEvent (step.Back at how) packet fate = IsNumber at × IsPacket packet × In fate (fates_for link.Back how (is_some packet))
IsEvent (step.Inject l bytes) packet fate = IsGiven bytes × (packet ≡ None) × (fate ≡ Injected)
IsEvent step.Restart packet fate = (packet ≡ None) × (fate ≡ Restarted)

abbrev pub IsLine : Line → Type 0
IsLine (Event noted) = IsEvent noted.step noted.bytes noted.fate
IsLine (End ending) = Unit {0}
