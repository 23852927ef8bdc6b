-- Bytes that spell a packet, and what the parties make of it.
use Rattle.std.specs.Prelude.{◌≡◌, ◌≢◌, ◌==◌, ◌&&◌, nat_lt, ℕ, Bool, false, List, [], slice_index_or, slice_set, if◌then◌else◌}
use Rattle.ch_ends.specs.Master.{Receipts, IsThere, Stands}
use Rattle.ch_ends.specs.Worker.{Progress, IsAt, acked_of}
use Rattle.ch_protocol.specs.Packets.{Name}
use Rattle.ch_protocol.specs.Receiver.{collect}
use Rattle.ch_protocol.specs.Sender.{is_current, acknowledge}
use Rattle.ch_switch.specs.Switching.{is_row}
use Rattle.ch_packet.specs.declared.packet.Packet.{Packet}
use Rattle.ch_packet.specs.declared.packet.PacketKind.TheVariants.{Ack}
use Rattle.ch_packet.specs.Packet.{IsPacket}
use Rattle.ch_packet.specs.Spelling.{spelling}

abbrev pub IsSpelled : List ℕ → Type 0
IsSpelled bytes = (p : Packet) × IsPacket p × (bytes ≡ spelling p)

-- the acknowledgement of a packet, by who sends it and with its epoch
abbrev pub ack_of : Packet → ℕ → ℕ → Packet
ack_of p origin epoch = record { kind = Ack; pass = p.pass; worker = p.worker; side = origin; number = p.number; epoch = epoch; bit = false; words = [] }

abbrev pub name_in : Packet → Name
name_in p = record { pass = p.pass; worker = p.worker; number = p.number }

-- a row of this pass
abbrev pub is_row_of : ℕ → Packet → Bool
is_row_of pass p = is_row p.kind && (p.pass == pass)

-- the master has a bit for it
pub record MayTake (r : Receipts) (p : Packet) : Type 0 where
  pub sent : p.kind ≢ Ack
  pub there : IsThere r (name_in p)

-- the receipts with one more name
abbrev pub Collects : Receipts → Receipts → Name → Type 0
Collects old new x = (received : List Name) → Stands old received → Stands new (collect received x)

-- one worker has learned of an acknowledgement, and the others are as they were
pub record Learns (old new : List Progress) (p : Packet) : Type 0 where
  pub worker : Progress
  pub is : new ≡ slice_set old p.worker worker
  pub at : (d : Progress) → let w = slice_index_or old p.worker d in IsAt worker w.rows w.window w.pass w.epoch w.next
      (if is_current w.pass w.epoch p.pass p.epoch && nat_lt p.number w.next then acknowledge p.number (acked_of w) else acked_of w)
