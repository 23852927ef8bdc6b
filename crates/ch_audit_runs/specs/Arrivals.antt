-- The rows that the master received, as a check keeps them.
use Rattle.std.specs.Prelude.{◌≡◌, nat_lt, List, [], ◌∷◌, map, filter, reverse, Option, Some, None}
use Rattle.ch_packet.specs.declared.packet.Packet.{Packet}
use Rattle.ch_packet.specs.declared.packet.PacketKind.{PacketKind}
use Rattle.ch_packet.specs.declared.packet.PacketKind.TheVariants.{Row, Fin, Ack}
use Rattle.ch_protocol.specs.Machine.{Config, State, size}
use Rattle.ch_protocol.specs.Packets.{Name}
use Rattle.ch_audit_runs.specs.declared.arrival.Arrival.{Arrival}

abbrev pub name_of : Arrival → Name
name_of a = record { pass = a.pass; worker = a.worker; number = a.number }

abbrev pub listed : Option Arrival → List Arrival
listed None = []
listed (Some a) = a ∷ []

abbrev pub row_by : PacketKind → Arrival → Option Arrival
row_by Row a = Some a
row_by Fin a = None
row_by Ack a = None

-- the row that a packet is of
abbrev pub row_in : Packet → Option Arrival
row_in p = row_by p.kind (record { pass = p.pass; worker = p.worker; number = p.number })

-- the names of rows among those that were received, the oldest first
abbrev pub rows_named : Config → List Name → List Name
rows_named c received = filter (λ x. nat_lt x.number (size c x.worker)) (reverse received)

-- what is kept are the rows that the master received, of each pass, in the order in which they came
abbrev pub AreKept : Config → State → List Arrival → Type 0
AreKept c s rows = map name_of rows ≡ rows_named c s.received
