-- The packets that the names of the protocol stand for, and their bytes on the links.
use Rattle.std.specs.Prelude.{ℕ, Bool, false, if◌then◌else◌, List, [], slice_index_or}
use Rattle.ch_packet.specs.declared.packet.Packet.{Packet as BytePacket}
use Rattle.ch_packet.specs.declared.packet.PacketKind.TheVariants.{Row as RowKind, Fin, Ack as AckKind}
use Rattle.ch_packet.specs.Spelling.{spelling}
use Rattle.ch_protocol.specs.Packets.{Part, Packet, Ack, Origin}
use Rattle.ch_protocol.specs.Packets.Origin.{Switch, Master}
use Rattle.ch_protocol.specs.Machine.{Config, row_at, is_fin}

abbrev pub no_part : Part
no_part = record { side = 0; tuples = [] }

abbrev pub side_of : Config → ℕ → ℕ
side_of c w = (slice_index_or c.parts w no_part).side

-- the Row or the Fin that a name stands for, as a packet of an epoch; a Fin names no row, and so it has no words and its bit is 0
abbrev pub packet_for : Config → Packet → BytePacket
packet_for c m = record {
  kind = if is_fin c m.name then Fin else RowKind;
  pass = m.name.pass;
  worker = m.name.worker;
  side = side_of c m.name.worker;
  number = m.name.number;
  epoch = m.epoch;
  bit = (row_at c m.name).bit;
  words = (row_at c m.name).words;
}

abbrev pub origin_code : Origin → ℕ
origin_code Switch = 0
origin_code Master = 1

abbrev pub ack_for : Ack → BytePacket
ack_for a = record {
  kind = AckKind;
  pass = a.name.pass;
  worker = a.name.worker;
  side = origin_code a.origin;
  number = a.name.number;
  epoch = a.epoch;
  bit = false;
  words = [];
}

abbrev pub packet_bytes : Config → Packet → List ℕ
packet_bytes c m = spelling (packet_for c m)

abbrev pub ack_bytes : Ack → List ℕ
ack_bytes a = spelling (ack_for a)

-- a packet of a worker
abbrev pub sent : ℕ → ℕ → ℕ → ℕ → Packet
sent pass worker number epoch = record { name = record { pass = pass; worker = worker; number = number }; epoch = epoch }
