-- Which packets there are.
use Rattle.std.specs.Prelude.{◌≡◌, ℕ, ◌^◌, ◌<◌, ◌≤◌, ◌⊎◌, length, All, Bool, if◌then◌else◌, FitsSigned}
use Rattle.std.specs.Int.{w64}
use Rattle.ch_packet.specs.declared.packet.PacketKind.{PacketKind}
use Rattle.ch_packet.specs.declared.packet.PacketKind.TheVariants.{Row, Fin, Ack}
use Rattle.ch_packet.specs.declared.packet.Packet.{Packet}

-- how many words a packet of a kind has at most
abbrev pub most_words : PacketKind → ℕ
most_words Row = 16
most_words Fin = 0
most_words Ack = 0

-- the greatest bit of a packet of a kind
abbrev pub most_bit : PacketKind → ℕ
most_bit Row = 1
most_bit Fin = 0
most_bit Ack = 0

-- a bit as a number
abbrev pub bit_code : Bool → ℕ
bit_code bit = if bit then 1 else 0

-- what makes the fields a packet, beside the ranges of their types
pub record IsWritable (packet : Packet) : Type 0 where
  pub pass : (packet.pass ≡ 1) ⊎ (packet.pass ≡ 2)
  pub side : packet.side ≤ 1
  pub words : length packet.words ≤ most_words packet.kind
  pub bit : bit_code packet.bit ≤ most_bit packet.kind

-- the same with those ranges
pub record IsPacket (packet : Packet) : Type 0 where
  pub writable : IsWritable packet
  pub worker : packet.worker < 2 ^ 16
  pub number : packet.number < 2 ^ 32
  pub epoch : packet.epoch < 2 ^ 32
  pub words : All (FitsSigned w64) packet.words
