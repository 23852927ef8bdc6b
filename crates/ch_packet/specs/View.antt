-- What a view shows.
use Rattle.std.specs.Prelude.{◌≡◌, ℕ, ℤ, zero, suc, ◌*◌, ◌/◌, List, [], ◌∷◌, length, take, drop}
use Rattle.std.specs.Int.{w64, from_be_bytes, cast_signed}
use Rattle.ch_packet.specs.Packet.{IsWritable}
use Rattle.ch_packet.specs.declared.packet.Packet.{Packet}
use Rattle.ch_packet.specs.declared.packet_view.PacketView.{PacketView}

-- eight bytes as a signed word
abbrev pub word_of : List ℕ → ℤ
word_of bytes = cast_signed w64 (from_be_bytes w64 bytes)

-- the first n words of a body
abbrev pub words_from : ℕ → List ℕ → List ℤ
words_from zero body = []
words_from (suc n) body = word_of (take 8 body) ∷ words_from n (drop 8 body)

-- the words of a body
unfoldable pub words_of : List ℕ → List ℤ
words_of body = words_from (length body / 8) body

-- the packet that a view shows
abbrev pub packet_of : PacketView → Packet
packet_of view = record {
  kind = view.kind;
  pass = view.pass;
  worker = view.worker;
  side = view.side;
  number = view.number;
  epoch = view.epoch;
  bit = view.bit;
  words = words_of view.body.now;
}

-- a view as it is made of bytes
pub record IsView (view : PacketView) : Type 0 where
  pub writable : IsWritable (packet_of view)
  pub whole : length view.body.now ≡ 8 * length (words_of view.body.now)
