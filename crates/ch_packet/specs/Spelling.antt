-- How a packet is written. Numbers have their highest byte first.
use Rattle.std.specs.Prelude.{ℕ, ℤ, List, [], ◌∷◌, ◌++◌, length}
use Rattle.std.specs.Int.{w16, w32, w64, to_be_bytes, cast_unsigned}
use Rattle.std.specs.List.{flat_map}
use Rattle.ch_packet.specs.Packet.{bit_code}
use Rattle.ch_packet.specs.declared.packet.PacketKind.{PacketKind}
use Rattle.ch_packet.specs.declared.packet.PacketKind.TheVariants.{Row, Fin, Ack}
use Rattle.ch_packet.specs.declared.packet.Packet.{Packet}

abbrev pub kind_code : PacketKind → ℕ
kind_code Row = 1
kind_code Fin = 2
kind_code Ack = 3

-- a signed word, as its two's complement
abbrev pub word_bytes : ℤ → List ℕ
word_bytes word = to_be_bytes w64 (cast_unsigned w64 word)

-- the seventeen bytes before the words: 0xC7, the version, and the fields
unfoldable pub head : Packet → List ℕ
head packet = (199 ∷ 2 ∷ kind_code packet.kind ∷ packet.pass ∷ [])
    ++ to_be_bytes w16 packet.worker
    ++ (packet.side ∷ length packet.words ∷ [])
    ++ to_be_bytes w32 packet.number
    ++ to_be_bytes w32 packet.epoch
    ++ (bit_code packet.bit ∷ [])

-- the bytes of a packet
unfoldable pub spelling : Packet → List ℕ
spelling packet = head packet ++ flat_map word_bytes packet.words
