-- What is spelled for a packet is bytes.
use Rattle.std.proofs.Common.{◌≡◌, ◌<◌, ◌≤◌, ℕ, zero, suc, ℤ, arith, List, [], ◌∷◌, ◌++◌, length, Bool, true, false, inl, inr}
use Rattle.std.specs.Prelude.{flat_map, None}
use Rattle.std.specs.Int.{byte_at, bytes_high_first, w16, w32, w64, to_be_bytes, cast_unsigned}
use Rattle.ch_packet.proofs.Heads.{IsSound-spelling, fault_of-sound}
use Rattle.ch_packet.specs.Fault.{fault_of}
use Rattle.ch_packet.specs.Packet.{IsPacket, bit_code, most_words}
use Rattle.ch_packet.specs.Spelling.{head, kind_code, spelling, word_bytes}
use Rattle.ch_packet.specs.declared.packet.Packet.{Packet}
use Rattle.ch_packet.specs.declared.packet.PacketKind.{PacketKind}
use Rattle.ch_packet.specs.declared.packet.PacketKind.TheVariants.{Row, Fin, Ack}
use Rattle.ch_trace_lines.specs.Range.{AreBytes}

append : (a b : List ℕ) → AreBytes a → AreBytes b → AreBytes (a ++ b)
append [] b h k = k
append (x ∷ a) b h k = (h.0, append a b h.1 k)

below : (i n : ℕ) → byte_at i n < 256
below zero n = omega arith
below (suc i) n = omega arith

high : (k n : ℕ) → AreBytes (bytes_high_first k n)
high zero n = tt
high (suc k) n = (below k n, high k n)

words : (ws : List ℤ) → AreBytes (flat_map word_bytes ws)
words [] = tt
words (w ∷ ws) = append (word_bytes w) (flat_map word_bytes ws) (high 8 (cast_unsigned w64 w)) (words ws)

kind_below : (k : PacketKind) → kind_code k < 256
kind_below Row = omega arith
kind_below Fin = omega arith
kind_below Ack = omega arith

bit_below : (b : Bool) → bit_code b < 256
bit_below true = omega arith
bit_below false = omega arith

words_below : (k : PacketKind) (n : ℕ) → n ≤ most_words k → n < 256
words_below Row n le = omega (arith, le)
words_below Fin n le = omega (arith, le)
words_below Ack n le = omega (arith, le)

six : (a b c d e f : List ℕ) → AreBytes a → AreBytes b → AreBytes c → AreBytes d → AreBytes e → AreBytes f → AreBytes (a ++ b ++ c ++ d ++ e ++ f)
six a b c d e f g h i j k l = append (a ++ b ++ c ++ d ++ e) f (append (a ++ b ++ c ++ d) e (append (a ++ b ++ c) d (append (a ++ b) c (append a b g h) i) j) k) l

head_bytes : (p : Packet) → IsPacket p → AreBytes (head p)
unfolding head
head_bytes p is =
    let pass : p.pass < 256 = elim is.writable.pass [ inl e ↦ omega (arith, e) | inr e ↦ omega (arith, e) ] in
    let side : p.side < 256 = omega (arith, is.writable.side) in
    let first : AreBytes (199 ∷ 2 ∷ kind_code p.kind ∷ p.pass ∷ []) = (omega arith, (omega arith, (kind_below p.kind, (pass, tt)))) in
    let count : AreBytes (p.side ∷ length p.words ∷ []) = (side, (words_below p.kind (length p.words) is.writable.words, tt)) in
    let bit : AreBytes (bit_code p.bit ∷ []) = (bit_below p.bit, tt) in
    six (199 ∷ 2 ∷ kind_code p.kind ∷ p.pass ∷ []) (to_be_bytes w16 p.worker) (p.side ∷ length p.words ∷ []) (to_be_bytes w32 p.number) (to_be_bytes w32 p.epoch) (bit_code p.bit ∷ [])
    first (high 2 p.worker) count (high 4 p.number) (high 4 p.epoch) bit

-- a packet's spelling is bytes that `view` accepts
pub spelled_bytes : (p : Packet) → IsPacket p → AreBytes (spelling p)
unfolding spelling
spelled_bytes p is = append (head p) (flat_map word_bytes p.words) (head_bytes p is) (words p.words)

pub spelled_sound : (p : Packet) → IsPacket p → fault_of (spelling p) ≡ None
spelled_sound p is = fault_of-sound p.kind (spelling p) (IsSound-spelling p is)
