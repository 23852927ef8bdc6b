use Rattle.std.proofs.Common.{◌≡◌, ℕ, List, ◌++◌, length, append_assoc}
use Rattle.ch_packet.specs.Packet.{bit_code}
use Rattle.ch_packet.specs.Spelling.{head, kind_code}
use Rattle.ch_packet.proofs.packet.write_head.Goals as goal

-- six pieces, one after the other
pieces : (old a b c d e f o1 o2 o3 o4 o5 o6 : List ℕ) → o1 ≡ old ++ a → o2 ≡ o1 ++ b → o3 ≡ o2 ++ c → o4 ≡ o3 ++ d → o5 ≡ o4 ++ e → o6 ≡ o5 ++ f
    → o6 ≡ old ++ (((((a ++ b) ++ c) ++ d) ++ e) ++ f)
pieces old a b c d e f o1 o2 o3 o4 o5 o6 p1 p2 p3 p4 p5 p6 = rw (p6, p5, p4, p3, p2, p1) (simp append_assoc)

pub returns : goal.returns
unfolding head
returns c =
    let kind : c.kind_code.result ≡ kind_code c.args.packet.now.kind = c.kind_code.ensures in
    let count : c.len-count.result ≡ length c.args.packet.now.words = c.len-count.ensures in
    let bit : c.bit_code.result ≡ bit_code c.args.packet.now.bit = c.bit_code.ensures in
    rw (← kind, ← count, ← bit)
    (pieces _ _ _ _ _ _ _ _ _ _ _ _ _ c.in_ok-write_all.ensures.bytes c.in_ok-write_u16.ensures.bytes c.in_ok-write_all-2.ensures.bytes
    c.in_ok-write_u32.ensures.bytes c.in_ok-write_u32-2.ensures.bytes c.in_ok-write_u8.ensures.bytes)
