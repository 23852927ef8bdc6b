-- The seventeen bytes before the words.
use Rattle.std.proofs.Common.{◌≡◌, ℕ, ◌+◌, ◌*◌, ◌/◌, ◌^◌, ◌<◌, ◌≤◌, List, [], ◌∷◌, ◌++◌, length, take, drop, ◌⊎◌, zero, suc, lit≤, Bool, true, false, None, Some, Option, refl, ap, sym, length-drop, subst, ◌∙◌, arith, inl, inr}
use Rattle.std.specs.Prelude.{◌==◌, ◌||◌, slice_index, nat_eq, nat_lt, not, if◌then◌else◌}
use Rattle.std.specs.Int.{w16, w32, to_be_bytes, from_be_bytes}
use Rattle.std.specs.List.{flat_map}
use Rattle.std.proofs.Math.Nat.{div-eq_of_eq-mul_right}
use Rattle.std.proofs.lemmas.Bool.{cases_lt}
use Rattle.std.proofs.lemmas.Bool.Decides.{nat_tests}
use Rattle.std.proofs.lemmas.Nat.{be_bytes_2, be_bytes_4, from_be_bytes-to_be_bytes_2, from_be_bytes-to_be_bytes_4}
use Rattle.ch_packet.specs.Fault.{kind_of, fault_of, fault_after_kind, AreSound, IsSound}
use Rattle.ch_packet.specs.Packet.{IsPacket, bit_code, most_bit, most_words}
use Rattle.ch_packet.specs.Spelling.{kind_code, word_bytes, head, spelling}
use Rattle.ch_packet.specs.View.{words_of, packet_of, IsView}
use Rattle.ch_packet.specs.declared.packet_view.PacketView.{PacketView}
use Rattle.ch_packet.specs.declared.packet.PacketKind.{PacketKind}
use Rattle.ch_packet.specs.declared.packet.PacketKind.TheVariants.{Row, Fin, Ack}
use Rattle.ch_packet.specs.declared.packet.Packet.{Packet}
use Rattle.ch_packet.specs.declared.packet_view.PacketError.{PacketError}
use Rattle.ch_packet.specs.declared.packet_view.PacketError.TheVariants.{Short, Magic, Version, Pass, Side, Count, Bit, Length}
use Rattle.ch_packet.proofs.Words.{AreBytes, AreBytes-take, AreBytes-drop, flat_map-words_from, length-words_from, length-flat_map-word_bytes, words_fit, words_of-flat_map}

-- the packet whose fields stand in these bytes
abbrev pub decoded : PacketKind → List ℕ → Packet
decoded kind bytes = record {
  kind = kind;
  pass = slice_index bytes 3;
  worker = from_be_bytes w16 (slice_index bytes 4 ∷ slice_index bytes 5 ∷ []);
  side = slice_index bytes 6;
  number = from_be_bytes w32 (slice_index bytes 8 ∷ slice_index bytes 9 ∷ slice_index bytes 10 ∷ slice_index bytes 11 ∷ []);
  epoch = from_be_bytes w32 (slice_index bytes 12 ∷ slice_index bytes 13 ∷ slice_index bytes 14 ∷ slice_index bytes 15 ∷ []);
  bit = nat_eq (slice_index bytes 16) 1;
  words = words_of (drop 17 bytes);
}

-- with too few bytes some field is broken
short_fault : (few magic version short : Bool) (other : Option PacketError) → short ≡ true
    → (if few then Some Short else if magic then Some Magic else if version then Some Version else if short then Some Short else other) ≡ None → ⊥
short_fault true magic version short other is none = cc
short_fault false true version short other is none = cc
short_fault false false true short other is none = cc
short_fault false false false true other is none = cc
short_fault false false false false other is none = cc

-- bytes that are accepted have a whole head
pub fault_of-long : (bytes : List ℕ) → fault_of bytes ≡ None → 17 ≤ length bytes
unfolding fault_of
fault_of-long bytes none = elim (cases_lt (length bytes) 17) [
  | inl short ↦ (let few : nat_lt (length bytes) 17 ≡ true = grind (arith, nat_tests) in absurd (short_fault _ _ _ _ _ few none))
  | inr long ↦ long
]

bit_code-back : (bit : Bool) → nat_eq (bit_code bit) 1 ≡ bit
bit_code-back true = refl
bit_code-back false = refl

bit_code-of : (code : ℕ) → code ≤ 1 → bit_code (nat_eq code 1) ≡ code
bit_code-of zero small = refl
bit_code-of (suc zero) small = refl
bit_code-of (suc (suc code)) small = absurd (omega arith)

-- what a spelling decodes to
pub decoded-spelling : (packet : Packet) → IsPacket packet → decoded packet.kind (spelling packet) ≡ packet
unfolding spelling head
decoded-spelling packet is =
    let worker : from_be_bytes w16 (to_be_bytes w16 packet.worker) ≡ packet.worker = from_be_bytes-to_be_bytes_2 packet.worker is.worker in
    let number : from_be_bytes w32 (to_be_bytes w32 packet.number) ≡ packet.number = from_be_bytes-to_be_bytes_4 packet.number is.number in
    let epoch : from_be_bytes w32 (to_be_bytes w32 packet.epoch) ≡ packet.epoch = from_be_bytes-to_be_bytes_4 packet.epoch is.epoch in
    let words : words_of (flat_map word_bytes packet.words) ≡ packet.words = words_of-flat_map packet.words is.words in
    let bit : nat_eq (bit_code packet.bit) 1 ≡ packet.bit = bit_code-back packet.bit in
    λ i. record {
      kind = packet.kind;
      pass = packet.pass;
      worker = worker i;
      side = packet.side;
      number = number i;
      epoch = epoch i;
      bit = bit i;
      words = words i;
    }

-- which test picked a kind
picked : (row fin ack : Bool) (kind : PacketKind) → (if row then Some Row else if fin then Some Fin else if ack then Some Ack else None) ≡ Some kind
    → ((row ≡ true) × (kind ≡ Row)) ⊎ (((fin ≡ true) × (kind ≡ Fin)) ⊎ ((ack ≡ true) × (kind ≡ Ack)))
picked true fin ack kind is = inl (refl, cc)
picked false true ack kind is = inr (inl (refl, cc))
picked false false true kind is = inr (inr (refl, cc))
picked false false false kind is = cc

kind_code-of : (code : ℕ) (kind : PacketKind) → kind_of code ≡ Some kind → kind_code kind ≡ code
kind_code-of code kind known = elim (picked (code == 1) (code == 2) (code == 3) kind known) [
  | inl row ↦ (let test : (code == 1) ≡ true = row.0 in let is : code ≡ 1 = grind (arith, nat_tests) in ap kind_code row.1 ∙ sym is)
  | inr other ↦ elim other [
    | inl fin ↦ (let test : (code == 2) ≡ true = fin.0 in let is : code ≡ 2 = grind (arith, nat_tests) in ap kind_code fin.1 ∙ sym is)
    | inr ack ↦ (let test : (code == 3) ≡ true = ack.0 in let is : code ≡ 3 = grind (arith, nat_tests) in ap kind_code ack.1 ∙ sym is)
  ]
]

kind_of-kind_code : (kind : PacketKind) → kind_of (kind_code kind) ≡ Some kind
kind_of-kind_code Row = refl
kind_of-kind_code Fin = refl
kind_of-kind_code Ack = refl

most_bit-le : (kind : PacketKind) → most_bit kind ≤ 1
most_bit-le Row = lit≤ tt
most_bit-le Fin = lit≤ tt
most_bit-le Ack = lit≤ tt

-- the words of a body of n words, and their bytes
length-words_of : (n : ℕ) (body : List ℕ) → length body ≡ 8 * n → length (words_of body) ≡ n
unfolding words_of
length-words_of n body whole = length-words_from (length body / 8) body ∙ div-eq_of_eq-mul_right (omega arith) whole

flat_map-words_of : (n : ℕ) (body : List ℕ) → length body ≡ 8 * n → AreBytes body → flat_map word_bytes (words_of body) ≡ body
unfolding words_of
flat_map-words_of n body whole are =
    let count : length body / 8 ≡ n = div-eq_of_eq-mul_right (omega arith) whole in
    rw count (flat_map-words_from n body whole are)

-- the spelling of what sound bytes decode to
pub spelling-decoded : (kind : PacketKind) (bytes : List ℕ) → AreBytes bytes → IsSound kind bytes → spelling (decoded kind bytes) ≡ bytes
unfolding spelling head
spelling-decoded kind (b0 ∷ b1 ∷ b2 ∷ b3 ∷ b4 ∷ b5 ∷ b6 ∷ b7 ∷ b8 ∷ b9 ∷ b10 ∷ b11 ∷ b12 ∷ b13 ∷ b14 ∷ b15 ∷ b16 ∷ body) are sound =
    let bytes : List ℕ = b0 ∷ b1 ∷ b2 ∷ b3 ∷ b4 ∷ b5 ∷ b6 ∷ b7 ∷ b8 ∷ b9 ∷ b10 ∷ b11 ∷ b12 ∷ b13 ∷ b14 ∷ b15 ∷ b16 ∷ body in
    let whole : length body ≡ 8 * b7 = omega (arith, sound.others.whole) in
    let magic : 199 ≡ b0 = sym sound.magic in
    let version : 2 ≡ b1 = sym sound.version in
    let code : kind_code kind ≡ b2 = kind_code-of b2 kind sound.known in
    let worker : to_be_bytes w16 (from_be_bytes w16 (b4 ∷ b5 ∷ [])) ≡ b4 ∷ b5 ∷ []
    = be_bytes_2 (b4 ∷ b5 ∷ []) _ refl (AreBytes-take 2 _ (AreBytes-drop 4 bytes are)).each refl in
    let count : length (words_of body) ≡ b7 = length-words_of b7 body whole in
    let number : to_be_bytes w32 (from_be_bytes w32 (b8 ∷ b9 ∷ b10 ∷ b11 ∷ [])) ≡ b8 ∷ b9 ∷ b10 ∷ b11 ∷ []
    = be_bytes_4 (b8 ∷ b9 ∷ b10 ∷ b11 ∷ []) _ refl (AreBytes-take 4 _ (AreBytes-drop 8 bytes are)).each refl in
    let epoch : to_be_bytes w32 (from_be_bytes w32 (b12 ∷ b13 ∷ b14 ∷ b15 ∷ [])) ≡ b12 ∷ b13 ∷ b14 ∷ b15 ∷ []
    = be_bytes_4 (b12 ∷ b13 ∷ b14 ∷ b15 ∷ []) _ refl (AreBytes-take 4 _ (AreBytes-drop 12 bytes are)).each refl in
    let bit : bit_code (nat_eq b16 1) ≡ b16 = bit_code-of b16 (omega (arith, sound.others.bit, most_bit-le kind)) in
    let words : flat_map word_bytes (words_of body) ≡ body = flat_map-words_of b7 body whole (AreBytes-drop 17 bytes are) in
    λ i. (magic i ∷ version i ∷ code i ∷ b3 ∷ []) ++ worker i ++ (b6 ∷ count i ∷ []) ++ number i ++ epoch i ++ (bit i ∷ []) ++ words i
spelling-decoded kind _ are sound = absurd (omega (arith, sound.long))

-- the spelling of a packet is sound
pub IsSound-spelling : (packet : Packet) → IsPacket packet → IsSound packet.kind (spelling packet)
unfolding spelling head
IsSound-spelling packet is =
    let body : length (flat_map word_bytes packet.words) ≡ 8 * length packet.words = length-flat_map-word_bytes packet.words in
    record {
      long = omega arith;
      magic = refl;
      version = refl;
      known = kind_of-kind_code packet.kind;
      others = record {
        pass = is.writable.pass;
        side = is.writable.side;
        count = is.writable.words;
        bit = is.writable.bit;
        whole = omega arith;
      };
    }

either : (a b : Bool) → (a ≡ true) ⊎ (b ≡ true) → (a || b) ≡ true
either true b one = refl
either false b one = elim one [ inl a ↦ cc | inr b-true ↦ b-true ]

-- sound bytes have no broken field
pub fault_of-sound : (kind : PacketKind) (bytes : List ℕ) → IsSound kind bytes → fault_of bytes ≡ None
unfolding fault_of
fault_of-sound kind bytes sound =
    let others : AreSound kind bytes = sound.others in
    let few : nat_lt (length bytes) 2 ≡ false = grind (arith, nat_tests) in
    let magic : (slice_index bytes 0 == 199) ≡ true = grind (arith, nat_tests) in
    let version : (slice_index bytes 1 == 2) ≡ true = grind (arith, nat_tests) in
    let short : nat_lt (length bytes) 17 ≡ false = grind (arith, nat_tests) in
    let pass : (slice_index bytes 3 == 1 || slice_index bytes 3 == 2) ≡ true
    = either (slice_index bytes 3 == 1) (slice_index bytes 3 == 2) (elim others.pass as (λ _. ((slice_index bytes 3 == 1) ≡ true) ⊎ ((slice_index bytes 3 == 2) ≡ true)) [
      | inl one ↦ inl (grind (arith, nat_tests))
      | inr two ↦ inr (grind (arith, nat_tests))
    ]) in
    let side : nat_lt 1 (slice_index bytes 6) ≡ false = grind (arith, nat_tests) in
    let count : nat_lt (most_words kind) (slice_index bytes 7) ≡ false = grind (arith, nat_tests) in
    let bit : nat_lt (most_bit kind) (slice_index bytes 16) ≡ false = grind (arith, nat_tests) in
    let whole : (length bytes == 17 + 8 * slice_index bytes 7) ≡ true = grind (arith, nat_tests) in
    rw (few, magic, version, short, sound.known, pass, side, count, bit, whole) refl

passed_first : (few magic version short : Bool) (other : Option PacketError)
    → (if few then Some Short else if not magic then Some Magic else if not version then Some Version else if short then Some Short else other) ≡ None
    → (magic ≡ true) × (version ≡ true) × (other ≡ None)
passed_first true magic version short other none = cc
passed_first false false version short other none = cc
passed_first false true false short other none = cc
passed_first false true true true other none = cc
passed_first false true true false other none = (refl, refl, none)

passed_others : (pass side count bit whole : Bool)
    → (if not pass then Some Pass else if side then Some Side else if count then Some Count else if bit then Some Bit else if not whole then Some Length else None) ≡ None
    → (pass ≡ true) × (side ≡ false) × (count ≡ false) × (bit ≡ false) × (whole ≡ true)
passed_others false side count bit whole none = cc
passed_others true true count bit whole none = cc
passed_others true false true bit whole none = cc
passed_others true false false true whole none = cc
passed_others true false false false false none = cc
passed_others true false false false true none = (refl, refl, refl, refl, refl)

one_of : (a b : Bool) → (a || b) ≡ true → (a ≡ true) ⊎ (b ≡ true)
one_of true b either_one = inl refl
one_of false b either_one = inr either_one

-- fields after the kind that have no fault
others_sound : (kind : PacketKind) (bytes : List ℕ) → fault_after_kind (Some kind) bytes ≡ None → AreSound kind bytes
others_sound kind bytes none =
    let passed = passed_others (slice_index bytes 3 == 1 || slice_index bytes 3 == 2) (nat_lt 1 (slice_index bytes 6)) (nat_lt (most_words kind) (slice_index bytes 7))
    (nat_lt (most_bit kind) (slice_index bytes 16)) (length bytes == 17 + 8 * slice_index bytes 7) none in
    let side : nat_lt 1 (slice_index bytes 6) ≡ false = passed.1 in
    let count : nat_lt (most_words kind) (slice_index bytes 7) ≡ false = passed.2 in
    let bit : nat_lt (most_bit kind) (slice_index bytes 16) ≡ false = passed.3 in
    let whole : (length bytes == 17 + 8 * slice_index bytes 7) ≡ true = passed.4 in
    record {
      pass = elim (one_of (slice_index bytes 3 == 1) (slice_index bytes 3 == 2) passed.0) [
        | inl one ↦ inl (grind (arith, nat_tests))
        | inr two ↦ inr (grind (arith, nat_tests))
      ];
      side = grind (arith, nat_tests);
      count = grind (arith, nat_tests);
      bit = grind (arith, nat_tests);
      whole = grind (arith, nat_tests);
    }

-- a kind was there
known_kind : (kind : Option PacketKind) (bytes : List ℕ) → fault_after_kind kind bytes ≡ None → (k : PacketKind) × (kind ≡ Some k)
known_kind None bytes none = cc
known_kind (Some k) bytes none = (k, refl)

-- bytes with no broken field are sound
pub sound-fault_of : (bytes : List ℕ) → fault_of bytes ≡ None → (kind : PacketKind) × IsSound kind bytes
unfolding fault_of
sound-fault_of bytes none =
    let first = passed_first (nat_lt (length bytes) 2) (slice_index bytes 0 == 199) (slice_index bytes 1 == 2) (nat_lt (length bytes) 17)
    (fault_after_kind (kind_of (slice_index bytes 2)) bytes) none in
    let known = known_kind (kind_of (slice_index bytes 2)) bytes first.2 in
    let others : fault_after_kind (Some known.0) bytes ≡ None = ap (λ kind. fault_after_kind kind bytes) (sym known.1) ∙ first.2 in
    let magic : (slice_index bytes 0 == 199) ≡ true = first.0 in
    let version : (slice_index bytes 1 == 2) ≡ true = first.1 in (
      known.0,
      record {
        long = fault_of-long bytes none;
        magic = grind (arith, nat_tests);
        version = grind (arith, nat_tests);
        known = known.1;
        others = others_sound known.0 bytes others;
      },
    )

-- bytes spell at most one packet
pub spelling-once : (a b : Packet) → IsPacket a → IsPacket b → spelling a ≡ spelling b → a ≡ b
spelling-once a b is_a is_b same =
    let known_a : kind_of (slice_index (spelling a) 2) ≡ Some a.kind = (IsSound-spelling a is_a).known in
    let known_b : kind_of (slice_index (spelling b) 2) ≡ Some b.kind = (IsSound-spelling b is_b).known in
    let kinds : kind_of (slice_index (spelling a) 2) ≡ kind_of (slice_index (spelling b) 2) = ap (λ bytes. kind_of (slice_index bytes 2)) same in
    let kind : a.kind ≡ b.kind = cc in
    sym (decoded-spelling a is_a) ∙ (λ i. decoded (kind i) (same i)) ∙ decoded-spelling b is_b

from_be_bytes_2-below : (x y : ℕ) → x < 256 → y < 256 → from_be_bytes w16 (x ∷ y ∷ []) < 2 ^ 16
from_be_bytes_2-below x y p q = omega arith

from_be_bytes_4-below : (x y z t : ℕ) → x < 256 → y < 256 → z < 256 → t < 256 → from_be_bytes w32 (x ∷ y ∷ z ∷ t ∷ []) < 2 ^ 32
from_be_bytes_4-below x y z t p q r s = omega arith

-- the bytes after the head are eight for each word
pub body-whole : (kind : PacketKind) (bytes : List ℕ) → IsSound kind bytes → length (drop 17 bytes) ≡ 8 * slice_index bytes 7
body-whole kind bytes sound = omega (arith, length-drop 17 bytes, sound.others.whole)

-- what sound bytes decode to is a packet
pub IsPacket-decoded : (kind : PacketKind) (bytes : List ℕ) → AreBytes bytes → IsSound kind bytes → IsPacket (decoded kind bytes)
unfolding words_of
IsPacket-decoded kind bytes are sound =
    let count : length (words_of (drop 17 bytes)) ≡ slice_index bytes 7 = length-words_of (slice_index bytes 7) (drop 17 bytes) (body-whole kind bytes sound) in
    let bit : bit_code (nat_eq (slice_index bytes 16) 1) ≡ slice_index bytes 16
    = bit_code-of (slice_index bytes 16) (omega (arith, sound.others.bit, most_bit-le kind)) in
    record {
      writable = record {
        pass = sound.others.pass;
        side = sound.others.side;
        words = rw count sound.others.count;
        bit = rw bit sound.others.bit;
      };
      worker = from_be_bytes_2-below _ _ (are.each 4) (are.each 5);
      number = from_be_bytes_4-below _ _ _ _ (are.each 8) (are.each 9) (are.each 10) (are.each 11);
      epoch = from_be_bytes_4-below _ _ _ _ (are.each 12) (are.each 13) (are.each 14) (are.each 15);
      words = words_fit (length (drop 17 bytes) / 8) (drop 17 bytes) (AreBytes-drop 17 bytes are);
    }

-- what a view of sound bytes is
pub viewed : (kind : PacketKind) (bytes : List ℕ) (view : PacketView) → AreBytes bytes → IsSound kind bytes → packet_of view ≡ decoded kind bytes
    → view.body.now ≡ drop 17 bytes → IsView view × IsPacket (packet_of view) × (spelling (packet_of view) ≡ bytes)
viewed kind bytes view are sound is body =
    let whole : length (drop 17 bytes) ≡ 8 * slice_index bytes 7 = body-whole kind bytes sound in
    let count : length (words_of (drop 17 bytes)) ≡ slice_index bytes 7 = length-words_of (slice_index bytes 7) (drop 17 bytes) whole in
    let packet : IsPacket (packet_of view) = subst IsPacket (sym is) (IsPacket-decoded kind bytes are sound) in
    let view_whole : length view.body.now ≡ 8 * length (words_of view.body.now) = rw (body, count) whole in
    (record { writable = packet.writable; whole = view_whole }, packet, ap spelling is ∙ spelling-decoded kind bytes are sound)

-- another epoch in place
pub spelling-epoch : (packet : Packet) (epoch : ℕ)
    → take 12 (spelling packet) ++ to_be_bytes w32 epoch ++ drop 16 (spelling packet) ≡ spelling (record packet { epoch = epoch })
unfolding spelling head
spelling-epoch packet epoch = refl

pub fault_of-epoch : (bytes : List ℕ) (epoch : ℕ) → fault_of bytes ≡ None → fault_of (take 12 bytes ++ to_be_bytes w32 epoch ++ drop 16 bytes) ≡ None
unfolding fault_of
fault_of-epoch (b0 ∷ b1 ∷ b2 ∷ b3 ∷ b4 ∷ b5 ∷ b6 ∷ b7 ∷ b8 ∷ b9 ∷ b10 ∷ b11 ∷ b12 ∷ b13 ∷ b14 ∷ b15 ∷ b16 ∷ body) epoch none =
    let old : List ℕ = b0 ∷ b1 ∷ b2 ∷ b3 ∷ b4 ∷ b5 ∷ b6 ∷ b7 ∷ b8 ∷ b9 ∷ b10 ∷ b11 ∷ b12 ∷ b13 ∷ b14 ∷ b15 ∷ b16 ∷ body in
    let new : List ℕ = take 12 old ++ to_be_bytes w32 epoch ++ drop 16 old in
    let others : fault_after_kind (kind_of b2) new ≡ fault_after_kind (kind_of b2) old
    = elim (kind_of b2) as (λ kind. fault_after_kind kind new ≡ fault_after_kind kind old) [ None ↦ refl | Some kind ↦ refl ] in
    ap (λ other. if nat_lt (length old) 2 then Some Short else if not (b0 == 199) then Some Magic else if not (b1 == 2) then Some Version
    else if nat_lt (length old) 17 then Some Short else other) others ∙ none
fault_of-epoch bytes epoch none = absurd (omega (arith, fault_of-long bytes none))

-- bytes with no broken field spell a packet
pub accepted-spelled : (bytes : List ℕ) → AreBytes bytes → fault_of bytes ≡ None → (packet : Packet) × IsPacket packet × (spelling packet ≡ bytes)
accepted-spelled bytes are none =
    let sound = sound-fault_of bytes none in
    (decoded sound.0 bytes, IsPacket-decoded sound.0 bytes are sound.1, spelling-decoded sound.0 bytes are sound.1)
