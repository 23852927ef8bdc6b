-- Bytes are read as they are spelled, and only so.
use Rattle.std.proofs.Common.{◌≡◌, ◌∙◌, ℕ, ◌+◌, ◌-◌, ◌*◌, ◌/◌, ◌%◌, ◌<◌, true, List, [], ◌∷◌, length, Some, refl, sym, ap, arith, ◌++◌, get_or, take, append_assoc, ◌≤◌, false, None, inl, inr}
use Rattle.std.specs.Prelude.{option_map, nat_le, ◌&&◌}
use Rattle.std.specs.List.{list_all}
use Rattle.std.proofs.lemmas.Bool.{and_parts, cases_lt, lt-ltb, le-ltb, leb-true, le-leb, lt-leb}
use Rattle.std.proofs.lemmas.Grind.{flat_map-append}
use Rattle.std.proofs.lemmas.List.{take_more}
use Rattle.ch_schedule.specs.Field.{digit_of, byte_of, bytes_of}
use Rattle.ch_trace_lines.specs.Range.{AreBytes}
use Rattle.ch_trace_lines.specs.Spelling.{digit_text, byte_text, hex_text}
use Rattle.ch_trace_lines.proofs.Options.{bound, mapped, chosen}
use Rattle.ch_trace_lines.proofs.Bytes.{is_field_byte, both}

low_text : (d : ℕ) → d < 10 → digit_text d ≡ 48 + d
low_text d h = rw (lt-ltb d 10 h) refl

high_text : (d : ℕ) → 10 ≤ d → digit_text d ≡ 97 + (d - 10)
high_text d h = rw (le-ltb d 10 h) refl

low_of : (c d : ℕ) → c ≡ 48 + d → d < 10 → digit_of c ≡ Some d
low_of c d e h =
    let from : nat_le 48 c ≡ true = le-leb 48 c (omega arith) in
    let to : nat_le c 57 ≡ true = le-leb c 57 (omega arith) in
    rw (from, to) (ap Some (omega arith))

high_of : (c d : ℕ) → c ≡ 97 + (d - 10) → 10 ≤ d → d < 16 → digit_of c ≡ Some d
high_of c d e l h =
    let above : nat_le 48 c ≡ true = le-leb 48 c (omega arith) in
    let past : nat_le c 57 ≡ false = lt-leb c 57 (omega arith) in
    let from : nat_le 97 c ≡ true = le-leb 97 c (omega arith) in
    let to : nat_le c 102 ≡ true = le-leb c 102 (omega arith) in
    rw (above, past, from, to) (ap Some (omega arith))

digit_is : (c d : ℕ) → digit_of c ≡ Some d → (c ≡ digit_text d) × (d < 16)
digit_is c d e = elim (chosen (nat_le 48 c && nat_le c 57) (Some (c - 48)) _ d e) [
  | inl p ↦
      let same : c - 48 ≡ d = let k = p.1 in cc in
      let r = and_parts (nat_le 48 c) (nat_le c 57) p.0 in
      let from = leb-true 48 c r.0 in
      let to = leb-true c 57 r.1 in
      let small : d < 10 = omega arith in
      let at : c ≡ 48 + d = omega arith in
      (at ∙ sym (low_text d small), omega arith)
  | inr p ↦ elim (chosen (nat_le 97 c && nat_le c 102) (Some (c - 97 + 10)) None d p.1) [
    | inl q ↦
        let same : c - 97 + 10 ≡ d = let k = q.1 in cc in
        let r = and_parts (nat_le 97 c) (nat_le c 102) q.0 in
        let from = leb-true 97 c r.0 in
        let to = leb-true c 102 r.1 in
        let large : 10 ≤ d = omega arith in
        let at : c ≡ 97 + (d - 10) = omega arith in
        (at ∙ sym (high_text d large), omega arith)
    | inr q ↦ let wrong = q.1 in cc
  ]
]

digit_back : (d : ℕ) → d < 16 → digit_of (digit_text d) ≡ Some d
digit_back d h = elim (cases_lt d 10) [ inl l ↦ low_of (digit_text d) d (low_text d l) l | inr l ↦ high_of (digit_text d) d (high_text d l) l h ]

digit_field : (d : ℕ) → is_field_byte (digit_text d) ≡ true
digit_field d = elim (cases_lt d 10) [
  | inl l ↦ lt-ltb 32 (digit_text d) (omega (arith, low_text d l))
  | inr l ↦ lt-ltb 32 (digit_text d) (omega (arith, high_text d l))
]

byte_is : (high low b : ℕ) → byte_of high low ≡ Some b → (high ≡ digit_text (b / 16)) × (low ≡ digit_text (b % 16)) × (b < 256)
byte_is high low b e =
    let h = bound (digit_of high) (λ x. option_map (λ l. x * 16 + l) (digit_of low)) b e in
    let l = mapped (λ l. h.0 * 16 + l) (digit_of low) b h.2 in
    let u = digit_is high h.0 h.1 in
    let v = digit_is low l.0 l.1 in
    let q : b / 16 ≡ h.0 = omega (arith, l.2, u.1, v.1) in
    let r : b % 16 ≡ l.0 = omega (arith, l.2, u.1, v.1) in
    (u.0 ∙ ap digit_text (sym q), v.0 ∙ ap digit_text (sym r), omega (arith, l.2, u.1, v.1))

byte_back : (b : ℕ) → b < 256 → byte_of (digit_text (b / 16)) (digit_text (b % 16)) ≡ Some b
byte_back b h =
    let q : b / 16 < 16 = omega arith in
    let r : b % 16 < 16 = omega arith in
    let whole : b / 16 * 16 + b % 16 ≡ b = omega arith in
    rw (digit_back (b / 16) q, digit_back (b % 16) r) (ap Some whole)

pub bytes_is : (digits bytes : List ℕ) → bytes_of digits ≡ Some bytes → (digits ≡ hex_text bytes) × AreBytes bytes
bytes_is [] bytes e = let same : [] ≡ bytes = cc in (ap hex_text same, rw (sym same) tt)
bytes_is (c ∷ []) bytes e = cc
bytes_is (high ∷ low ∷ rest) bytes e =
    let b = bound (byte_of high low) (λ x. option_map (λ bs. x ∷ bs) (bytes_of rest)) bytes e in
    let m = mapped (λ bs. b.0 ∷ bs) (bytes_of rest) bytes b.2 in
    let first = byte_is high low b.0 b.1 in
    let more = bytes_is rest m.0 m.1 in
    let spelled : high ∷ low ∷ rest ≡ hex_text (b.0 ∷ m.0) = let x = first.0 in let y = first.1 in let z = more.0 in cc in
    let range : AreBytes (b.0 ∷ m.0) = (first.2, more.1) in
    (spelled ∙ ap hex_text m.2, rw (sym m.2) range)

pub bytes_back : (bytes : List ℕ) → AreBytes bytes → bytes_of (hex_text bytes) ≡ Some bytes
bytes_back [] h = refl
bytes_back (b ∷ bs) h = rw (byte_back b h.0, bytes_back bs h.1) refl

pub hex_field : (bytes : List ℕ) → list_all is_field_byte (hex_text bytes) ≡ true
hex_field [] = refl
hex_field (b ∷ bs) = both _ _ (digit_field (b / 16)) (both _ _ (digit_field (b % 16)) (hex_field bs))

pub hex_length : (bytes : List ℕ) → length (hex_text bytes) ≡ 2 * length bytes
hex_length [] = refl
hex_length (b ∷ bs) = omega (arith, hex_length bs)

-- one more byte is written
pub hex_step : (start old new piece bytes : List ℕ) (i : ℕ) → i < length bytes → piece ≡ byte_text (get_or bytes i 0) → old ≡ start ++ hex_text (take i bytes) → new ≡ old ++ piece
    → new ≡ start ++ hex_text (take (i + 1) bytes)
hex_step start old new piece bytes i h p o n =
    let more : hex_text (take (i + 1) bytes) ≡ hex_text (take i bytes) ++ byte_text (get_or bytes i 0) =
    ap hex_text (take_more bytes i 0 h) ∙ flat_map-append byte_text (take i bytes) (get_or bytes i 0 ∷ []) in
    n
    ∙ (ap (λ (xs : List ℕ). xs ++ piece) o
    ∙ (ap (λ (xs : List ℕ). (start ++ hex_text (take i bytes)) ++ xs) p
    ∙ (append_assoc start (hex_text (take i bytes)) (byte_text (get_or bytes i 0)) ∙ sym (ap (λ (xs : List ℕ). start ++ xs) more))))
