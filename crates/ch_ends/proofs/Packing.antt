-- Packed bits, read and written one at a time.
use Rattle.std.proofs.Common.{◌≡◌, ◌≢◌, ℕ, zero, suc, ◌+◌, ◌*◌, ◌/◌, ◌%◌, ◌<◌, ◌≤◌, Bool, false, eqb, List, length, map, set, get_or, replicate, refl, ap, sym, ◌∙◌, arith, inl, inr}
use Rattle.std.proofs.lemmas.Bool.{cases_eq, cases_lt}
use Rattle.std.proofs.lemmas.List.{ext_get_or, get_or-set_same, get_or-set_other, get_or-replicate, get_or_past, length-set, length-replicate}
use Rattle.std.proofs.lemmas.Nat.Bits.{bit_at-zero}
use Rattle.std.specs.Int.{bit_at}
use Rattle.ch_protocol.specs.Sets.{numbers_from}
use Rattle.ch_ends.specs.Bits.{packed_bit, unpacked}

pub at-numbers : {X : Type 0} (f : ℕ → X) (first count k : ℕ) (d : X) → k < count → get_or (map f (numbers_from first count)) k d ≡ f (first + k)
at-numbers f first zero k d lt = absurd (omega arith)
at-numbers f first (suc count) zero d lt = let e : first ≡ first + 0 = omega arith in ap f e
at-numbers f first (suc count) (suc k) d lt = let e : suc first + k ≡ first + suc k = omega arith in at-numbers f (suc first) count k d (omega arith) ∙ ap f e

pub length-numbers : {X : Type 0} (f : ℕ → X) (first count : ℕ) → length (map f (numbers_from first count)) ≡ count
length-numbers f first zero = refl
length-numbers f first (suc count) = omega (arith, length-numbers f (suc first) count)

pub length-unpacked : (n : ℕ) (words : List ℕ) → length (unpacked n words) ≡ n
length-unpacked n words = length-numbers (packed_bit words) 0 n

pub at-unpacked : (n : ℕ) (words : List ℕ) (k : ℕ) → k < n → get_or (unpacked n words) k false ≡ packed_bit words k
at-unpacked n words k lt = let e : 0 + k ≡ k = omega arith in at-numbers (packed_bit words) 0 n k false lt ∙ ap (packed_bit words) e

-- the word of a bit within the length is there
pub word_there : (n k : ℕ) (words : List ℕ) → k < n → n ≤ 64 * length words → k / 64 < length words
word_there n k words lt room = omega arith

-- a word is written whose bit is new and whose other bits are the old ones
pub unpacked-set : (n k v : ℕ) (b : Bool) (words : List ℕ) → k < n → n ≤ 64 * length words → eqb (bit_at v (k % 64)) 1 ≡ b
    → ((i : ℕ) → i < 64 → i ≢ (k % 64) → bit_at v i ≡ bit_at (get_or words (k / 64) 0) i) → unpacked n (set words (k / 64) v) ≡ set (unpacked n words) k b
unpacked-set n k v b words lt room here others = ext_get_or false (unpacked n (set words (k / 64) v)) (set (unpacked n words) k b)
    (length-unpacked n (set words (k / 64) v) ∙ sym (length-set (unpacked n words) k b ∙ length-unpacked n words))
    (λ i l. at i (omega (arith, l, length-unpacked n (set words (k / 64) v))))
  where
    same_word : (i : ℕ) → i / 64 ≡ k / 64 → get_or (set words (k / 64) v) (i / 64) 0 ≡ v
    same_word i e = ap (λ w. get_or (set words (k / 64) v) w 0) e ∙ get_or-set_same words (k / 64) v 0 (word_there n k words lt room)

    at : (i : ℕ) → i < n → get_or (unpacked n (set words (k / 64) v)) i false ≡ get_or (set (unpacked n words) k b) i false
    at i l = at-unpacked n (set words (k / 64) v) i l ∙ elim (cases_eq i k) [
      | inl e ↦ (ap (λ w. eqb (bit_at w (i % 64)) 1) (same_word i (ap (λ j. j / 64) e)) ∙ (ap (λ j. eqb (bit_at v (j % 64)) 1) e ∙ here))
          ∙ sym (ap (λ j. get_or (set (unpacked n words) k b) j false) e ∙ get_or-set_same (unpacked n words) k b false (omega (arith, length-unpacked n words)))
      | inr ne ↦ elim (cases_eq (i / 64) (k / 64)) [
        | inl e ↦ let apart : i % 64 ≢ (k % 64) = omega arith in
            let r : bit_at v (i % 64) ≡ bit_at (get_or words (i / 64) 0) (i % 64) = others (i % 64) (omega arith) apart ∙ ap (λ w. bit_at (get_or words w 0) (i % 64)) (sym e) in
            (ap (λ w. eqb (bit_at w (i % 64)) 1) (same_word i e) ∙ ap (λ x. eqb x 1) r) ∙ sym (get_or-set_other (unpacked n words) k i b false ne ∙ at-unpacked n words i l)
        | inr other ↦ ap (λ w. eqb (bit_at w (i % 64)) 1) (get_or-set_other words (k / 64) (i / 64) v 0 other) ∙ sym (get_or-set_other (unpacked n words) k i b false ne ∙ at-unpacked n words i l)
      ]
    ]

-- words of zeros have no bit set
pub unpacked-zeros : (n : ℕ) (words : List ℕ) → ((i : ℕ) → get_or words i 0 ≡ 0) → unpacked n words ≡ replicate n false
unpacked-zeros n words zeros = ext_get_or false (unpacked n words) (replicate n false)
    (length-unpacked n words ∙ sym (length-replicate n false))
    (λ i l. let lt : i < n = omega (arith, l, length-unpacked n words) in
    at-unpacked n words i lt ∙ ((ap (λ w. eqb (bit_at w (i % 64)) 1) (zeros (i / 64)) ∙ ap (λ x. eqb x 1) (bit_at-zero (i % 64))) ∙ sym (get_or-replicate n i false false lt)))

-- a place within the bits is below their number
pub within : (n : ℕ) (words : List ℕ) (value : List Bool) (k : ℕ) → unpacked n words ≡ value → k < length value → k < n
within n words value k e lt = omega (arith, lt, sym (length-unpacked n words) ∙ ap (λ (l : List Bool). length l) e)

pub zeros_at : (n i : ℕ) → ◌≡◌ {A = ℕ} (get_or (replicate n 0) i 0) 0
zeros_at n i = elim (cases_lt i n) [
  | inl lt ↦ get_or-replicate n i 0 0 lt
  | inr le ↦ get_or_past (replicate n 0) i 0 (omega (arith, le, length-replicate {A = ℕ} n 0))
]
