-- What the filters' registers hold after some rows, and what their bits tell.
use Rattle.std.proofs.Common.{◌≡◌, ◌<◌, ℕ, zero, suc, ◌+◌, ◌*◌, ◌^◌, Bool, true, false, List, [], ◌∷◌, ℤ, pos, inl, inr, refl, sym, ◌∙◌, ap, ap₂, arith, nat_eq, nat_lt, bit_and, bit_or, w64}
use Rattle.std.specs.Prelude.{if◌then◌else◌, ◌||◌, ◌&&◌, ◌==◌, not}
use Rattle.std.specs.Int.{int_bit_and, int_bit_or}
use Rattle.std.specs.List.{list_any}
use Rattle.std.specs.Ordering.{int_eq}
use Rattle.std.proofs.lemmas.Bool.{cases_eq, eq-eqb, ne_eqb, lt-ltb, ltb-true}
use Rattle.std.proofs.lemmas.Nat.{and_le_l, and_le_r, or_lt, or_disjoint, and_or_self, and_or_apart, pow_apart}
use Rattle.std.proofs.Math.Pow.{pow_mono}
use Rattle.ch_cover.specs.Rows.{Row}
use Rattle.ch_verdicts.specs.Agrees.{ArePassed}
use Rattle.ch_ir.specs.Hash.{hash_of-below}
use Rattle.ch_ir.specs.Machine.{truth}
use Rattle.op_bloom.specs.Policy.{key_of, bit_of, cell_of, meets, meets_all}
use Rattle.op_moves.specs.Values.{any_below, pos_eq}
use Rattle.op_bloom.specs.declared.sizes.Sizes.{Sizes}
use Rattle.op_bloom.specs.Fine.{IsFine}

abbrev pub key : Sizes → ℕ × Row → ℤ
key d x = key_of d x.1

abbrev pub cell : Sizes → ℕ × Row → ℕ → ℕ
cell d x i = cell_of d i (key d x)

abbrev pub bit : Sizes → ℕ × Row → ℕ → ℕ
bit d x i = bit_of i (key d x)

-- the entry of a row in its own half
abbrev pub spot : Sizes → ℕ × Row → ℕ → ℕ
spot d x i = (if x.1.side == 0 then 0 else d.cells) + cell d x i

-- the entry that the program reaches: in the first pass in the row's own half, and later in the other one
abbrev pub offset : Sizes → ℕ × Row → ℕ
offset d x = if int_eq (pos x.1.side) (truth (x.0 == 1)) then d.cells else 0

abbrev pub place : Sizes → ℕ × Row → ℕ → ℕ
place d x i = offset d x + cell d x i

-- an entry of the i-th array after some rows
abbrev pub filter_word : Sizes → List (ℕ × Row) → ℕ → ℕ → ℕ
filter_word d [] i e = 0
filter_word d (x ∷ before) i e = if (x.0 == 1) && (x.1.bit && (spot d x i == e)) then bit_or (filter_word d before i e) (2 ^ bit d x i) else filter_word d before i e

-- rows of two sides
abbrev pub OfTwoSides : List (ℕ × Row) → Type 0
OfTwoSides [] = Unit {0}
OfTwoSides (x ∷ rows) = (x.1.side < 2) × OfTwoSides rows

-- the rows that the filters take: of one of the two sides
abbrev pub has_side : Row → Bool
has_side r = nat_lt r.side 2

pub sides_of : (before : List (ℕ × Row)) → ArePassed has_side before → OfTwoSides before
sides_of [] h = tt
sides_of (x ∷ before) h = (ltb-true x.1.side 2 (h x (inl refl)).1, sides_of before (λ y i. h y (inr i)))

-- Words as numbers

pub or_is : (a b : ℕ) → a < 2 ^ 62 → b < 2 ^ 62 → int_bit_or w64 (pos a) (pos b) ≡ pos (bit_or a b)
or_is a b h k = let l = or_lt 62 a b h k in rw (lt-ltb (bit_or a b) (2 ^ 63) (omega arith)) refl

pub and_is : (a b : ℕ) → a < 2 ^ 62 → b < 2 ^ 62 → int_bit_and w64 (pos a) (pos b) ≡ pos (bit_and a b)
and_is a b h k = let l = and_le_l a b in rw (lt-ltb (bit_and a b) (2 ^ 63) (omega arith)) refl

or_zero : (a : ℕ) → bit_or a 0 ≡ a
or_zero a = or_disjoint a 0 (let k = and_le_r a 0 in omega arith) ∙ omega arith

pub below_word : (b : ℕ) → b < 32 → 2 ^ b < 2 ^ 62
below_word b h = let k = pow_mono {i = b} {j = 31} (omega arith) in omega arith

pub bit_small : (d : Sizes) (x : ℕ × Row) (i : ℕ) → bit d x i < 32
bit_small d x i = hash_of-below (2 * i) (key d x ∷ []) 32 (omega arith)

pub cell_small : (d : Sizes) → IsFine d → (x : ℕ × Row) (i : ℕ) → cell d x i < d.cells
cell_small d fine x i = hash_of-below (2 * i + 1) (key d x ∷ []) d.cells fine.some

word_step : (t : Bool) (n m : ℕ) → n < 2 ^ 62 → m < 2 ^ 62 → (if t then bit_or n m else n) < 2 ^ 62
word_step true n m h k = or_lt 62 n m h k
word_step false n m h k = h

pub word_small : (d : Sizes) (before : List (ℕ × Row)) (i e : ℕ) → filter_word d before i e < 2 ^ 62
word_small d [] i e = omega arith
word_small d (x ∷ before) i e = word_step ((x.0 == 1) && (x.1.bit && (spot d x i == e))) (filter_word d before i e) (2 ^ bit d x i) (word_small d before i e) (below_word (bit d x i) (bit_small d x i))

-- An entry after a row

made : (first bit_set : Bool) (a m : ℕ) → a < 2 ^ 62 → m < 2 ^ 62
    → (if bit_set && true then int_bit_or w64 (pos a) (if first then pos m else pos 0) else pos a) ≡ pos (if first && (bit_set && true) then bit_or a m else a)
made true true a m h k = or_is a m h k
made false true a m h k = or_is a 0 h (omega arith) ∙ ap pos (or_zero a)
made true false a m h k = refl
made false false a m h k = refl

unmade : (first bit_set : Bool) (a m : ℕ) (v : ℤ) → (if bit_set && false then v else pos a) ≡ pos (if first && (bit_set && false) then m else a)
unmade true true a m v = refl
unmade false true a m v = refl
unmade true false a m v = refl
unmade false false a m v = refl

-- r the entry that is reached, s the row's own
pub cell_made : (first bit_set : Bool) (e r s m : ℕ) (word : ℕ → ℕ) → (first ≡ true → r ≡ s) → word e < 2 ^ 62 → m < 2 ^ 62
    → (if bit_set && nat_eq e r then int_bit_or w64 (pos (word r)) (if first then pos m else pos 0) else pos (word e))
    ≡ pos (if first && (bit_set && (s == e)) then bit_or (word e) m else word e)
cell_made true bit_set e r s m word own h k =
    let same : r ≡ s = own refl in
    elim (cases_eq e r) [
      | inl t ↦ rw (← same, ← t, eq-eqb e e refl) (made true bit_set (word e) m h k)
      | inr t ↦ rw (← same, ne_eqb e r t, ne_eqb r e (λ u. t (sym u))) (unmade true bit_set (word e) (bit_or (word e) m) (int_bit_or w64 (pos (word r)) (pos m)))
    ]
cell_made false bit_set e r s m word own h k = elim (cases_eq e r) [
  | inl t ↦ rw (← t, eq-eqb e e refl) (made false bit_set (word e) m h k)
  | inr t ↦ rw (ne_eqb e r t) (unmade false bit_set (word e) (bit_or (word e) m) (int_bit_or w64 (pos (word r)) (pos 0)))
]

own_place : (side cells c : ℕ) → side < 2 → (if int_eq (pos side) (pos 1) then cells else 0) + c ≡ (if side == 0 then 0 else cells) + c
own_place zero cells c h = refl
own_place (suc zero) cells c h = refl
own_place (suc (suc s)) cells c h = absurd (omega arith)

-- in the first pass a row reaches its own entry
pub own : (d : Sizes) (x : ℕ × Row) (i : ℕ) → x.1.side < 2 → (x.0 == 1) ≡ true → place d x i ≡ spot d x i
own d x i h e = ap (λ (b : Bool). (if int_eq (pos x.1.side) (truth b) then d.cells else 0) + cell d x i) e ∙ own_place x.1.side d.cells (cell d x i) h

-- What the bits tell

-- a row of the first pass put the bit k into the entry e
abbrev pub puts : Sizes → ℕ → ℕ → ℕ → ℕ × Row → Bool
puts d i e k y = (y.0 == 1) && (y.1.bit && ((spot d y i == e) && (bit d y i == k)))

one_more : (f b s : Bool) (n m k : ℕ) (rest : Bool) → nat_eq (bit_and n (2 ^ k)) 0 ≡ not rest
    → nat_eq (bit_and (if f && (b && s) then bit_or n (2 ^ m) else n) (2 ^ k)) 0 ≡ not ((f && (b && (s && (m == k)))) || rest)
one_more true true true n m k rest h = elim (cases_eq m k) [
  | inl e ↦ rw (e, eq-eqb k k refl, and_or_self (2 ^ k) n, ne_eqb (2 ^ k) 0 (let p = pow_mono {i = 0} {j = k} (omega arith) in omega arith)) refl
  | inr e ↦ rw (ne_eqb m k e, and_or_apart (2 ^ k) n (2 ^ m) (pow_apart m k e)) h
]
one_more true true false n m k rest h = h
one_more true false s n m k rest h = h
one_more false b s n m k rest h = h

pub told : (d : Sizes) (before : List (ℕ × Row)) (i e k : ℕ) → nat_eq (bit_and (filter_word d before i e) (2 ^ k)) 0 ≡ not (list_any (puts d i e k) before)
told d [] i e k = eq-eqb (bit_and 0 (2 ^ k)) 0 (let l = and_le_l 0 (2 ^ k) in omega arith)
told d (x ∷ before) i e k = one_more (x.0 == 1) x.1.bit (spot d x i == e) (filter_word d before i e) (bit d x i) k (list_any (puts d i e k) before) (told d before i e k)

pub clear_is : (n k : ℕ) → n < 2 ^ 62 → k < 32 → int_eq (int_bit_and w64 (pos n) (pos (2 ^ k))) (pos 0) ≡ nat_eq (bit_and n (2 ^ k)) 0
clear_is n k h l = ap (λ (v : ℤ). int_eq v (pos 0)) (and_is n (2 ^ k) h (below_word k l)) ∙ pos_eq (bit_and n (2 ^ k)) 0

same_at : (a b : ℕ) (p q : Bool) → (a ≡ b → (p ≡ true)) → ((a ≡ b → ⊥) → p ≡ false) → (a == b) ≡ p
same_at a b p q y n = elim (cases_eq a b) [
  | inl e ↦ eq-eqb a b e ∙ sym (y e)
  | inr e ↦ ne_eqb a b e ∙ sym (n e)
]

-- entries of two halves
spots : (cells a b s t : ℕ) → a < cells → b < cells → s < 2 → t < 2
    → ((if s == 0 then 0 else cells) + a == (if int_eq (pos t) (pos 0) then cells else 0) + b) ≡ not (s == t) && (a == b)
spots cells a b zero zero ha hb hs ht = ne_eqb (0 + a) (cells + b) (omega arith)
spots cells a b (suc zero) zero ha hb hs ht = elim (cases_eq a b) [
  | inl e ↦ eq-eqb (cells + a) (cells + b) (omega arith) ∙ sym (eq-eqb a b e)
  | inr e ↦ ne_eqb (cells + a) (cells + b) (omega arith) ∙ sym (ne_eqb a b e)
]
spots cells a b zero (suc zero) ha hb hs ht = elim (cases_eq a b) [
  | inl e ↦ eq-eqb (0 + a) (0 + b) (omega arith) ∙ sym (eq-eqb a b e)
  | inr e ↦ ne_eqb (0 + a) (0 + b) (omega arith) ∙ sym (ne_eqb a b e)
]
spots cells a b (suc zero) (suc zero) ha hb hs ht = ne_eqb (cells + a) (0 + b) (omega arith)
spots cells a b (suc (suc s)) t ha hb hs ht = absurd (omega arith)
spots cells a b s (suc (suc t)) ha hb hs ht = absurd (omega arith)

turned : (f b n c k : Bool) → f && (b && ((n && c) && k)) ≡ (f && (b && n)) && (c && k)
turned true true true c k = refl
turned true true false c k = refl
turned true false n c k = refl
turned false b n c k = refl

-- the entry of the other half
abbrev pub other : Sizes → ℕ × Row → ℕ → ℕ
other d x i = (if int_eq (pos x.1.side) (pos 0) then d.cells else 0) + cell d x i

pub meets_is : (d : Sizes) → IsFine d → (before : List (ℕ × Row)) (x : ℕ × Row) (i : ℕ) → OfTwoSides before → x.1.side < 2
    → list_any (puts d i (other d x i) (bit d x i)) before ≡ meets d before x.1 i
meets_is d fine [] x i h k = refl
meets_is d fine (y ∷ before) x i h k =
    ap₂ (λ (a b : Bool). a || b)
    (ap (λ (s : Bool). (y.0 == 1) && (y.1.bit && (s && (bit d y i == bit d x i)))) (spots d.cells (cell d y i) (cell d x i) y.1.side x.1.side (cell_small d fine y i) (cell_small d fine x i) h.0 k)
    ∙ turned (y.0 == 1) y.1.bit (not (y.1.side == x.1.side)) (cell d y i == cell d x i) (bit d y i == bit d x i))
    (meets_is d fine before x i h.1 k)

not_both : (a b : Bool) → not a || not b ≡ not (a && b)
not_both true b = refl
not_both false b = refl

pub fails : (d : Sizes) (before : List (ℕ × Row)) (r : Row) (n : ℕ) → any_below n (λ i. not (meets d before r i)) ≡ not (meets_all d before r n)
fails d before r zero = refl
fails d before r (suc n) = ap (λ (t : Bool). not (meets d before r n) || t) (fails d before r n) ∙ not_both (meets d before r n) (meets_all d before r n)
