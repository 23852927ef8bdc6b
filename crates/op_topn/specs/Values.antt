-- The values that the registers of ORDER BY with LIMIT hold.
use Rattle.std.proofs.Common.{◌≡◌, ◌<◌, ◌≤◌, ℕ, zero, suc, ◌+◌, ◌-◌, ◌*◌, ◌^◌, Bool, true, false, cond, List, [], ◌∷◌, ◌++◌, ℤ, pos, ◌+ℤ◌, ◌-ℤ◌, ◌≤ℤ◌, int_lt, int_le, nat_lt, nat_le, ltb, leb, refl, sym, ◌∙◌, ap, arith, take, min, w64, leb-true, leb-false, ltb-true, ltb-false}
use Rattle.std.specs.Prelude.{if◌then◌else◌, ◌||◌, not}
use Rattle.std.specs.Int.{saturate_signed, int_min, int_max}
use Rattle.std.proofs.lemmas.Bool.{lt-ltb, le-ltb}
use Rattle.std.proofs.lemmas.Int.{ints, clamps}
use Rattle.std.proofs.lemmas.List.Sums.{sum_by-append, sum_by-cons}
use Rattle.std.proofs.lemmas.Nat.{mul-le}
use Rattle.std.proofs.Math.Pow.{pow_mono}
use Rattle.ch_ir.specs.declared.program.Binary.TheVariants as binary
use Rattle.ch_ir.specs.declared.program.Test.TheVariants.{Less}
use Rattle.ch_ir.specs.Machine.{truth, is_set, two_of, holds_at}
use Rattle.op_topn.specs.Policy.{distance, least, oriented, reached}
use Rattle.op_moves.specs.Range.{Small, saturated, turned_small}

abbrev pub AllSmall : List ℤ → Type 0
AllSmall [] = Unit {0}
AllSmall (v ∷ vs) = Small v × AllSmall vs

pub oriented_small : (descending : Bool) (v : ℤ) → Small v → Small (oriented descending v)
oriented_small true v s = s
oriented_small false v s = turned_small v s

pub small_more : (vs : List ℤ) (v : ℤ) → AllSmall vs → Small v → AllSmall (vs ++ v ∷ [])
small_more [] v s h = (h, tt)
small_more (x ∷ vs) v s h = (s.0, small_more vs v s.1 h)

pub small_taken : (n : ℕ) (vs : List ℤ) → AllSmall vs → AllSmall (take n vs)
small_taken zero vs s = tt
small_taken (suc n) [] s = tt
small_taken (suc n) (v ∷ vs) s = (s.0, small_taken n vs s.1)

pub least_small : (vs : List ℤ) → AllSmall vs → Small (least vs)
least_small [] s = record { low = omega (arith, ints); high = omega (arith, ints) }
least_small (v ∷ []) s = s.0
least_small (v ∷ w ∷ vs) s =
    let a = s.0 in
    let b = least_small (w ∷ vs) s.1 in
    let al = a.low in let ah = a.high in let bl = b.low in let bh = b.high in
    record { low = omega (arith, ints, clamps); high = omega (arith, ints, clamps) }

pub turned_is : (descending : Bool) (w : ℤ) → Small w → two_of (if descending then binary.Sub else binary.Add) (pos (2 ^ 61)) w ≡ pos (2 ^ 61) -ℤ oriented descending w
turned_is true w s = let l = s.low in let h = s.high in saturated (pos (2 ^ 61) -ℤ w) (omega (arith, ints)) (omega (arith, ints))
turned_is false w s = let l = s.low in let h = s.high in saturated (pos (2 ^ 61) +ℤ w) (omega (arith, ints)) (omega (arith, ints)) ∙ grind (arith, ints)

pub least_more : (v : ℤ) (vs : List ℤ) (w : ℤ) → least ((v ∷ vs) ++ w ∷ []) ≡ int_min (least (v ∷ vs)) w
least_more v [] w = refl
least_more v (x ∷ vs) w = ap (int_min v) (least_more x vs w) ∙ turned v (least (x ∷ vs)) w
  where
    turned : (a b c : ℤ) → int_min a (int_min b c) ≡ int_min (int_min a b) c
    turned a b c = omega (arith, ints, clamps)

-- the cell of the greatest of 2^61 - v; 0 where there is none
abbrev pub greatest : List ℤ → ℤ
greatest [] = pos 0
greatest (v ∷ vs) = pos (2 ^ 61) -ℤ least (v ∷ vs)

pub greatest_more : (vs : List ℤ) (w : ℤ) → AllSmall vs → Small w → int_max (greatest vs) (pos (2 ^ 61) -ℤ w) ≡ greatest (vs ++ w ∷ [])
greatest_more [] w s h = let a = h.high in omega (arith, ints, clamps)
greatest_more (v ∷ vs) w s h = larger (least (v ∷ vs)) w ∙ ap (λ (x : ℤ). pos (2 ^ 61) -ℤ x) (sym (least_more v vs w))
  where
    larger : (a b : ℤ) → int_max (pos (2 ^ 61) -ℤ a) (pos (2 ^ 61) -ℤ b) ≡ pos (2 ^ 61) -ℤ int_min a b
    larger a b = omega (arith, ints, clamps)

pub greatest_same : (vs : List ℤ) → AllSmall vs → int_max (greatest vs) (pos 0) ≡ greatest vs
greatest_same [] s = refl
greatest_same (v ∷ vs) s = let a = least_small (v ∷ vs) s in let h = a.high in omega (arith, ints, clamps)

le_true : (a b : ℤ) → int_le a b ≡ true → a ≤ℤ b
le_true a b h = grind (arith, ints)

true_le : (a b : ℤ) → a ≤ℤ b → int_le a b ≡ true
true_le a b h = grind (arith, ints)

-- two tests agree
pub same_le : (a b c d : ℤ) → (a ≤ℤ b → c ≤ℤ d) → (c ≤ℤ d → a ≤ℤ b) → int_le a b ≡ int_le c d
same_le a b c d f g = go (int_le a b) refl (int_le c d) refl
  where
    go : (x : Bool) → int_le a b ≡ x → (y : Bool) → int_le c d ≡ y → x ≡ y
    go true ex true ey = refl
    go false ex false ey = refl
    go true ex false ey = let e = true_le c d (f (le_true a b ex)) in cc
    go false ex true ey = let e = true_le a b (g (le_true c d ey)) in cc

pub not_le : (a b : ℤ) → not (int_le a b) ≡ int_lt b a
not_le a b = grind (arith, ints)

pub small_distance : (gap i : ℕ) → gap ≤ 2 ^ 20 → i ≤ 40 → distance gap i ≤ 2 ^ 60
small_distance gap i g h = let p : 2 ^ i ≤ 2 ^ 40 = pow_mono {i = i} {j = 40} (omega arith) in bounded gap (2 ^ i) g p
  where
    bounded : (a b : ℕ) → a ≤ 2 ^ 20 → b ≤ 2 ^ 40 → a * (b - 1) ≤ 2 ^ 60
    bounded a b x y = let e : b - 1 ≤ 2 ^ 40 = omega arith in let m : a * (b - 1) ≤ 2 ^ 20 * 2 ^ 40 = mul-le a (b - 1) (2 ^ 20) (2 ^ 40) x e in m

pub reach_is : (d : ℕ) (t v : ℤ) → d ≤ 2 ^ 60 → Small t → Small v → int_le (saturate_signed w64 ((pos (2 ^ 61) -ℤ v) +ℤ pos d)) (pos (2 ^ 61) -ℤ t) ≡ int_le (t +ℤ pos d) v
reach_is d t v small st sv =
    let tl = st.low in let th = st.high in let vl = sv.low in let vh = sv.high in
    ap (λ (x : ℤ). int_le x (pos (2 ^ 61) -ℤ t)) (saturated ((pos (2 ^ 61) -ℤ v) +ℤ pos d) (omega (arith, ints)) (omega (arith, ints)))
    ∙ same_le ((pos (2 ^ 61) -ℤ v) +ℤ pos d) (pos (2 ^ 61) -ℤ t) (t +ℤ pos d) v (λ h. omega (arith, ints)) (λ h. omega (arith, ints))

pub below_is : (t v : ℤ) → int_lt (pos (2 ^ 61) -ℤ t) (pos (2 ^ 61) -ℤ v) ≡ int_lt v t
below_is t v = sym (not_le (pos (2 ^ 61) -ℤ v) (pos (2 ^ 61) -ℤ t)) ∙ ap not (same_le (pos (2 ^ 61) -ℤ v) (pos (2 ^ 61) -ℤ t) t v (λ h. omega (arith, ints)) (λ h. omega (arith, ints))) ∙ not_le t v

-- a counter that saturates at the greatest word
abbrev pub counted : ℕ → ℤ
counted n = pos (min 9223372036854775807 n)

pub counted_more : (n : ℕ) (b : Bool) → saturate_signed w64 (counted n +ℤ truth b) ≡ counted (n + cond b 1 0)
counted_more n true = saturate_one n
  where
    saturate_one : (n : ℕ) → saturate_signed w64 (counted n +ℤ pos 1) ≡ counted (n + 1)
    saturate_one n = ap pos (omega arith)
counted_more n false = ap pos (omega arith)

pub enough_is : (limit n : ℕ) → limit < 2 ^ 63 → int_le (pos limit) (counted n) ≡ nat_le limit n
enough_is limit n h = go (leb limit (min 9223372036854775807 n)) refl (leb limit n) refl
  where
    go : (x : Bool) → leb limit (min 9223372036854775807 n) ≡ x → (y : Bool) → leb limit n ≡ y → x ≡ y
    go true ex true ey = refl
    go false ex false ey = refl
    go true ex false ey = let a = leb-true limit (min 9223372036854775807 n) ex in let b = leb-false limit n ey in absurd (omega arith)
    go false ex true ey = let a = leb-false limit (min 9223372036854775807 n) ex in let b = leb-true limit n ey in absurd (omega arith)

pub none_enough : (limit : ℕ) → 1 ≤ limit → int_le (pos limit) (pos 0) ≡ false
none_enough limit h = grind arith

-- the counter of the first rows
abbrev pub firsts : (limit n : ℕ) → ℤ
firsts limit n = pos (min limit n)

suc_set : (m : ℕ) → is_set (pos (suc m)) ≡ true
suc_set m = grind (arith, ints)

pub is_first : (limit n : ℕ) → 1 ≤ limit → holds_at (Less 0) (pos limit ∷ []) (firsts limit n ∷ []) ≡ nat_lt n limit
is_first limit n h = go (min limit n) refl (ltb n limit) refl
  where
    go : (m : ℕ) → min limit n ≡ m → (b : Bool) → ltb n limit ≡ b → (not (is_set (pos m)) || ltb m limit) ≡ b
    go zero e true eb = refl
    go zero e false eb = let l = ltb-false n limit eb in absurd (omega arith)
    go (suc m) e true eb = let l = ltb-true n limit eb in let k : suc m < limit = omega arith in let t = suc_set m in rw t (lt-ltb (suc m) limit k)
    go (suc m) e false eb = let l = ltb-false n limit eb in let k : limit ≤ suc m = omega arith in let t = suc_set m in rw t (le-ltb (suc m) limit k)

pub firsts_more : (limit n : ℕ) → limit < 2 ^ 63 → nat_lt n limit ≡ true → saturate_signed w64 (firsts limit n +ℤ pos 1) ≡ firsts limit (n + 1)
firsts_more limit n h l = let k = ltb-true n limit l in ap pos (omega arith)

pub firsts_same : (limit n : ℕ) → nat_lt n limit ≡ false → firsts limit n ≡ firsts limit (n + 1)
firsts_same limit n h = let k = ltb-false n limit h in ap pos (omega arith)

pub reached_more : (t : ℤ) (vs : List ℤ) (v : ℤ) → reached t (vs ++ v ∷ []) ≡ reached t vs + cond (int_le t v) 1 0
reached_more t vs v = omega (arith, sum_by-append (λ x. cond (int_le t x) 1 0) vs (v ∷ []), sum_by-cons (λ x. cond (int_le t x) 1 0) v [])
