-- A program that breaks no rule has a value.
use Rattle.std.proofs.Common.{◌≡◌, ◌<◌, ◌≤◌, ℕ, ◌-◌, ◌^◌, Bool, true, false, List, [], ◌∷◌, ℤ, pos, negsuc, ◌+ℤ◌, ◌-ℤ◌, ◌≤ℤ◌, refl, ap, arith, Option, Some, None, map, inl, inr, nat_eq, nat_lt, FitsSigned, w64, is_some, to_z, of_z, bit_and, subst}
use Rattle.std.specs.Prelude.{◌||◌, ◌&&◌, not, int_le, int_lt}
use Rattle.std.specs.Option.{option_map}
use Rattle.std.specs.Int.{saturate_signed, int_min}
use Rattle.std.proofs.lemmas.Bool.{cases_Bool, ltb-true, ltb-false, and_parts}
use Rattle.std.specs.Ordering.{int_eq}
use Rattle.std.proofs.lemmas.Int.{ints, clamps, to_z_pos}
use Rattle.std.proofs.lemmas.Nat.{and_le_l, and_le_r}
use Rattle.std.proofs.Math.Pow.{pow_mono}
use Rattle.ch_ir.specs.declared.program.Operand.{Operand}
use Rattle.ch_ir.specs.declared.program.Operand.TheVariants.{Word, Const}
use Rattle.ch_ir.specs.declared.program.Binary.{Binary}
use Rattle.ch_ir.specs.declared.program.Binary.TheVariants as binary
use Rattle.ch_ir.specs.declared.rules.Interval.{Interval}
use Rattle.ch_ir.specs.declared.rules.Refused.{Refused}
use Rattle.ch_ir.specs.declared.rules.Refused.TheVariants as refused
use Rattle.ch_ir.specs.declared.program.Op.{Op}
use Rattle.ch_ir.specs.declared.program.Op.TheVariants.{Set, Two, Bit, Pick, Hash}
use Rattle.ch_ir.specs.Hash.{hash_of, hash_of-below}
use Rattle.ch_ir.specs.Machine.{Words, put, read, read_words, truth, is_set, two_of, bit_of, both, picked, op_to, op_value, exec_ops}
use Rattle.ch_ir.specs.Rules.{Known, learn, whole, flag, or_whole, interval_of, two_interval, hull, op_interval, first_unknown, operands_of, has_modulus, word_refusal, operands_refusal, or_else, needs, op_refusal, ops_refusal, after_ops}
use Rattle.ch_verify.specs.Fits.{ConstFits, OpFits, AllOpsFit}

-- a value within the interval
pub record Lies (s : Interval) (o : Option ℤ) : Type 0 where
  pub value : ℤ
  pub is : o ≡ Some value
  pub low : s.low ≤ℤ value
  pub high : value ≤ℤ s.high
  pub fits : FitsSigned w64 value

abbrev pub Covered : Option Interval → Option ℤ → Type 0
Covered None o = Unit {0}
Covered (Some s) o = Lies s o

-- each known word has a value within its interval
abbrev pub Covers : Known → Words → Type 0
Covers ks ws = (w : ℕ) → Covered (ks w) (ws w)

abbrev pub is_known : Known → Operand → Bool
is_known ks (Word w) = is_some (ks w)
is_known ks (Const c) = true

pub known_head : (ks : Known) (a : Operand) (rest : List Operand) → first_unknown ks (a ∷ rest) ≡ None → (is_known ks a ≡ true) × (first_unknown ks rest ≡ None)
known_head ks (Const c) rest h = (refl, h)
known_head ks (Word w) rest h = elim (cases_Bool (is_some (ks w))) [
  | inl e ↦ (e, rw e at h)
  | inr e ↦ let bad : Some w ≡ None = rw e at h in cc
]

covered_some : (o : Option Interval) (v : Option ℤ) → is_some o ≡ true → Covered o v → Lies (or_whole o) v
covered_some None v h c = cc
covered_some (Some s) v h c = c

pub lies_at : (ks : Known) (ws : Words) (a : Operand) → Covers ks ws → ConstFits a → is_known ks a ≡ true → Lies (interval_of ks a) (read ws a)
lies_at ks ws (Word w) c f h = covered_some (ks w) (ws w) h (c w)
lies_at ks ws (Const v) c f h = record { value = v; is = refl; low = omega (arith, ints); high = omega (arith, ints); fits = f }

-- the first of two refusals is none
pub none_else : (f g : Option Refused) → or_else f g ≡ None → (f ≡ None) × (g ≡ None)
none_else None g h = (refl, h)
none_else (Some f) g h = cc

pub no_unknown : (stage : ℕ) (o : Option ℕ) → word_refusal stage o ≡ None → o ≡ None
no_unknown stage None h = refl
no_unknown stage (Some w) h = cc

pub needs_none : (b : Bool) (f : Refused) → needs b f ≡ None → b ≡ true
needs_none true f h = refl
needs_none false f h = cc

saturates : (a b : ℤ) → a ≤ℤ b → saturate_signed w64 a ≤ℤ saturate_signed w64 b
saturates (pos a) (pos b) h = grind (arith, ints)
saturates (pos a) (negsuc b) h = omega (arith, ints)
saturates (negsuc a) (pos b) h = omega (arith, ints)
saturates (negsuc a) (negsuc b) h = grind (arith, ints)

pub saturated_fits : (a : ℤ) → FitsSigned w64 (saturate_signed w64 a)
saturated_fits (pos a) = record { sfits = omega arith }
saturated_fits (negsuc a) = record { sfits = omega arith }

pub truth_lies : (b : Bool) (v : Option ℤ) → v ≡ Some (truth b) → Lies flag v
truth_lies true v h = record { value = pos 1; is = h; low = omega (arith, ints); high = omega (arith, ints); fits = record { sfits = omega arith } }
truth_lies false v h = record { value = pos 0; is = h; low = omega (arith, ints); high = omega (arith, ints); fits = record { sfits = omega arith } }

pub signed_fits : (n : ℕ) → FitsSigned w64 (to_z w64 n)
signed_fits n = elim (cases_Bool (nat_lt n (2 ^ 63))) [
  | inl t ↦ let l = ltb-true n (2 ^ 63) t in rw t (record { sfits = omega arith })
  | inr t ↦ let l = ltb-false n (2 ^ 63) t in rw t (record { sfits = omega arith })
]

mask_fits : (x y : ℤ) → FitsSigned w64 (two_of binary.Mask x y)
mask_fits x y = signed_fits (bit_and (of_z w64 x) (of_z w64 y))

pub within_whole : (z : ℤ) → FitsSigned w64 z → (whole.low ≤ℤ z) × (z ≤ℤ whole.high)
within_whole (pos n) h = (omega (arith, ints), let k = h.sfits in omega (arith, ints))
within_whole (negsuc n) h = (let k = h.sfits in omega (arith, ints), omega (arith, ints))

pub le_true : (a b : ℤ) → int_le a b ≡ true → a ≤ℤ b
le_true a b h = grind (arith, ints)

masked : (a b : Interval) (x y : ℤ) → (int_le (pos 0) a.low && int_le (pos 0) b.low) ≡ true → a.low ≤ℤ x → x ≤ℤ a.high → FitsSigned w64 x → b.low ≤ℤ y → y ≤ℤ b.high → FitsSigned w64 y
    → Lies (record { low = pos 0; high = int_min a.high b.high }) (Some (two_of binary.Mask x y))
masked a b (pos m) (pos n) t al ah af bl bh bf =
    let l = and_le_l m n in
    let r = and_le_r m n in
    let k = af.sfits in
    let is : to_z w64 (bit_and m n) ≡ pos (bit_and m n) = to_z_pos w64 (bit_and m n) (omega arith) in
    record { value = pos (bit_and m n); is = ap (λ (z : ℤ). Some z) is; low = omega (arith, ints); high = omega (arith, ints, clamps); fits = record { sfits = omega arith } }
masked a b (pos m) (negsuc n) t al ah af bl bh bf =
    let q = le_true (pos 0) b.low ((and_parts (int_le (pos 0) a.low) (int_le (pos 0) b.low) t).1) in
    let bad : ⊥ = omega (arith, ints) in elim bad [ ]
masked a b (negsuc m) y t al ah af bl bh bf =
    let q = le_true (pos 0) a.low ((and_parts (int_le (pos 0) a.low) (int_le (pos 0) b.low) t).0) in
    let bad : ⊥ = omega (arith, ints) in elim bad [ ]

two_values : (kind : Binary) (a b : Interval) (x y : ℤ) → a.low ≤ℤ x → x ≤ℤ a.high → FitsSigned w64 x → b.low ≤ℤ y → y ≤ℤ b.high → FitsSigned w64 y
    → Lies (two_interval kind a b) (Some (two_of kind x y))
two_values binary.Add a b x y al ah af bl bh bf = record {
  value = saturate_signed w64 (x +ℤ y);
  is = refl;
  low = saturates (a.low +ℤ b.low) (x +ℤ y) (omega (arith, ints));
  high = saturates (x +ℤ y) (a.high +ℤ b.high) (omega (arith, ints));
  fits = saturated_fits (x +ℤ y);
}
two_values binary.Sub a b x y al ah af bl bh bf = record {
  value = saturate_signed w64 (x -ℤ y);
  is = refl;
  low = saturates (a.low -ℤ b.high) (x -ℤ y) (omega (arith, ints));
  high = saturates (x -ℤ y) (a.high -ℤ b.low) (omega (arith, ints));
  fits = saturated_fits (x -ℤ y);
}
two_values binary.Lt a b x y al ah af bl bh bf = truth_lies (int_lt x y) (Some (two_of binary.Lt x y)) refl
two_values binary.Le a b x y al ah af bl bh bf = truth_lies (int_le x y) (Some (two_of binary.Le x y)) refl
two_values binary.Eq a b x y al ah af bl bh bf = truth_lies (int_eq x y) (Some (two_of binary.Eq x y)) refl
two_values binary.Ne a b x y al ah af bl bh bf = truth_lies (not (int_eq x y)) (Some (two_of binary.Ne x y)) refl
two_values binary.And a b x y al ah af bl bh bf = truth_lies (is_set x && is_set y) (Some (two_of binary.And x y)) refl
two_values binary.Or a b x y al ah af bl bh bf = truth_lies (is_set x || is_set y) (Some (two_of binary.Or x y)) refl
two_values binary.Mask a b x y al ah af bl bh bf = elim (cases_Bool (int_le (pos 0) a.low && int_le (pos 0) b.low)) [
  | inl t ↦ rw t (masked a b x y t al ah af bl bh bf)
  | inr t ↦ rw t (record { value = two_of binary.Mask x y; is = refl; low = (within_whole (two_of binary.Mask x y) (mask_fits x y)).0; high = (within_whole (two_of binary.Mask x y) (mask_fits x y)).1; fits = mask_fits x y })
]

two_lies : (kind : Binary) (a b : Interval) (x y : Option ℤ) → Lies a x → Lies b y → Lies (two_interval kind a b) (both (two_of kind) x y)
two_lies kind a b x y la lb = rw (la.is, lb.is) (two_values kind a b la.value lb.value la.low la.high la.fits lb.low lb.high lb.fits)

bit_lies : (a : ℤ) → Lies (record { low = pos 0; high = pos (2 ^ 61) }) (Some (bit_of a))
bit_lies (negsuc n) = record { value = pos 0; is = refl; low = omega (arith, ints); high = omega (arith, ints); fits = record { sfits = omega arith } }
bit_lies (pos n) = elim (cases_Bool (nat_lt n 62)) [
  | inl t ↦ let lt : n < 62 = ltb-true n 62 t in let p : 2 ^ n ≤ 2 ^ 61 = pow_mono {i = n} {j = 61} (omega arith) in
      rw t (record { value = pos (2 ^ n); is = refl; low = omega (arith, ints); high = omega (arith, ints, p); fits = record { sfits = omega (arith, p) } })
  | inr t ↦ rw t (record { value = pos 0; is = refl; low = omega (arith, ints); high = omega (arith, ints); fits = record { sfits = omega arith } })
]

picked_lies : (a b c : Interval) (x y z : Option ℤ) → Lies a x → Lies b y → Lies c z → Lies (hull b c) (picked x y z)
picked_lies a b c x y z la lb lc = rw (la.is, lb.is, lc.is) (elim (cases_Bool (is_set la.value)) [
  | inl t ↦ let l = lb.low in let h = lb.high in
      rw t (record { value = lb.value; is = refl; low = omega (arith, ints, clamps); high = omega (arith, ints, clamps); fits = lb.fits })
  | inr t ↦ let l = lc.low in let h = lc.high in
      rw t (record { value = lc.value; is = refl; low = omega (arith, ints, clamps); high = omega (arith, ints, clamps); fits = lc.fits })
])

-- words that are all known can be read
words_read : (ks : Known) (ws : Words) → Covers ks ws → (words : List ℕ) → first_unknown ks (map Word words) ≡ None → (vs : List ℤ) × (read_words ws words ≡ Some vs)
words_read ks ws c [] h = ([], refl)
words_read ks ws c (w ∷ rest) h =
    let known = known_head ks (Word w) (map Word rest) h in
    let first = lies_at ks ws (Word w) c tt known.0 in
    let more = words_read ks ws c rest known.1 in
    (first.value ∷ more.0, rw (first.is, more.1) refl)

hash_lies : (ks : Known) (ws : Words) → Covers ks ws → (seed modulus : ℕ) (words : List ℕ) → 0 < modulus → modulus < 2 ^ 32 → first_unknown ks (map Word words) ≡ None
    → Lies (record { low = pos 0; high = pos (modulus - 1) }) (option_map (λ vs. pos (hash_of seed vs modulus)) (read_words ws words))
hash_lies ks ws c seed modulus words p q h =
    let all = words_read ks ws c words h in
    let b = hash_of-below seed all.0 modulus p in
    rw all.1 (record { value = pos (hash_of seed all.0 modulus); is = refl; low = omega (arith, ints); high = omega (arith, ints); fits = record { sfits = omega arith } })

-- an op that breaks no rule has a value within its interval
pub op_lies : (stage : ℕ) (ks : Known) (ws : Words) → Covers ks ws → (op : Op) → OpFits op → first_unknown ks (operands_of op) ≡ None → has_modulus op ≡ true
    → Lies (op_interval ks op) (op_value ws op)
op_lies stage ks ws c (Set to a) f h s =
    let k = known_head ks a [] h in lies_at ks ws a c f.consts.0 k.0
op_lies stage ks ws c (Two to kind a b) f h s =
    let k = known_head ks a (b ∷ []) h in
    let l = known_head ks b [] k.1 in
    two_lies kind (interval_of ks a) (interval_of ks b) (read ws a) (read ws b) (lies_at ks ws a c f.consts.0 k.0) (lies_at ks ws b c f.consts.1.0 l.0)
op_lies stage ks ws c (Bit to a) f h s =
    let k = known_head ks a [] h in let l = lies_at ks ws a c f.consts.0 k.0 in rw l.is (bit_lies l.value)
op_lies stage ks ws c (Pick to x y z) f h s =
    let k = known_head ks x (y ∷ z ∷ []) h in
    let l = known_head ks y (z ∷ []) k.1 in
    let m = known_head ks z [] l.1 in
    picked_lies (interval_of ks x) (interval_of ks y) (interval_of ks z) (read ws x) (read ws y) (read ws z)
    (lies_at ks ws x c f.consts.0 k.0) (lies_at ks ws y c f.consts.1.0 l.0) (lies_at ks ws z c f.consts.1.1.0 m.0)
op_lies stage ks ws c (Hash to seed modulus words) f h s =
    hash_lies ks ws c seed modulus words (ltb-true 0 modulus s) f.modulus h

-- to learn an interval and to put a value within it
pub covers_put : (ks : Known) (ws : Words) → Covers ks ws → (to : ℕ) (s : Interval) (v : ℤ) → Lies s (Some v) → Covers (learn ks to s) (put ws to v)
covers_put ks ws c to s v l w = elim (cases_Bool (nat_eq w to)) [
  | inl t ↦ rw t l
  | inr t ↦ rw t (c w)
]

-- the ops run, and what is known covers what is there
pub record OpsRun (ks : Known) (o : Option Words) : Type 0 where
  pub words : Words
  pub is : o ≡ Some words
  pub covers : Covers ks words

pub ops_run : (stage : ℕ) (ops : List Op) (ks : Known) (ws : Words) → AllOpsFit ops → Covers ks ws → ops_refusal stage ks ops ≡ None → OpsRun (after_ops ops ks) (exec_ops ops ws)
ops_run stage [] ks ws f c h = record { words = ws; is = refl; covers = c }
ops_run stage (op ∷ ops) ks ws f c h =
    let parts = none_else (op_refusal stage ks op) (ops_refusal stage (learn ks (op_to op) (op_interval ks op)) ops) h in
    let two = none_else (needs (has_modulus op) (refused.Shape stage)) _ parts.0 in
    let three = none_else (operands_refusal stage ks (operands_of op)) _ two.1 in
    let l = op_lies stage ks ws c op f.0 (no_unknown stage (first_unknown ks (operands_of op)) three.0) (needs_none (has_modulus op) (refused.Shape stage) two.0) in
    let lies : Lies (op_interval ks op) (Some l.value) = subst (Lies (op_interval ks op)) l.is l in
    let more = ops_run stage ops (learn ks (op_to op) (op_interval ks op)) (put ws (op_to op) l.value) f.1 (covers_put ks ws c (op_to op) (op_interval ks op) l.value lies) parts.1 in
    record { words = more.words; is = rw l.is more.is; covers = more.covers }
