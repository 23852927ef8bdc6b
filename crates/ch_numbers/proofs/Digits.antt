-- What is read as a natural number is what is printed of it.
use Rattle.std.proofs.Common.{◌≡◌, ◌≢◌, ℕ, ◌+◌, ◌-◌, ◌*◌, ◌<◌, ◌≤◌, ◌^◌, Bool, true, false, cond, List, [], ◌∷◌, length, get_or, Option, Some, None, rules, arith, refl, sym, ◌∙◌, ap, zero, suc}
use Rattle.std.specs.Prelude.{nat_le, ◌==◌, ◌&&◌}
use Rattle.std.specs.Fmt.{decimal}
use Rattle.std.specs.Str.{all_ascii_digits}
use Rattle.std.proofs.lemmas.Str.Parse.{IsNumeralModel, numerals_by_fold}
use Rattle.std.proofs.lemmas.Fmt.{decimal-digits_value, digits_decimal, digits_value-decimal, first_decimal, decimal_nonempty, decimal_digit}
use Rattle.std.proofs.lemmas.Bool.Decides.{nat_tests}
use Rattle.ch_cells.specs.Number.{is_digit}
use Rattle.ch_numbers.specs.Natural.{digits_from, natural_of}

-- the value of digits after n
abbrev pub value_from : ℕ → List ℕ → ℕ
value_from n [] = n
value_from n (c ∷ cs) = value_from (n * 10 + (c - 48)) cs

pub own : IsNumeralModel (λ ds. all_ascii_digits ds ≡ true) (value_from 0)
own = numerals_by_fold _ (search rules) value_from (search rules)

-- what is read is digits, and their value
record Spells (most n : ℕ) (ds : List ℕ) (m : ℕ) : Type 0 where
  digits : all_ascii_digits ds ≡ true
  value : value_from n ds ≡ m
  small : m ≤ most

-- the test of one digit and of what is spelled so far
guard : (b : Bool) (r : Option ℕ) (m : ℕ) → cond b r None ≡ Some m → (b ≡ true) × (r ≡ Some m)
guard true r m e = (refl, e)
guard false r m e = cc

guard_none : (b : Bool) (r : Option ℕ) (m : ℕ) → cond b None r ≡ Some m → (b ≡ false) × (r ≡ Some m)
guard_none true r m e = cc
guard_none false r m e = (refl, e)

-- only 0 is printed with a 0 in front
first_zero : (m : ℕ) → m < 2 ^ 64 → get_or (decimal m) 0 0 ≡ 48 → length (decimal m) ≡ 1
first_zero zero h e = ap length (decimal_digit 0 (omega arith))
first_zero (suc m) h e = let f = first_decimal (suc m) (omega arith) h in absurd (omega arith)

both : (a b : Bool) → (a && b) ≡ true → (a ≡ true) × (b ≡ true)
both true true e = (refl, refl)
both true false e = cc
both false b e = cc

read_from : (most n : ℕ) (ds : List ℕ) (m : ℕ) → n ≤ most → digits_from most n ds ≡ Some m → Spells most n ds m
read_from most n [] m small e = let k : n ≡ m = cc in record { digits = refl; value = k; small = omega arith }
read_from most n (c ∷ cs) m small e =
    let g = guard (is_digit c && nat_le (n * 10 + (c - 48)) most) (digits_from most (n * 10 + (c - 48)) cs) m e in
    let t = both (is_digit c) (nat_le (n * 10 + (c - 48)) most) g.0 in
    let le : n * 10 + (c - 48) ≤ most = grind (arith, nat_tests) in
    let r = read_from most (n * 10 + (c - 48)) cs m le g.1 in
    record { digits = rw (t.0, r.digits) refl; value = r.value; small = r.small }

grows : (n : ℕ) (ds : List ℕ) → n ≤ value_from n ds
grows n [] = omega arith
grows n (c ∷ cs) = omega (arith, grows (n * 10 + (c - 48)) cs)

read_back : (most n : ℕ) (ds : List ℕ) → all_ascii_digits ds ≡ true → value_from n ds ≤ most → digits_from most n ds ≡ Some (value_from n ds)
read_back most n [] d s = refl
read_back most n (c ∷ cs) d s =
    let t = both (is_digit c) (all_ascii_digits cs) d in
    let le : nat_le (n * 10 + (c - 48)) most ≡ true = let g = grows (n * 10 + (c - 48)) cs in grind (arith, nat_tests) in
    rw (t.0, le) (read_back most (n * 10 + (c - 48)) cs t.1 s)

-- what is read as a natural number is what is printed of it
pub natural_is : (most : ℕ) (ds : List ℕ) (m : ℕ) → most < 2 ^ 64 → natural_of most ds ≡ Some m → (m ≤ most) × (ds ≡ decimal m)
natural_is most [] m fits e = cc
natural_is most (c ∷ []) m fits e =
    let r = read_from most 0 (c ∷ []) m (omega arith) e in
    (r.small, sym (decimal-digits_value own (c ∷ []) r.digits (omega arith) (λ _. refl) (let h = r.small in rw r.value (omega arith))) ∙ ap decimal r.value)
natural_is most (c ∷ d ∷ cs) m fits e =
    let g = guard_none (c == 48) (digits_from most 0 (c ∷ d ∷ cs)) m e in
    let ne : c ≢ 48 = grind (arith, nat_tests) in
    let r = read_from most 0 (c ∷ d ∷ cs) m (omega arith) g.1 in
    (r.small, sym (decimal-digits_value own (c ∷ d ∷ cs) r.digits (omega arith) (λ h. absurd (ne h)) (let h = r.small in rw r.value (omega arith))) ∙ ap decimal r.value)

-- a text of digits that doesn't begin with a needless 0
plain_natural : (most : ℕ) (ds : List ℕ) → 0 < length ds → (get_or ds 0 0 ≡ 48 → length ds ≡ 1) → natural_of most ds ≡ digits_from most 0 ds
plain_natural most [] l h = absurd (omega arith)
plain_natural most (c ∷ []) l h = refl
plain_natural most (c ∷ d ∷ cs) l h =
    let ne : (c == 48) ≡ false = let k : c ≢ 48 = λ e. let z = h e in absurd (omega arith) in grind (arith, nat_tests) in
    rw ne refl

pub natural_back : (most m : ℕ) → most < 2 ^ 64 → m ≤ most → natural_of most (decimal m) ≡ Some m
natural_back most m limit small =
    let fits : m < 2 ^ 64 = omega arith in
    let v = digits_value-decimal own m fits in
    plain_natural most (decimal m) (decimal_nonempty m fits) (first_zero m fits)
    ∙ read_back most 0 (decimal m) (digits_decimal own m fits) (rw v small) ∙ ap Some v
