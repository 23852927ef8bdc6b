-- What is read as a number is what is printed of it.
use Rattle.std.proofs.Common.{◌≡◌, ◌≢◌, ℕ, ◌+◌, ◌-◌, ◌*◌, ◌<◌, ◌≤◌, ◌^◌, Bool, true, false, cond, List, [], ◌∷◌, length, get_or, Option, Some, None, rules, arith, refl, sym, ◌∙◌, ap, subst, zero, suc, inl, inr}
use Rattle.std.specs.Prelude.{ℤ, pos, negsuc, option_map, option_and_then, nat_le, ◌==◌, ◌&&◌, FitsSigned}
use Rattle.std.specs.Int.{w64}
use Rattle.std.specs.Fmt.{decimal, signed_decimal}
use Rattle.std.specs.Str.{all_ascii_digits}
use Rattle.std.proofs.lemmas.Str.Parse.{IsNumeralModel, numerals_by_fold, digit_at}
use Rattle.std.proofs.lemmas.Fmt.{decimal-digits_value, digits_decimal, digits_value-decimal, first_decimal, decimal_nonempty, decimal_digit, decimal_is_IsNumeral}
use Rattle.std.proofs.lemmas.Bool.{cases_Bool}
use Rattle.std.proofs.lemmas.Bool.Decides.{nat_tests}
use Rattle.std.proofs.lemmas.Int.{ints}
use Rattle.ch_cells.specs.Number.{is_digit}
use Rattle.ch_numbers.specs.Natural.{natural_of}
use Rattle.ch_numbers.proofs.Digits.{natural_is, natural_back}
use Rattle.ch_asm_lines.specs.Numbers.{greatest_seed, word_of, seed_of, constant_of, negative}
use Rattle.ch_asm_lines.specs.Range.{IsWord}
use Rattle.ch_asm_lines.proofs.Options.{bound, mapped}

pub word_is : (text : List ℕ) (w : ℕ) → word_of text ≡ Some w → (text ≡ decimal w) × IsWord w
unfolding word_of
word_is text w e = let m = natural_is 4294967295 text w (omega arith) e in let h = m.0 in (m.1, omega arith)

pub word_back : (w : ℕ) → IsWord w → word_of (decimal w) ≡ Some w
unfolding word_of
word_back w h = natural_back 4294967295 w (omega arith) (omega arith)

pub seed_is : (text : List ℕ) (n : ℕ) → seed_of text ≡ Some n → (text ≡ decimal n) × (n < 2 ^ 64)
unfolding seed_of
seed_is text n e = let m = natural_is greatest_seed text n (omega arith) e in let h = m.0 in (m.1, omega arith)

pub seed_back : (n : ℕ) → n < 2 ^ 64 → seed_of (decimal n) ≡ Some n
unfolding seed_of
seed_back n h = natural_back greatest_seed n (omega arith) (omega arith)

negative_is : (n : ℕ) (v : ℤ) → negative n ≡ Some v → n ≤ 9223372036854775808 → (signed_decimal v ≡ 45 ∷ decimal n) × FitsSigned w64 v
negative_is zero v e h = cc
negative_is (suc n) v e h =
    let same : negsuc n ≡ v = cc in
    subst (λ (z : ℤ). (signed_decimal z ≡ 45 ∷ decimal (suc n)) × FitsSigned w64 z) same (refl, omega (arith, ints))

pub constant_is : (text : List ℕ) (v : ℤ) → constant_of text ≡ Some v → (text ≡ signed_decimal v) × FitsSigned w64 v
unfolding constant_of
constant_is [] v e = cc
constant_is (c ∷ cs) v e = elim (cases_Bool (c == 45)) [
  | inl minus ↦
      let at : c ≡ 45 = grind (arith, nat_tests) in
      let b = bound (natural_of 9223372036854775808 cs) negative v (rw minus at e) in
      let m = natural_is 9223372036854775808 cs b.0 (omega arith) b.1 in
      let n = negative_is b.0 v b.2 m.0 in
      (ap (λ x. x ∷ cs) at ∙ ap (λ xs. 45 ∷ xs) m.1 ∙ sym n.0, n.1)
  | inr plain ↦
      let b = mapped pos (natural_of 9223372036854775807 (c ∷ cs)) v (rw plain at e) in
      let m = natural_is 9223372036854775807 (c ∷ cs) b.0 (omega arith) b.1 in
      let h = m.0 in
      subst (λ (z : ℤ). (c ∷ cs ≡ signed_decimal z) × FitsSigned w64 z) b.2 (m.1, omega (arith, ints))
]

constant_plain : (ds : List ℕ) → 0 < length ds → get_or ds 0 0 ≢ 45 → constant_of ds ≡ option_map pos (natural_of 9223372036854775807 ds)
unfolding constant_of
constant_plain [] l ne = absurd (omega arith)
constant_plain (c ∷ cs) l ne = let t : (c == 45) ≡ false = grind (arith, nat_tests) in rw t refl

pub constant_back : (v : ℤ) → FitsSigned w64 v → constant_of (signed_decimal v) ≡ Some v
unfolding constant_of
constant_back (pos n) h =
    let small : n ≤ 9223372036854775807 = omega (arith, ints) in
    let fits : n < 2 ^ 64 = omega arith in
    let some = decimal_nonempty n fits in
    let digit = digit_at (decimal n) 0 (decimal_is_IsNumeral n fits).0.1 some in
    constant_plain (decimal n) some (λ e. omega arith) ∙ ap (option_map pos) (natural_back 9223372036854775807 n (omega arith) small)
constant_back (negsuc n) h =
    let small : suc n ≤ 9223372036854775808 = omega (arith, ints) in
    ap (option_and_then negative) (natural_back 9223372036854775808 (suc n) (omega arith) small)
