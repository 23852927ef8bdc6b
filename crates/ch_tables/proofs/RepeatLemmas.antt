-- A name that stands earlier.
use Rattle.std.proofs.Common.{◌≡◌, ℕ, ◌<◌, ◌≤◌, Bool, true, false, List, [], ◌∷◌, length, get_or, take, drop, Some, refl, sym, ap, ◌∙◌, arith, length-append, length-take-le, drop-cons}
use Rattle.std.specs.Prelude.{bytes_eq}
use Rattle.std.specs.List.{list_any}
use Rattle.ch_tables.specs.Refusal.{repeated, repeated_from}
use Rattle.ch_tables.specs.Texts.{with_text}
use Rattle.ch_tables.proofs.TextLemmas.{with_text-new}

-- where the names don't grow, the one at hand is repeated
pub repeated_here : (fs : List (List ℕ)) (i : ℕ) (names after : List (List ℕ)) (text : List ℕ) → i < length fs
    → names ≡ take i fs → text ≡ get_or fs i [] → after ≡ with_text names text → length after ≡ i
    → repeated_from i (take i fs) (drop i fs) ≡ repeated fs → Some i ≡ repeated fs
repeated_here fs i names after text h n t a size same = by (list_any (bytes_eq text) names) refl
  where
    by : (b : Bool) → list_any (bytes_eq text) names ≡ b → Some i ≡ repeated fs
    by true e =
        let at : list_any (bytes_eq (get_or fs i [])) (take i fs) ≡ true = rw (← t, ← n) e in
        let here : repeated_from i (take i fs) (drop i fs) ≡ Some i = rw (drop-cons fs i [], at) refl in
        sym here ∙ same
    by false e =
        let grown = ap length (a ∙ with_text-new names text e) in
        let before = ap length n in
        let taken : i ≤ length fs = omega arith in
        absurd (omega (arith, length-append names (text ∷ []), length-take-le i fs taken))
