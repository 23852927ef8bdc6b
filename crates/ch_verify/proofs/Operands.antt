-- The first unknown word of two lists of operands, and the constants of both.
use Rattle.std.proofs.Common.{◌≡◌, ℕ, List, [], ◌∷◌, refl, Option, Some, None, map, ◌++◌, inl, inr}
use Rattle.ch_ir.specs.declared.program.Operand.TheVariants.{Word, Const}
use Rattle.std.specs.Prelude.{is_some}
use Rattle.std.proofs.lemmas.Bool.{cases_Bool}
use Rattle.ch_ir.specs.declared.program.Operand.{Operand}
use Rattle.ch_ir.specs.Rules.{Known, first_unknown}
use Rattle.ch_verify.specs.Fits.{AllConstFit}

-- words hold no constants
pub words_fit : (words : List ℕ) → AllConstFit (map Word words)
words_fit [] = tt
words_fit (w ∷ ws) = (tt, words_fit ws)

-- the first word of two lists
abbrev pub or_first : Option ℕ → Option ℕ → Option ℕ
or_first (Some w) other = Some w
or_first None other = other

pub first_append : (ks : Known) (xs ys : List Operand) → first_unknown ks (xs ++ ys) ≡ or_first (first_unknown ks xs) (first_unknown ks ys)
first_append ks [] ys = refl
first_append ks (Const c ∷ xs) ys = first_append ks xs ys
first_append ks (Word w ∷ xs) ys = elim (cases_Bool (is_some (ks w))) [
  | inl t ↦ rw t (first_append ks xs ys)
  | inr t ↦ rw t refl
]

pub fits_append : (xs ys : List Operand) → AllConstFit xs → AllConstFit ys → AllConstFit (xs ++ ys)
fits_append [] ys f g = g
fits_append (x ∷ xs) ys f g = (f.0, fits_append xs ys f.1 g)
