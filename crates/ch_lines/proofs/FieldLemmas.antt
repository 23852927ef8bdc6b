-- Where the first field of a line ends.
use Rattle.std.proofs.Common.{◌≡◌, ◌<◌, ℕ, Bool, true, false, List, [], ◌∷◌, ◌++◌, refl, ap, ◌∙◌, arith, length, inl, inr}
use Rattle.std.specs.Prelude.{if◌then◌else◌}
use Rattle.std.specs.List.{list_all}
use Rattle.std.proofs.lemmas.Bool.{and_parts, cases_Bool}
use Rattle.std.proofs.lemmas.Bool.Decides.{nat_tests}
use Rattle.ch_lines.specs.Lines.{fields_of, is_blank, is_visible, ends_field, onto_first}

visible : (b : ℕ) (bs : List ℕ) → list_all is_visible (b ∷ bs) ≡ true → (is_blank b ≡ false) × (list_all is_visible bs ≡ true)
visible b bs h = let p = and_parts (is_visible b) (list_all is_visible bs) h in (grind (arith, nat_tests), p.1)

kept : (test : Bool) (a b : List (List ℕ)) → test ≡ false → (if test then a else b) ≡ b
kept test a b h = rw h refl

onto_some : (b : ℕ) (lists : List (List ℕ)) → 0 < length (onto_first b lists)
onto_some b [] = omega arith
onto_some b (x ∷ xs) = omega arith

pub fields_of-first : (field rest : List ℕ) → list_all is_visible field ≡ true → 0 < length field → ends_field rest ≡ true → fields_of (field ++ rest) ≡ field ∷ fields_of rest
fields_of-first [] rest h l e = absurd (omega arith)
fields_of-first (b ∷ []) rest h l e = let i = visible b [] h in rw (i.0, e) refl
fields_of-first (b ∷ c ∷ cs) rest h l e =
    let i = visible b (c ∷ cs) h in
    let j = visible c cs i.1 in
    let more = ap (onto_first b) (fields_of-first (c ∷ cs) rest i.1 (omega arith) e) in
    rw i.0 (kept (is_blank c) _ _ j.0 ∙ more)

-- a line that doesn't begin with a blank
pub fields_of-some : (line : List ℕ) → ends_field line ≡ false → 0 < length (fields_of line)
fields_of-some [] h = cc
fields_of-some (b ∷ bs) h = rw h (elim (cases_Bool (ends_field bs)) [
  | inl t ↦ rw t (omega arith)
  | inr t ↦ rw t (onto_some b (fields_of bs))
])
