-- The entries of an array, as a function of their place.
use Rattle.std.proofs.Common.{◌≡◌, ◌<◌, ℕ, zero, suc, ◌+◌, List, [], ◌∷◌, ℤ, refl, ◌∙◌, ap, ap₂, arith, length, get_or, set, inl, inr, nat_eq, replicate}
use Rattle.std.specs.Prelude.{if◌then◌else◌}
use Rattle.std.proofs.lemmas.Bool.{cases_eq, eq-eqb, ne_eqb}

abbrev pub entries : ℕ → (ℕ → List ℤ) → List (List ℤ)
entries zero f = []
entries (suc n) f = f 0 ∷ entries n (λ c. f (c + 1))

pub entries_length : (n : ℕ) (f : ℕ → List ℤ) → length (entries n f) ≡ n
entries_length zero f = refl
entries_length (suc n) f = let e = entries_length n (λ c. f (c + 1)) in omega arith

pub entries_at : (n : ℕ) (f : ℕ → List ℤ) (r : ℕ) → r < n → get_or (entries n f) r [] ≡ f r
entries_at zero f r h = absurd (omega arith)
entries_at (suc n) f zero h = refl
entries_at (suc n) f (suc r) h = entries_at n (λ c. f (c + 1)) r (omega arith) ∙ ap f (omega arith)

pub entries_same : (n : ℕ) (f g : ℕ → List ℤ) → ((c : ℕ) → c < n → f c ≡ g c) → entries n f ≡ entries n g
entries_same zero f g h = refl
entries_same (suc n) f g h =
    ap₂ (λ (v : List ℤ) (rest : List (List ℤ)). v ∷ rest) (h 0 (omega arith)) (entries_same n (λ c. f (c + 1)) (λ c. g (c + 1)) (λ c k. h (c + 1) (omega arith)))

shifted : (r c : ℕ) (v x : List ℤ) → (if nat_eq c r then v else x) ≡ (if nat_eq (c + 1) (suc r) then v else x)
shifted r c v x = elim (cases_eq c r) [
  | inl e ↦ rw (eq-eqb c r e, eq-eqb (c + 1) (suc r) (omega arith)) refl
  | inr e ↦ rw (ne_eqb c r e, ne_eqb (c + 1) (suc r) (omega arith)) refl
]

pub entries_set : (n : ℕ) (f : ℕ → List ℤ) (r : ℕ) (v : List ℤ) → r < n → set (entries n f) r v ≡ entries n (λ c. if nat_eq c r then v else f c)
entries_set zero f r v h = absurd (omega arith)
entries_set (suc n) f zero v h =
    ap (λ (rest : List (List ℤ)). v ∷ rest)
    (entries_same n (λ c. f (c + 1)) (λ c. if nat_eq (c + 1) 0 then v else f (c + 1)) (λ c k. rw (ne_eqb (c + 1) 0 (omega arith)) refl))
entries_set (suc n) f (suc r) v h =
    ap₂ (λ (first : List ℤ) (rest : List (List ℤ)). first ∷ rest)
    (rw (ne_eqb 0 (suc r) (omega arith)) refl)
    (entries_set n (λ c. f (c + 1)) r v (omega arith) ∙ entries_same n (λ c. if nat_eq c r then v else f (c + 1)) (λ c. if nat_eq (c + 1) (suc r) then v else f (c + 1)) (λ c k. shifted r c v (f (c + 1))))

-- entries that are all alike
pub entries_alike : (n : ℕ) (v : List ℤ) → entries n (λ c. v) ≡ replicate n v
entries_alike zero v = refl
entries_alike (suc n) v = ap (λ (rest : List (List ℤ)). v ∷ rest) (entries_alike n v)
