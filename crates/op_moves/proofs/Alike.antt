-- One more of the same.
use Rattle.std.proofs.Common.{◌≡◌, ℕ, zero, suc, ◌+◌, List, [], ◌∷◌, ◌++◌, refl, ap, arith, replicate}

pub replicate_push : {X : Type 0} (n : ℕ) (x : X) → replicate (n + 1) x ≡ replicate n x ++ x ∷ []
replicate_push zero x = refl
replicate_push {X} (suc n) x = let e : suc n + 1 ≡ suc (n + 1) = omega arith in rw e (ap (λ (xs : List X). x ∷ xs) (replicate_push n x))
