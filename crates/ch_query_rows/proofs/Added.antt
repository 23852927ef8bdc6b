-- One text more.
use Rattle.std.proofs.Common.{◌≤◌, ◌+◌, ℕ, Bool, true, false, cond, List, [], ◌∷◌, ◌++◌, length, arith}
use Rattle.std.proofs.lemmas.List.{length-append}

pub one_more : {X : Type 0} (there : Bool) (xs : List X) (x : X) (n : ℕ) → length xs ≤ n → length (cond there xs (xs ++ x ∷ [])) ≤ n + 1
one_more true xs x n h = omega arith
one_more false xs x n h = omega (arith, length-append xs (x ∷ []))
