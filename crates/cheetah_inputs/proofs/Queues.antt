-- A queue from which nothing was popped.
use Rattle.std.proofs.Common.{◌≡◌, ap, refl, ℕ, suc, List, [], ◌∷◌, drop, length, arith}

pub none_popped : {X : Type 0} (old new : List X) → old ≡ new → new ≡ drop 1 old → old ≡ []
none_popped [] new whole rest = refl
none_popped (x ∷ xs) new whole rest =
    let shorter : length new ≡ length xs = ap length rest in
    let same : suc (length xs) ≡ length new = ap length whole in
    absurd (omega (arith, shorter, same))
