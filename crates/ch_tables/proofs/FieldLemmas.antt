-- A field by its place.
use Rattle.std.proofs.Common.{◌≡◌, ℕ, zero, suc, ◌<◌, List, [], ◌∷◌, length, get_or, Option, Some, None, refl, ap, arith}
use Rattle.std.specs.Prelude.{IsSome, option_map}
use Rattle.std.specs.Borrow.{Bor}
use Rattle.csv.specs.Records.{field_at}

at_some : (fs : List (List ℕ)) (i : ℕ) → i < length fs → field_at fs i ≡ Some (get_or fs i [])
unfolding field_at
at_some [] i h = absurd (omega arith)
at_some (f ∷ fs) zero h = refl
at_some (f ∷ fs) (suc i) h = at_some fs i (omega arith)

-- a field is there
pub there : (fs : List (List ℕ)) (i : ℕ) (o : Option (Bor (List ℕ))) → option_map (λ s. s.now) o ≡ field_at fs i → i < length fs → IsSome o
there fs i None e h = cc (at_some fs i h)
there fs i (Some f) e h = refl

-- and has its value
pub found : (fs : List (List ℕ)) (i : ℕ) (o : Option (Bor (List ℕ))) (f : Bor (List ℕ)) → option_map (λ s. s.now) o ≡ field_at fs i → i < length fs → o ≡ Some f → f.now ≡ get_or fs i []
found fs i o f e h s = cc (at_some fs i h, ap (option_map (λ (r : Bor (List ℕ)). r.now)) s)
