-- Sets of numbers as tests, functions that differ at one place, and membership in a list.
use Rattle.std.specs.Prelude.{ℕ, zero, suc, ◌==◌, Bool, true, ◌&&◌, if◌then◌else◌, List, [], ◌∷◌}

-- the least number from 0 on, below the bound, that isn't in the set; else the bound
unfoldable pub least : (ℕ → Bool) → ℕ → ℕ
least a zero = zero
least a (suc k) = if a zero then suc (least (λ i. a (suc i)) k) else zero

-- whether the set has each number below the bound
unfoldable pub all_below : (ℕ → Bool) → ℕ → Bool
all_below a zero = true
all_below a (suc k) = a k && all_below a k

-- so many numbers, ascending, from the first on
abbrev pub numbers_from : ℕ → ℕ → List ℕ
numbers_from first zero = []
numbers_from first (suc count) = first ∷ numbers_from (suc first) count

-- the function with another value at one place
abbrev pub set_at : {X : Type 0} → ℕ → X → (ℕ → X) → ℕ → X
set_at k x f i = if i == k then x else f i
