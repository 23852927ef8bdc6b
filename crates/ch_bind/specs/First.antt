-- A search by place.
use Rattle.std.specs.Prelude.{ℕ, ◌+◌, Bool, List, [], ◌∷◌, Option, Some, None, if◌then◌else◌}

-- the place of the first item that passes, where they are numbered from `at`
abbrev pub first_from : {X : Type 0} → (X → Bool) → ℕ → List X → Option ℕ
first_from passes at [] = None
first_from passes at (x ∷ xs) = if passes x then Some at else first_from passes (at + 1) xs

abbrev pub first : {X : Type 0} → (X → Bool) → List X → Option ℕ
first passes xs = first_from passes 0 xs
