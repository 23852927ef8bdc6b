-- Reading behind an open quote.
use Rattle.std.specs.Prelude.{ℕ, ◌+◌, ◌==◌, List, [], ◌∷◌, ◌++◌, Option, Some, None, option_map, if◌then◌else◌}

abbrev pub or_else : {A : Type 0} → Option A → Option A → Option A
or_else (Some x) o = Some x
or_else None o = o

abbrev pub with_byte : ℕ → ℕ → Option (List ℕ × ℕ) → Option (List ℕ × ℕ)
with_byte b len o = option_map (λ r. (b ∷ r.0, r.1 + len)) o

-- what stands behind an open quote up to the last quote that can close it, and how many bytes it takes with that quote
unfoldable pub quoted_of : ℕ → List ℕ → Option (List ℕ × ℕ)
quoted_of q [] = None
quoted_of q (b ∷ []) = if b == q then Some ([], 1) else None
quoted_of q (b ∷ c ∷ bs) =
    if b == q then (if c == q then or_else (with_byte q 2 (quoted_of q bs)) (Some ([], 1)) else Some ([], 1)) else with_byte b 1 (quoted_of q (c ∷ bs))

-- the same behind what was read before
abbrev pub with_front : List ℕ → ℕ → Option (List ℕ × ℕ) → Option (List ℕ × ℕ)
with_front front len o = option_map (λ r. (front ++ r.0, r.1 + len)) o
