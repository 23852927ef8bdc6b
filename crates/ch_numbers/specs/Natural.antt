-- The natural number, up to a greatest one, that a text spells in decimal: `0`, or a digit 1 to 9 and digits.
use Rattle.std.specs.Prelude.{ℕ, ◌+◌, ◌-◌, ◌*◌, ◌&&◌, ◌==◌, nat_le, if◌then◌else◌, List, [], ◌∷◌, Option, Some, None}
use Rattle.ch_cells.specs.Number.{is_digit}

-- the number, at most `most`, that the digits spell when they follow those of n
abbrev pub digits_from : ℕ → ℕ → List ℕ → Option ℕ
digits_from most n [] = Some n
digits_from most n (c ∷ cs) = if is_digit c && nat_le (n * 10 + (c - 48)) most then digits_from most (n * 10 + (c - 48)) cs else None

abbrev pub natural_of : ℕ → List ℕ → Option ℕ
natural_of most [] = None
natural_of most (c ∷ []) = digits_from most 0 (c ∷ [])
natural_of most (c ∷ d ∷ cs) = if c == 48 then None else digits_from most 0 (c ∷ d ∷ cs)
