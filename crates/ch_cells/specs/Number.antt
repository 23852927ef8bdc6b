-- The spelling of a whole-number cell: `0`, or an optional `-`, a digit 1 to 9, then digits, of at most 2^61 - 1 in magnitude.
use Rattle.std.specs.Prelude.{◌≡◌, ℕ, ◌+◌, ◌-◌, ◌*◌, ◌≤◌, Bool, ◌&&◌, ◌==◌, nat_le, if◌then◌else◌, List, [], ◌∷◌, Option, Some, None, option_map, ℤ, pos, neg_ℤ}
use Rattle.std.specs.Fmt.{signed_decimal}
use Rattle.std.specs.Int.RustNames.{unsigned_abs}

-- the greatest magnitude of a cell
abbrev pub greatest_magnitude : ℕ
greatest_magnitude = 2305843009213693951

-- the text spells this number, which is in range
pub record IsCellNumber (v : ℤ) (text : List ℕ) : Type 0 where
  pub range : unsigned_abs v ≤ greatest_magnitude
  pub spelled : text ≡ signed_decimal v

abbrev pub is_digit : ℕ → Bool
is_digit c = nat_le 48 c && nat_le c 57

-- the number that the digits spell when they follow those of n
abbrev pub digits_from : ℕ → List ℕ → Option ℕ
digits_from n [] = Some n
digits_from n (c ∷ cs) = if is_digit c && nat_le (n * 10 + (c - 48)) greatest_magnitude then digits_from (n * 10 + (c - 48)) cs else None

abbrev pub magnitude_of : List ℕ → Option ℕ
magnitude_of [] = None
magnitude_of (c ∷ []) = digits_from 0 (c ∷ [])
magnitude_of (c ∷ d ∷ cs) = if c == 48 then None else digits_from 0 (c ∷ d ∷ cs)

abbrev pub negative_of : List ℕ → Option ℤ
negative_of [] = None
negative_of (c ∷ cs) = if c == 48 then None else option_map (λ n. neg_ℤ (pos n)) (magnitude_of (c ∷ cs))

abbrev pub number_of : List ℕ → Option ℤ
number_of [] = None
number_of (c ∷ cs) = if c == 45 then negative_of cs else option_map pos (magnitude_of (c ∷ cs))
