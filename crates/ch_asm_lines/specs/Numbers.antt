-- The number that a text spells in decimal: `0`, or a digit 1 to 9 and digits, with a `-` in front of a negative one.
use Rattle.std.specs.Prelude.{ℕ, zero, suc, ◌==◌, if◌then◌else◌, List, [], ◌∷◌, Option, Some, None, option_map, option_and_then, ℤ, pos, negsuc}
use Rattle.ch_numbers.specs.Natural.{natural_of}

-- a number of 32 bits
unfoldable pub word_of : List ℕ → Option ℕ
word_of text = natural_of 4294967295 text

-- the greatest seed of a hash: a number of 64 bits
abbrev pub greatest_seed : ℕ
greatest_seed = 18446744073709551615

-- a number of 64 bits
unfoldable pub seed_of : List ℕ → Option ℕ
seed_of text = natural_of greatest_seed text

abbrev pub negative : ℕ → Option ℤ
negative zero = None
negative (suc n) = Some (negsuc n)

-- a signed number of 64 bits
unfoldable pub constant_of : List ℕ → Option ℤ
constant_of [] = None
constant_of (c ∷ cs) = if c == 45 then option_and_then negative (natural_of 9223372036854775808 cs) else option_map pos (natural_of 9223372036854775807 (c ∷ cs))
