-- The words of the generator of a seed, one behind the other.
use Rattle.std.specs.Prelude.{ℕ, ◌%◌}
use Rattle.rand_pcg.specs.Lcg.{Lcg, advance, increment_of, started}
use Rattle.rand_pcg.specs.Pcg.{multiplier_64, pcg32}

unfoldable pub generator_of : ℕ → Lcg
generator_of seed = started 64 multiplier_64 seed (increment_of 64 0)

-- the generator when so many words are drawn
unfoldable pub after : ℕ → Lcg → Lcg
after words generator = advance 64 multiplier_64 words generator

-- its next word
unfoldable pub word : Lcg → ℕ
word generator = (pcg32 generator).0

-- a number below another, by the next word
abbrev pub drawn : ℕ → Lcg → ℕ
drawn below generator = word generator % below
