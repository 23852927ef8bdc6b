-- The hash of a list of words, on 64 bits.
use Rattle.std.specs.Prelude.{ℕ, ◌+◌, ◌*◌, ◌%◌, ◌/◌, ◌^◌, ◌<◌, List, [], ◌∷◌, ℤ, bit_xor}
use Rattle.std.specs.Int.{w64, cast_unsigned}
use Rattle.std.proofs.Common.{arith}

abbrev pub golden : ℕ
golden = 0x9E37_79B9_7F4A_7C15

abbrev pub folded : ℕ → ℕ
folded h = bit_xor h (h / 2 ^ 32)

-- one word, as its two's complement
unfoldable pub hash_step : ℕ → ℤ → ℕ
hash_step h x = folded ((bit_xor h (cast_unsigned w64 x) * golden) % 2 ^ 64)

abbrev pub hash_from : ℕ → List ℤ → ℕ
hash_from h [] = h
hash_from h (x ∷ xs) = hash_from (hash_step h x) xs

abbrev pub hash_first : ℕ → ℕ
hash_first seed = (((seed * golden) % 2 ^ 64) + 1) % 2 ^ 64

unfoldable pub hash_of : ℕ → List ℤ → ℕ → ℕ
hash_of seed words n = hash_from (hash_first seed) words % n

pub hash_of-below : (seed : ℕ) (words : List ℤ) (n : ℕ) → 0 < n → hash_of seed words n < n
unfolding hash_of
hash_of-below seed words n h = omega arith
