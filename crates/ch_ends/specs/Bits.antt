-- Bits that are packed into words.
use Rattle.std.specs.Prelude.{ℕ, ◌/◌, ◌%◌, ◌==◌, Bool, false, List, map, slice_index, slice_index_or}
use Rattle.std.specs.Int.{bit_at}
use Rattle.ch_protocol.specs.Sets.{numbers_from}

-- the bit of a number, 64 to a word
abbrev pub packed_bit : List ℕ → ℕ → Bool
packed_bit words k = bit_at (slice_index words (k / 64)) (k % 64) == 1

-- the bits of the numbers below a bound
abbrev pub unpacked : ℕ → List ℕ → List Bool
unpacked count words = map (packed_bit words) (numbers_from 0 count)

-- whether the bit of a number is set; past the end it isn't
abbrev pub has_bit : List Bool → ℕ → Bool
has_bit bits k = slice_index_or bits k false
