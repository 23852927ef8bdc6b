-- The Bloom test of Join and Semi: whether the rows of the other side may have had a row's key.
use Rattle.std.specs.Prelude.{ℕ, zero, suc, ◌+◌, ◌*◌, ◌==◌, if◌then◌else◌, ℤ, Bool, true, not, ◌&&◌, List, [], ◌∷◌}
use Rattle.std.specs.List.{list_any}
use Rattle.ch_cover.specs.Rows.{Row}
use Rattle.ch_ir.specs.Hash.{hash_of}
use Rattle.op_moves.specs.Values.{word_at}
use Rattle.op_bloom.specs.declared.sizes.Sizes.{Sizes}

-- the key word of a row, by its side
abbrev pub key_of : Sizes → Row → ℤ
key_of d r = if r.side == 0 then word_at r d.left else word_at r d.right

-- the i-th bit and cell of a key
abbrev pub bit_of : ℕ → ℤ → ℕ
bit_of i k = hash_of (2 * i) (k ∷ []) 32

abbrev pub cell_of : Sizes → ℕ → ℤ → ℕ
cell_of d i k = hash_of (2 * i + 1) (k ∷ []) d.cells

abbrev pub same_place : Sizes → ℕ → ℤ → ℤ → Bool
same_place d i k l = (cell_of d i k == cell_of d i l) && (bit_of i k == bit_of i l)

-- a row of the first pass and of the other side, whose bit is set
abbrev pub is_other : ℕ × Row → Row → Bool
is_other x r = (x.0 == 1) && (x.1.bit && not (x.1.side == r.side))

-- such a row shares the i-th cell and bit of the row
abbrev pub meets : Sizes → List (ℕ × Row) → Row → ℕ → Bool
meets d before r i = list_any (λ x. is_other x r && same_place d i (key_of d x.1) (key_of d r)) before

-- by each of the first n hashes
abbrev pub meets_all : Sizes → List (ℕ × Row) → Row → ℕ → Bool
meets_all d before r zero = true
meets_all d before r (suc i) = meets d before r i && meets_all d before r i

-- the row passes the Bloom test
abbrev pub passes_bloom : Sizes → List (ℕ × Row) → Row → Bool
passes_bloom d before r = meets_all d before r d.hashes
