-- The moves of the Bloom filters.
use Rattle.std.specs.Prelude.{ℕ, zero, suc, ◌+◌, ◌*◌, List, [], ◌∷◌, ◌++◌, replicate, pos}
use Rattle.ch_ir.specs.declared.program.Operand.TheVariants.{Word, Const}
use Rattle.ch_ir.specs.declared.program.Binary.TheVariants as binary
use Rattle.ch_ir.specs.declared.program.Op.{Op}
use Rattle.ch_ir.specs.declared.program.Access.{Access}
use Rattle.ch_ir.specs.declared.program.Op.TheVariants.{Two, Bit, Pick, Hash}
use Rattle.ch_ir.specs.declared.program.Update.TheVariants as update
use Rattle.ch_ir.specs.declared.program.Array.{Array}
use Rattle.ch_prune.specs.Fronts.{front_operand}
use Rattle.op_moves.specs.Moves.{Move, Compute, Reach}
use Rattle.op_moves.specs.Sheets.{cell_access}
use Rattle.op_bloom.specs.declared.sizes.Sizes.{Sizes}

-- width: whether the bit is set
abbrev pub set_op : Sizes → Op
set_op d = Two d.width binary.Ne front_operand (Const (pos 0))

-- width + 1: whether it's the first pass
abbrev pub first_op : Sizes → Op
first_op d = Two (d.width + 1) binary.Eq (Word 0) (Const (pos 1))

-- width + 2: the key of the row's side
abbrev pub key_op : Sizes → Op
key_op d = Pick (d.width + 2) (Word 1) (Word d.right) (Word d.left)

-- width + 3: whether the half of side 1 is reached: in the first pass a row reaches its own half, later the other one
abbrev pub half_op : Sizes → Op
half_op d = Two (d.width + 3) binary.Eq (Word 1) (Word (d.width + 1))

-- width + 4: where the half begins
abbrev pub offset_op : Sizes → Op
offset_op d = Pick (d.width + 4) (Word (d.width + 3)) (Const (pos d.cells)) (Const (pos 0))

abbrev pub firsts : Sizes → List Move
firsts d = Compute (set_op d) ∷ Compute (first_op d) ∷ Compute (key_op d) ∷ Compute (half_op d) ∷ Compute (offset_op d) ∷ []

-- base: the number of the bit
abbrev pub hash_op : Sizes → (i base : ℕ) → Op
hash_op d i base = Hash base (2 * i) 32 ((d.width + 2) ∷ [])

-- base + 1: the bit
abbrev pub bit_op : ℕ → Op
bit_op base = Bit (base + 1) (Word base)

-- base + 2: the cell
abbrev pub cell_op : Sizes → (i base : ℕ) → Op
cell_op d i base = Hash (base + 2) (2 * i + 1) d.cells ((d.width + 2) ∷ [])

-- base + 3: the entry, in its half
abbrev pub entry_op : Sizes → ℕ → Op
entry_op d base = Two (base + 3) binary.Add (Word (d.width + 4)) (Word (base + 2))

-- base + 4: what is put there, which is nothing but in the first pass
abbrev pub put_op : Sizes → ℕ → Op
put_op d base = Pick (base + 4) (Word (d.width + 1)) (Word (base + 1)) (Const (pos 0))

-- base + 5, base + 6: the entry as it was, and hit
abbrev pub filter_access : Sizes → (i base : ℕ) → Access
filter_access d i base = cell_access i (base + 3) d.width (update.Or (Word (base + 4))) (base + 5)

-- base + 7: its bit
abbrev pub mask_op : ℕ → Op
mask_op base = Two (base + 7) binary.Mask (Word (base + 5)) (Word (base + 1))

-- base + 8: whether it lacks the bit
abbrev pub clear_op : ℕ → Op
clear_op base = Two (base + 8) binary.Eq (Word (base + 7)) (Const (pos 0))

-- base + 9: this entry lacks it, or an earlier one, or it's the first pass
abbrev pub bad_op : (base bad : ℕ) → Op
bad_op base bad = Two (base + 9) binary.Or (Word bad) (Word (base + 8))

-- a hash up to its access, and after it
abbrev pub places_of_hash : Sizes → (i base : ℕ) → List Move
places_of_hash d i base =
    Compute (hash_op d i base) ∷ Compute (bit_op base) ∷ Compute (cell_op d i base) ∷ Compute (entry_op d base) ∷ Compute (put_op d base) ∷ Reach (filter_access d i base) ∷ []

abbrev pub tests_of_hash : (base bad : ℕ) → List Move
tests_of_hash base bad = Compute (mask_op base) ∷ Compute (clear_op base) ∷ Compute (bad_op base bad) ∷ []

abbrev pub one_hash : Sizes → (i base bad : ℕ) → List Move
one_hash d i base bad = places_of_hash d i base ++ tests_of_hash base bad

abbrev pub sweep : Sizes → (left i base bad : ℕ) → List Move
sweep d zero i base bad = []
sweep d (suc left) i base bad = one_hash d i base bad ++ sweep d left (i + 1) (base + 10) (base + 9)

-- the word that tells whether the row is bad, after some hashes
abbrev pub bad_after : (left base bad : ℕ) → ℕ
bad_after zero base bad = bad
bad_after (suc left) base bad = bad_after left (base + 10) (base + 9)

abbrev pub bad_word : Sizes → ℕ
bad_word d = bad_after d.hashes (d.width + 5) (d.width + 1)

-- the next word after them
abbrev pub end_of : Sizes → ℕ
end_of d = d.width + 5 + 10 * d.hashes

abbrev pub bloom_moves : Sizes → List Move
bloom_moves d = firsts d ++ sweep d d.hashes 0 (d.width + 5) (d.width + 1)

abbrev pub bloom_arrays : Sizes → List Array
bloom_arrays d = replicate d.hashes (record { entries = 2 * d.cells; cells = 1 })
