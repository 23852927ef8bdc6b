-- The program of Having.
use Rattle.std.specs.Prelude.{ℕ, zero, suc, ◌+◌, ◌*◌, List, [], ◌∷◌, ◌++◌, length, replicate, pos, Option, Some, None}
use Rattle.ch_ir.specs.declared.program.Operand.{Operand}
use Rattle.ch_ir.specs.declared.program.Operand.TheVariants.{Word, Const}
use Rattle.ch_ir.specs.declared.program.Binary.TheVariants as binary
use Rattle.ch_ir.specs.declared.program.Op.{Op}
use Rattle.ch_ir.specs.declared.program.Op.TheVariants.{Two, Pick, Hash}
use Rattle.ch_ir.specs.declared.program.Update.TheVariants as update
use Rattle.ch_ir.specs.declared.program.Access.{Access}
use Rattle.ch_ir.specs.declared.program.Array.{Array}
use Rattle.ch_ir.specs.declared.program.Program.{Program}
use Rattle.ch_prune.specs.declared.operator.Need.{Need}
use Rattle.ch_prune.specs.Fronts.{front_operand}
use Rattle.op_moves.specs.Moves.{Move, Compute, Reach, program_of}
use Rattle.op_moves.specs.Sheets.{cell_access}
use Rattle.op_having.specs.declared.sizes.Sizes.{Sizes}

abbrev pub value_operand : Option ℕ → Operand
value_operand None = Const (pos 1)
value_operand (Some p) = Word p

-- width: whether the bit is set
abbrev pub bit_op : Sizes → Op
bit_op d = Two d.width binary.Ne front_operand (Const (pos 0))

-- width + 1: whether it's the first pass
abbrev pub first_op : Sizes → Op
first_op d = Two (d.width + 1) binary.Eq (Word 0) (Const (pos 1))

-- width + 2: what is added
abbrev pub added_op : Sizes → Op
added_op d = Pick (d.width + 2) (Word (d.width + 1)) (value_operand d.value) (Const (pos 0))

abbrev pub firsts : Sizes → List Move
firsts d = Compute (bit_op d) ∷ Compute (first_op d) ∷ Compute (added_op d) ∷ []

-- base: the cell of the key
abbrev pub hash_op : Sizes → (i base : ℕ) → Op
hash_op d i base = Hash base i d.cells d.keys

-- base + 1, base + 2: the sum and hit
abbrev pub sum_access : Sizes → (i base : ℕ) → Access
sum_access d i base = cell_access i base d.width (update.AddSat (Word (d.width + 2))) (base + 1)

-- base + 3: the sum isn't above
abbrev pub low_op : Sizes → (base : ℕ) → Op
low_op d base = Two (base + 3) binary.Le (Word (base + 1)) (Const d.above)

-- base + 4: this sum isn't above, or an earlier one, or it's the first pass
abbrev pub bad_op : (base bad : ℕ) → Op
bad_op base bad = Two (base + 4) binary.Or (Word bad) (Word (base + 3))

abbrev pub one_hash : Sizes → (i base bad : ℕ) → List Move
one_hash d i base bad = Compute (hash_op d i base) ∷ Reach (sum_access d i base) ∷ Compute (low_op d base) ∷ Compute (bad_op base bad) ∷ []

abbrev pub sweep : Sizes → (left i base bad : ℕ) → List Move
sweep d zero i base bad = []
sweep d (suc left) i base bad = one_hash d i base bad ++ sweep d left (i + 1) (base + 5) (base + 4)

-- the word that tells whether the row is bad, after some hashes
abbrev pub bad_after : (left base bad : ℕ) → ℕ
bad_after zero base bad = bad
bad_after (suc left) base bad = bad_after left (base + 5) (base + 4)

abbrev pub bad_word : Sizes → ℕ
bad_word d = bad_after d.hashes (d.width + 3) (d.width + 1)

abbrev pub verdict_of : Sizes → ℕ
verdict_of d = d.width + 3 + 5 * d.hashes

-- pruned where the bit isn't set, or the row is bad
abbrev pub last_op : Sizes → Op
last_op d = Two (verdict_of d) binary.Le (Word d.width) (Word (bad_word d))

abbrev pub arrays_of : Sizes → List Array
arrays_of d = replicate d.hashes (record { entries = d.cells; cells = 1 })

abbrev pub moves_of : Sizes → List Move
moves_of d = firsts d ++ (sweep d d.hashes 0 (d.width + 3) (d.width + 1) ++ Compute (last_op d) ∷ [])

abbrev pub program : Sizes → Program
program d = program_of d.width (arrays_of d) (moves_of d) (verdict_of d)

abbrev pub having_need : Sizes → Need
having_need d = record { width = d.width; cells = d.cells; words = d.width + 32 + d.hashes * (length d.keys + 32); stages = 2 + d.hashes }
