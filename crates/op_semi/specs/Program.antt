-- The program of a semi-join: the Bloom filters, and then the lists of the inner keys that passed.
use Rattle.std.specs.Prelude.{ℕ, ◌+◌, ◌*◌, List, [], ◌∷◌, ◌++◌, pos, replicate, max}
use Rattle.ch_ir.specs.declared.program.Operand.{Operand}
use Rattle.ch_ir.specs.declared.program.Operand.TheVariants.{Word, Const}
use Rattle.ch_ir.specs.declared.program.Binary.TheVariants as binary
use Rattle.ch_ir.specs.declared.program.Op.{Op}
use Rattle.ch_ir.specs.declared.program.Op.TheVariants.{Two, Hash}
use Rattle.ch_ir.specs.declared.program.Array.{Array}
use Rattle.ch_ir.specs.declared.program.Program.{Program}
use Rattle.ch_prune.specs.declared.operator.Need.{Need}
use Rattle.op_moves.specs.Moves.{Move, Compute, program_of}
use Rattle.op_bloom.specs.Program.{bad_word, end_of, bloom_moves, bloom_arrays}
use Rattle.op_cache.specs.Emitted.{columns, gate_after}
use Rattle.op_semi.specs.declared.sizes.Sizes.{Sizes}

-- the word of the key
abbrev pub key_word : Sizes → ℕ
key_word d = d.bloom.width + 2

-- end: the bit is set, and the row isn't bad
abbrev pub ok_op : Sizes → Op
ok_op d = Two (end_of d.bloom) binary.Lt (Word (bad_word d.bloom)) (Word d.bloom.width)

-- end + 1: the hash row of the key
abbrev pub row_op : Sizes → Op
row_op d = Hash (end_of d.bloom + 1) 0 d.rows (key_word d ∷ [])

-- end + 2: an inner row that passed
abbrev pub inner_op : Sizes → Op
inner_op d = Two (end_of d.bloom + 2) binary.And (Word (end_of d.bloom)) (Word 1)

-- a mark and the key
abbrev pub carried_of : Sizes → List Operand
carried_of d = Const (pos 1) ∷ Word (key_word d) ∷ []

abbrev pub list_moves : Sizes → List Move
list_moves d = columns d.cols d.bloom.hashes (end_of d.bloom + 3) (end_of d.bloom + 2) (end_of d.bloom + 1) (key_word d ∷ []) (carried_of d)

-- the gate after the lists: an inner row that passed and whose key isn't listed
abbrev pub fresh_word : Sizes → ℕ
fresh_word d = gate_after 1 d.cols (end_of d.bloom + 3) (end_of d.bloom + 2)

abbrev pub last_of : Sizes → ℕ
last_of d = end_of d.bloom + 3 + 4 * d.cols

-- an inner row that passed and whose key is listed
abbrev pub listed_op : Sizes → Op
listed_op d = Two (last_of d) binary.Lt (Word (fresh_word d)) (Word (end_of d.bloom + 2))

-- pruned where the row isn't in order, or is listed
abbrev pub verdict_op : Sizes → Op
verdict_op d = Two (last_of d + 1) binary.Le (Word (end_of d.bloom)) (Word (last_of d))

abbrev pub firsts_of_lists : Sizes → List Move
firsts_of_lists d = Compute (ok_op d) ∷ Compute (row_op d) ∷ Compute (inner_op d) ∷ []

abbrev pub after_lists : Sizes → List Move
after_lists d = Compute (listed_op d) ∷ Compute (verdict_op d) ∷ []

abbrev pub after_bloom : Sizes → List Move
after_bloom d = firsts_of_lists d ++ (list_moves d ++ after_lists d)

abbrev pub list_arrays : Sizes → List Array
list_arrays d = replicate d.cols (record { entries = d.rows; cells = 2 })

abbrev pub arrays_of : Sizes → List Array
arrays_of d = bloom_arrays d.bloom ++ list_arrays d

abbrev pub moves_of : Sizes → List Move
moves_of d = bloom_moves d.bloom ++ after_bloom d

abbrev pub program : Sizes → Program
program d = program_of d.bloom.width (arrays_of d) (moves_of d) (last_of d + 1)

abbrev pub semi_need : Sizes → Need
semi_need d = record {
  width = d.bloom.width;
  cells = max (2 * d.bloom.cells) (2 * d.rows);
  words = d.bloom.width + 32 + (d.bloom.hashes + d.cols) * 33;
  stages = 2 + (d.bloom.hashes + d.cols);
}
