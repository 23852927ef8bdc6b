-- The program of Distinct: the gate, the hash row, and a column for each place of a list.
use Rattle.std.specs.Prelude.{ℕ, ◌+◌, ◌*◌, List, [], ◌∷◌, ◌++◌, length, map, pos, replicate}
use Rattle.ch_ir.specs.declared.program.Operand.{Operand}
use Rattle.ch_ir.specs.declared.program.Operand.TheVariants.{Word, Const}
use Rattle.ch_ir.specs.declared.program.Binary.TheVariants as binary
use Rattle.ch_ir.specs.declared.program.Op.{Op}
use Rattle.ch_ir.specs.declared.program.Op.TheVariants.{Two, Hash}
use Rattle.ch_ir.specs.declared.program.Array.{Array}
use Rattle.ch_ir.specs.declared.program.Program.{Program}
use Rattle.ch_prune.specs.Fronts.{front_operand}
use Rattle.ch_prune.specs.declared.operator.Need.{Need}
use Rattle.op_moves.specs.Moves.{Move, Compute, program_of}
use Rattle.op_cache.specs.Emitted.{columns, gate_after}
use Rattle.op_distinct.specs.Sizes.{Sizes}

-- From the width w on:  w  the gate   w + 1  the hash row   w + 2  the columns, n + 3 words each   last  the verdict
abbrev pub gate_op : Sizes → Op
gate_op s = Two s.width binary.Ne front_operand (Const (pos 0))

abbrev pub row_op : Sizes → Op
row_op s = Hash (s.width + 1) 0 s.rows s.key

-- a mark, and the key
abbrev pub carried_of : Sizes → List Operand
carried_of s = Const (pos 1) ∷ map Word s.key

abbrev pub lists_of : Sizes → List Move
lists_of s = columns s.cols 0 (s.width + 2) s.width (s.width + 1) s.key (carried_of s)

abbrev pub fresh_word : Sizes → ℕ
fresh_word s = gate_after (length s.key) s.cols (s.width + 2) s.width

abbrev pub last_of : Sizes → ℕ
last_of s = s.width + 2 + (length s.key + 3) * s.cols

-- pruned where the gate was shut, or the key was found
abbrev pub verdict_op : Sizes → Op
verdict_op s = Two (last_of s) binary.Eq (Word (fresh_word s)) (Const (pos 0))

abbrev pub moves_of : Sizes → List Move
moves_of s = Compute (gate_op s) ∷ Compute (row_op s) ∷ (lists_of s ++ Compute (verdict_op s) ∷ [])

abbrev pub arrays_of : Sizes → List Array
arrays_of s = replicate s.cols (record { entries = s.rows; cells = length s.key + 1 })

abbrev pub distinct_program : Sizes → Program
distinct_program s = program_of s.width (arrays_of s) (moves_of s) (last_of s)

abbrev pub distinct_need : Sizes → Need
distinct_need s = record {
  width = s.width;
  cells = s.rows * (length s.key + 1);
  words = s.width + 32 + s.cols * (length s.key + 32);
  stages = 2 + s.cols;
}
