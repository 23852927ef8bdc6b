-- The program of a join: the Bloom filters, and the verdict.
use Rattle.std.specs.Prelude.{◌+◌, ◌*◌, List, [], ◌∷◌, ◌++◌}
use Rattle.ch_ir.specs.declared.program.Operand.TheVariants.{Word}
use Rattle.ch_ir.specs.declared.program.Binary.TheVariants as binary
use Rattle.ch_ir.specs.declared.program.Op.{Op}
use Rattle.ch_ir.specs.declared.program.Op.TheVariants.{Two}
use Rattle.ch_ir.specs.declared.program.Program.{Program}
use Rattle.ch_prune.specs.declared.operator.Need.{Need}
use Rattle.op_moves.specs.Moves.{Move, Compute, program_of}
use Rattle.op_bloom.specs.declared.sizes.Sizes.{Sizes}
use Rattle.op_bloom.specs.Program.{bad_word, end_of, bloom_moves, bloom_arrays}

-- pruned where the bit isn't set, or the row is bad
abbrev pub verdict_op : Sizes → Op
verdict_op d = Two (end_of d) binary.Le (Word d.width) (Word (bad_word d))

abbrev pub moves_of : Sizes → List Move
moves_of d = bloom_moves d ++ Compute (verdict_op d) ∷ []

abbrev pub program : Sizes → Program
program d = program_of d.width (bloom_arrays d) (moves_of d) (end_of d)

abbrev pub join_need : Sizes → Need
join_need d = record { width = d.width; cells = 2 * d.cells; words = d.width + 32 + d.hashes * 33; stages = 2 + d.hashes }
