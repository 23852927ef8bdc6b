use Rattle.std.proofs.Common.{◌≡◌, ◌+◌, ◌++◌, drop}
use Rattle.ch_pipe.specs.Flat.{all_cells, bases_from}
use Rattle.ch_pipe.proofs.registers.lay_out.Given as goal

abbrev pub invariant-loop-array : goal.invariant-loop-array
invariant-loop-array l = record {
  bases : l.bases.items ++ bases_from l.size (drop l.array-index l.arrays) ≡ bases_from 0 l.arrays;
  size : l.size + all_cells (drop l.array-index l.arrays) ≡ all_cells l.arrays;
}
