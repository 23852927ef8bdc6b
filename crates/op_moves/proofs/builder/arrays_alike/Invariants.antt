use Rattle.std.proofs.Common.{◌≡◌, replicate}
use Rattle.op_moves.proofs.builder.arrays_alike.Given as goal

abbrev pub invariant-loop-index : goal.invariant-loop-index
invariant-loop-index l = l.arrays ≡ replicate l.index (record { entries = l.entries; cells = l.cells })
