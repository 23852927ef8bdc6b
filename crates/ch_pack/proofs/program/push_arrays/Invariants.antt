use Rattle.std.proofs.Common.{◌≡◌, ◌++◌, take}
use Rattle.ch_pack.proofs.program.push_arrays.Given as goal

abbrev pub invariant-loop-array : goal.invariant-loop-array
invariant-loop-array l = l.all ≡ l.fn.all ++ take l.array-index l.arrays
