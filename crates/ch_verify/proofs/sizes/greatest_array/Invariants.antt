use Rattle.std.proofs.Common.{◌≡◌, drop, max}
use Rattle.ch_ir.specs.Measure.{greatest_array}
use Rattle.ch_verify.proofs.sizes.greatest_array.Given as goal

abbrev pub invariant-loop-array : goal.invariant-loop-array
invariant-loop-array l = max l.cells (greatest_array (drop l.array-index l.arrays)) ≡ greatest_array l.arrays
