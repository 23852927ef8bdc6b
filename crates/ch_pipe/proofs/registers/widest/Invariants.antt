use Rattle.std.proofs.Common.{◌≡◌, drop, max}
use Rattle.ch_pipe.specs.Installed.{widest}
use Rattle.ch_pipe.proofs.registers.widest.Given as goal

abbrev pub invariant-loop-array : goal.invariant-loop-array
invariant-loop-array l = max l.cells (widest (drop l.array-index l.arrays)) ≡ widest l.arrays
