use Rattle.std.proofs.Common.{◌≡◌, drop, max}
use Rattle.ch_ir.specs.Measure.{accesses_end}
use Rattle.ch_verify.proofs.sizes.accesses_end.Given as goal

abbrev pub invariant-loop-x : goal.invariant-loop-x
invariant-loop-x l = max l.end (accesses_end l.arrays (drop l.x-index l.accesses)) ≡ accesses_end l.arrays l.accesses
