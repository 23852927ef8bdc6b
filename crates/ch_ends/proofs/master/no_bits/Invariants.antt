use Rattle.std.proofs.Common.{◌≡◌, take}
use Rattle.ch_ends.specs.Master.{no_bits}
use Rattle.ch_ends.proofs.master.no_bits.Given as goal

abbrev pub invariant-loop-count : goal.invariant-loop-count
invariant-loop-count l = l.flows.items ≡ no_bits (take l.count-index l.rows)
