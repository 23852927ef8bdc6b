use Rattle.std.proofs.Common.{◌≡◌, ℕ, ◌<◌, ◌≤◌, true}
use Rattle.ch_ends.specs.Bits.{has_bit}
use Rattle.ch_ends.proofs.worker.least_unset.Given as goal

abbrev pub invariant-loop-number : goal.invariant-loop-number
invariant-loop-number l = (k : ℕ) → l.from ≤ k → k < l.number → has_bit l.bits k ≡ true
