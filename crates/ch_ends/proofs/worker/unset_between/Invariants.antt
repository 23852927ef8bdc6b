use Rattle.std.proofs.Common.{◌≡◌, ℕ, ◌<◌, ◌≤◌, false, length}
use Rattle.ch_ends.specs.Bits.{has_bit}
use Rattle.ch_ends.proofs.worker.unset_between.Given as goal

abbrev pub invariant-loop-number : goal.invariant-loop-number
invariant-loop-number l = record {
  whole : length l.bits ≡ length l.initial.bits;
  below : (k : ℕ) → k < l.from → has_bit l.bits k ≡ has_bit l.initial.bits k;
  between : (k : ℕ) → l.from ≤ k → k < l.number → has_bit l.bits k ≡ false;
  above : (k : ℕ) → l.number ≤ k → has_bit l.bits k ≡ has_bit l.initial.bits k;
}
