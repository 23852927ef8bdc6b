use Rattle.std.proofs.Common.{◌≡◌, ◌<◌, ℕ, false, get_or, vec_len}
use Rattle.ch_verify.proofs.check.first_used.Given as goal

abbrev pub invariant-loop-array : goal.invariant-loop-array
invariant-loop-array l = record {
  many : vec_len l.used ≡ l._array;
  each : (a : ℕ) → a < l._array → get_or l.used.items a false ≡ false;
}
