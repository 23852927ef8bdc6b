use Rattle.std.proofs.Common.{◌≡◌, ◌<◌, ℕ, None, get_or, vec_len}
use Rattle.ch_ir.specs.Rules.{inputs}
use Rattle.ch_verify.proofs.check.first_known.Given as goal

abbrev pub invariant-loop-word : goal.invariant-loop-word
invariant-loop-word l = record {
  many : vec_len l.known ≡ l.word;
  each : (w : ℕ) → w < l.word → get_or l.known.items w None ≡ inputs l.width w;
}
