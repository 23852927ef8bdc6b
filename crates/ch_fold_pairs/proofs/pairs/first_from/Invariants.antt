use Rattle.std.proofs.Common.{◌≡◌, ℤ, ◌≤ℤ◌, filter, drop}
use Rattle.ch_fold_pairs.specs.Pairs.{has_key}
use Rattle.ch_fold_pairs.proofs.pairs.first_from.Given as goal

abbrev pub invariant-loop-at : goal.invariant-loop-at
invariant-loop-at l = (k : ℤ) → l.key ≤ℤ k → filter (has_key k) (drop l.fn.from l.rows) ≡ filter (has_key k) (drop l.at l.rows)
