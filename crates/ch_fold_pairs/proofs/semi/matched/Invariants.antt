use Rattle.std.proofs.Common.{◌≡◌, take}
use Rattle.ch_fold_pairs.specs.Lines.{matched_lines}
use Rattle.ch_fold_pairs.proofs.semi.matched.Given as goal

abbrev pub invariant-loop-at : goal.invariant-loop-at
invariant-loop-at l = l.lines ≡ record { width = l.width; rows = matched_lines l.width l.inner (take l.at l.outer) }
