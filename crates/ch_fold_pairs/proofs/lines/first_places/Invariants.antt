use Rattle.std.proofs.Common.{◌≡◌}
use Rattle.ch_fold_pairs.specs.Places.{firsts}
use Rattle.ch_fold_pairs.proofs.lines.first_places.Given as goal

abbrev pub invariant-loop-at : goal.invariant-loop-at
invariant-loop-at l = l.list ≡ firsts l.at
