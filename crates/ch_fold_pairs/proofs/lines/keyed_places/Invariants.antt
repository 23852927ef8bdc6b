use Rattle.std.proofs.Common.{◌≡◌}
use Rattle.ch_fold_pairs.specs.Places.{keyed_places}
use Rattle.ch_fold_pairs.proofs.lines.keyed_places.Given as goal

abbrev pub invariant-loop-at : goal.invariant-loop-at
invariant-loop-at l = l.list ≡ keyed_places l.query l.fn.key l.at
