use Rattle.std.proofs.Common.{◌≡◌, drop}
use Rattle.std.specs.List.{list_any}
use Rattle.ch_places.specs.Different.{is_same_col}
use Rattle.ch_places.proofs.different.stands_in.Given as goal

abbrev pub invariant-loop-other : goal.invariant-loop-other
invariant-loop-other l = list_any (is_same_col l.col) (drop l.other-index l.cols) ≡ list_any (is_same_col l.col) l.cols
