use Rattle.std.proofs.Common.{◌≡◌, ◌++◌, drop, map}
use Rattle.op_moves.specs.Columns.{place_of}
use Rattle.ch_places.specs.Different.{different}
use Rattle.ch_places.proofs.different.different_places.Given as goal

abbrev pub invariant-loop-col : goal.invariant-loop-col
invariant-loop-col l = record {
  items : l.col-items ≡ different l.cols;
  rest : l.places ++ map (place_of l.bound) (drop l.col-index l.col-items) ≡ map (place_of l.bound) (different l.cols);
}
