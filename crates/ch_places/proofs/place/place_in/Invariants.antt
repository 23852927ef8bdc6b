use Rattle.std.proofs.Common.{◌≡◌, ◌+◌, drop}
use Rattle.ch_pred.specs.Sound.{place_in}
use Rattle.ch_places.proofs.place.place_in.Given as goal

abbrev pub invariant-loop-column : goal.invariant-loop-column
invariant-loop-column l = record {
  place : l.place ≡ l.column-index;
  rest : l.place + place_in (drop l.column-index l.columns) l.at ≡ place_in l.columns l.at;
}
