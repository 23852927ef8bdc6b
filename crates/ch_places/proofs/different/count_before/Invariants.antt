use Rattle.std.proofs.Common.{◌≡◌, ◌++◌, drop, take}
use Rattle.ch_places.specs.Different.{inserted}
use Rattle.ch_places.proofs.different.count_before.Given as goal

abbrev pub invariant-loop-other : goal.invariant-loop-other
invariant-loop-other l = record {
  count : l.count ≡ l.other-index;
  rest : take l.other-index l.ascending ++ inserted l.col (drop l.other-index l.ascending) ≡ inserted l.col l.ascending;
}
