use Rattle.std.proofs.Common.{◌≡◌, ◌≤◌, ◌+◌, length, drop, take}
use Rattle.ch_tables.specs.Columns.{ArePlaces}
use Rattle.ch_tables.specs.Texts.{with_texts}
use Rattle.ch_tables.proofs.column.places_of.Given as goal

abbrev pub invariant-loop-at : goal.invariant-loop-at
invariant-loop-at l = record {
  places : ArePlaces l.texts (take l.at l.column) l.places.items;
  same : with_texts l.texts (drop l.at l.column) ≡ with_texts l.fn.texts l.column;
  few : length l.texts ≤ length l.fn.texts + l.at;
}
