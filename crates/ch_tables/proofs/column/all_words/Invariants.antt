use Rattle.std.proofs.Common.{◌≡◌, ◌≤◌, ◌+◌, length, drop, take}
use Rattle.std.specs.Prelude.{flat_map, sum_by}
use Rattle.ch_tables.specs.Columns.{AllStandFor}
use Rattle.ch_tables.specs.Texts.{texts_in, with_texts}
use Rattle.ch_tables.proofs.column.all_words.Given as goal

abbrev pub invariant-loop-column : goal.invariant-loop-column
invariant-loop-column l = record {
  words : AllStandFor l.texts l.words.items (take l.column-index l.columns);
  same : with_texts l.texts (flat_map texts_in (drop l.column-index l.columns)) ≡ with_texts l.fn.texts (flat_map texts_in l.columns);
  few : length l.texts + sum_by length (drop l.column-index l.columns) ≤ length l.fn.texts + sum_by length l.columns;
}
