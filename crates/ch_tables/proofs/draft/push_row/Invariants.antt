use Rattle.std.proofs.Common.{◌≡◌, length}
use Rattle.csv.specs.Records.{fields_of}
use Rattle.ch_tables.proofs.ColumnLemmas.{part_row}
use Rattle.ch_tables.proofs.draft.push_row.Given as goal

abbrev pub invariant-loop-at : goal.invariant-loop-at
invariant-loop-at l = record {
  size : length l.columns.items ≡ length l.fn.columns.items;
  same : l.columns.items ≡ part_row l.fn.columns.items (fields_of l.fields) l.at;
}
