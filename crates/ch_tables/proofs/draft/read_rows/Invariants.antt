use Rattle.std.proofs.Common.{◌≡◌, ◌≤◌, ◌<◌, ◌^◌, ◌+◌, length}
use Rattle.std.specs.Prelude.{sum_by}
use Rattle.ch_tables.specs.Draft.{with_rows}
use Rattle.ch_tables.specs.Reading.{AreShort, IsReading, records_left}
use Rattle.ch_tables.specs.Refusal.{rows_refusal}
use Rattle.ch_tables.proofs.draft.read_rows.Given as goal

abbrev pub invariant-loop-fields : goal.invariant-loop-fields
invariant-loop-fields l = record {
  reading : IsReading l.reader;
  short : AreShort (records_left l.reader);
  header : l.draft.header ≡ l.fn.draft.header;
  spans : l.draft.spans.items ≡ l.fn.draft.spans.items;
  width : length l.draft.columns.items ≡ l.want;
  rows : l.draft.rows ≤ l.room.rows;
  cells : l.draft.cells ≤ l.room.cells;
  few : l.draft.cells < 2 ^ 32;
  row : l.row ≤ l.draft.rows;
  columns : with_rows l.draft.columns.items (records_left l.reader) ≡ with_rows l.fn.draft.columns.items (records_left l.fn.reader);
  counted : l.draft.rows + length (records_left l.reader) ≡ l.fn.draft.rows + length (records_left l.fn.reader);
  filled : l.draft.cells + sum_by length (records_left l.reader) ≡ l.fn.draft.cells + sum_by length (records_left l.fn.reader);
  same : rows_refusal l.room l.part l.want l.row l.draft.rows l.draft.cells (records_left l.reader)
      ≡ rows_refusal l.room l.part l.want 0 l.fn.draft.rows l.fn.draft.cells (records_left l.fn.reader);
}

abbrev pub decreases-loop-fields : goal.decreases-loop-fields
decreases-loop-fields l = length (records_left l.reader)
