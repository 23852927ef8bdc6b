use Rattle.std.proofs.Common.{◌≡◌, ◌+◌, length, arith, ap, sym, subst, ◌∙◌}
use Rattle.std.specs.Prelude.{sum_by}
use Rattle.std.proofs.lemmas.List.Sums.{sum_by-cons}
use Rattle.csv.specs.Records.{fields_of}
use Rattle.ch_tables.specs.Draft.{with_rows}
use Rattle.ch_tables.specs.Reading.{AreShort, records_left}
use Rattle.ch_tables.specs.Refusal.{rows_refusal}
use Rattle.ch_tables.proofs.ColumnLemmas.{length-with_row}
use Rattle.ch_tables.proofs.RefusalLemmas.{rows_refusal-step, taken}
use Rattle.ch_tables.proofs.draft.read_rows.Goals as goal

pub loop-fields-preserved : goal.loop-fields-preserved
loop-fields-preserved c =
    let inv = c.loop-fields.invariant in
    let before = records_left c.loop-fields.reader in
    let fields = fields_of c.next_record.new.fields in
    let left = records_left c.next_record.new.reader in
    let t = taken before c.in_ok-next_record.field-0 fields c.next_record.new.reader c.in_ok-next_record.ensures c.if-branch.true in
    let width : length fields ≡ c.len-want.result = omega arith in
    let longer : length before ≡ length left + 1 = ap length t.1 ∙ omega arith in
    let fuller : sum_by length before ≡ length fields + sum_by length left = ap (sum_by length) t.1 ∙ sum_by-cons length fields left in
    record {
      reading = t.0;
      short = (subst AreShort t.1 inv.short).1;
      header = inv.header;
      spans = inv.spans;
      width = ap length c.in_ok-push_row.ensures ∙ (length-with_row c.loop-fields.draft.columns.items fields (omega arith) ∙ inv.width);
      rows = omega arith;
      cells = omega arith;
      few = omega arith;
      row = omega arith;
      columns = ap (λ cs. with_rows cs left) c.in_ok-push_row.ensures ∙ (sym (ap (with_rows c.loop-fields.draft.columns.items) t.1) ∙ inv.columns);
      counted = omega arith;
      filled = omega arith;
      same = sym (rows_refusal-step c.args.room c.args.part c.len-want.result c.loop-fields.row c.loop-fields.draft.rows c.loop-fields.draft.cells fields left width (omega arith) (omega arith))
          ∙ (sym (ap (rows_refusal c.args.room c.args.part c.len-want.result c.loop-fields.row c.loop-fields.draft.rows c.loop-fields.draft.cells) t.1) ∙ inv.same);
    }
