use Rattle.std.proofs.Common.{arith, ◌∙◌}
use Rattle.std.proofs.Math.ListN.{length-set}
use Rattle.csv.specs.Records.{fields_of}
use Rattle.ch_tables.proofs.ColumnLemmas.{part_row-all, pushed}
use Rattle.ch_tables.proofs.draft.push_row.Goals as goal

pub loop-at-preserved : goal.loop-at-preserved
loop-at-preserved c = record {
  size = simp length-set c.loop-at.invariant.size;
  same =
      pushed c.args.columns.now.items c.loop-at.columns.items (fields_of c.args.fields.now) c.loop-at.at c.index_mut.result.now c.push.new.self c.field.result.now
      (omega arith) (omega arith) c.loop-at.invariant.same c.index_mut.ensures.value c.field.ensures c.in_ok-push.ensures;
}

pub returns : goal.returns
returns c = c.loop-at.invariant.same ∙ part_row-all c.args.columns.now.items (fields_of c.args.fields.now) c.loop-at.at (omega arith) (omega arith)
