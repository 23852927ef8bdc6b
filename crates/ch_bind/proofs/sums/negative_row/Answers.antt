use Rattle.std.proofs.Common.{◌≡◌, ◌∙◌, sym, get_or, [], true, false, arith}
use Rattle.std.specs.Prelude.{slice_index_or}
use Rattle.ch_bind.specs.Sums.{has_negative}
use Rattle.ch_bind.proofs.Searches.{first_step, negative_at}
use Rattle.ch_bind.proofs.sums.negative_row.Goals as goal

pub returns-then-is_negative : goal.returns-then-is_negative
returns-then-is_negative c =
    let rows = slice_index_or c.args.table.now.parts c.args.part [] in
    let there : has_negative c.args.at (get_or rows c.loop-row.row []) ≡ true = negative_at (get_or rows c.loop-row.row []) c.args.at _ true c.cell.ensures.value (sym c.if-is_negative.true ∙ c.is_negative.ensures) in
    sym (first_step (has_negative c.args.at) rows c.loop-row.row [] true (omega arith) there) ∙ c.loop-row.invariant

pub loop-row-preserved : goal.loop-row-preserved
loop-row-preserved c =
    let rows = slice_index_or c.args.table.now.parts c.args.part [] in
    let there : has_negative c.args.at (get_or rows c.loop-row.row []) ≡ false = negative_at (get_or rows c.loop-row.row []) c.args.at _ false c.cell.ensures.value (sym c.if-is_negative.false ∙ c.is_negative.ensures) in
    sym (first_step (has_negative c.args.at) rows c.loop-row.row [] false (omega arith) there) ∙ c.loop-row.invariant
