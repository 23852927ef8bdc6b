use Rattle.std.proofs.Common.{List, ℤ, subst, sym}
use Rattle.ch_lists.specs.Members.{Each}
use Rattle.ch_finish.specs.declared.received.Arrived.{Arrived}
use Rattle.ch_fold_lines.specs.Rows.{RowFits}
use Rattle.ch_fold_lines.proofs.Held.{each_more}
use Rattle.ch_query_rows.proofs.arrivals.take_row.Goals as goal

pub returns : goal.returns
returns c =
    let texts = c.args.ranks.now in
    let b = c.args.query.now in
    let row = c.args.arrived in
    let fits : RowFits texts b row.side row.words = subst (λ (ws : List ℤ). RowFits texts b row.side ws) c.as_slice.ensures (c.row_fits.ensures c.if-not-row_fits.false) in
    subst (λ (rows : List Arrived). Each (λ a. RowFits texts b a.side a.words) rows) (sym c.in_ok-push.ensures.ok)
    (each_more (λ (a : Arrived). RowFits texts b a.side a.words) c.args.rows.now row c.requires fits)
