use Rattle.std.proofs.Common.{List, subst}
use Rattle.std.specs.Prelude.{slice_index_or}
use Rattle.ch_lists.specs.Members.{In}
use Rattle.ch_pred.specs.declared.pred.Col.{Col}
use Rattle.ch_places.proofs.Kept.{in_at, in_different_from}
use Rattle.ch_places.proofs.different.different_places.Goals as goal

pub place_of-requires-clause-carried : goal.place_of-requires-clause-carried
place_of-requires-clause-carried c =
    let none : Col = record { side = 0; at = 0 } in
    let ascending : List Col = c.deref-col-items.result.now in
    let col : Col = slice_index_or ascending c.loop-col.col-index none in
    let stands = in_at ascending c.loop-col.col-index none c.loop-col-test.true in
    c.requires.carried col (in_different_from col c.args.cols.now (subst (λ (cols : List Col). In col cols) c.loop-col.invariant.items stands))
