use Rattle.std.proofs.Common.{◌≡◌, ◌+◌, ◌++◌, ◌∷◌, [], List, ℤ, map, take, subst, sym, ap, ◌∙◌, arith}
use Rattle.std.proofs.lemmas.List.{length-map, length-take-le, take_more}
use Rattle.ch_cover.specs.Rows.{Row}
use Rattle.ch_lists.specs.Members.{In}
use Rattle.ch_fold_lines.specs.Rows.{RowFits}
use Rattle.ch_finish.specs.Fold.{StandsFor}
use Rattle.ch_finish.specs.Received.{AreRowsOf}
use Rattle.ch_finish.specs.declared.received.Arrived.{Arrived}
use Rattle.ch_finish.proofs.Arrivals.{item_In, last_row, no_rows, row_of, some_rows}
use Rattle.ch_finish.proofs.arriving.folded.Goals as goal

pub loop-row-init : goal.loop-row-init
loop-row-init c = λ given z. subst (λ (rows : List Row). StandsFor c.args.ranks.now c.args.query.now c.in_ok-fold.fold rows) (sym (no_rows given z)) (c.in_ok-fold.ensures c.args.ranks.now)

pub add-requires-clause-fits : goal.add-requires-clause-fits
add-requires-clause-fits c =
    let items = c.as_slice-row-items.result.now in
    let row = c.row-item.result in
    let there : In row c.args.rows.now = subst (λ (xs : List Arrived). In row xs) c.as_slice-row-items.ensures (subst (λ (a : Arrived). In a items) (sym c.row-item.is) (item_In items row c.loop-row.row-index c.loop-row-test.true)) in
    subst (λ (ws : List ℤ). RowFits c.args.ranks.now c.args.query.now row.side ws) (sym c.as_slice.ensures) (c.requires.fits row there)

pub add-requires-clause-room : goal.add-requires-clause-room
add-requires-clause-room c =
    let seen = take c.loop-row.row-index c.as_slice-row-items.result.now in
    (map row_of seen, c.loop-row.invariant (map row_of seen) (some_rows seen), omega (arith, length-map seen row_of, length-take-le c.loop-row.row-index c.as_slice-row-items.result.now (omega arith)))

pub loop-row-preserved : goal.loop-row-preserved
loop-row-preserved c = λ given z.
    let items = c.as_slice-row-items.result.now in
    let row = c.row-item.result in
    let i = c.loop-row.row-index in
    let more : take (i + 1) items ≡ take i items ++ row ∷ [] = take_more items i row c.loop-row-test.true ∙ ap (λ a. take i items ++ a ∷ []) (sym c.row-item.is) in
    let l = last_row (take i items) row given (subst (λ (xs : List Arrived). AreRowsOf xs given) more z) in
    subst (λ (rows : List Row). StandsFor c.args.ranks.now c.args.query.now c.add.new.self rows) (sym l.4)
    (c.in_ok-add.ensures.ok l.0 l.1 (c.loop-row.invariant l.0 l.2) l.3.side (l.3.words ∙ sym c.as_slice.ensures))
