use Rattle.std.specs.Prelude.{slice_index_or}
use Rattle.std.proofs.lemmas.Int.{to_z-of_z}
use mir.Val.{SFits}
use Rattle.std.proofs.Common.{◌≡◌, pos, to_z, of_z, w64, ℕ, sym, ap, ◌∙◌, refl, subst, take, [], ◌∷◌, ◌++◌}
use Rattle.std.specs.Ordering.{int_cmp}
use Rattle.std.specs.Cmp.Lexicographic.{slice_cmp}
use Rattle.std.proofs.lemmas.Result.{on_ok_weaker}
use Rattle.ch_lists.specs.Ordered.{ordered}
use Rattle.ch_flat.specs.Flat.{pick}
use Rattle.ch_fold_lines.specs.Rows.{RowFits}
use Rattle.ch_fold_lines.proofs.WordFits.{words_fit}
use Rattle.ch_fold_lines.proofs.Held.{fits_more, held_in, held_other, held_out}
use Rattle.ch_fold_orders.specs.Top.{turned}
use Rattle.ch_fold_orders.proofs.TopLaws.{top_alone, top_stays, top_takes}
use Rattle.ch_fold_orders.proofs.top.TopFold.add.Goals.{then-side-ne0-via-then-side-ne0, then-side-ne0-via-else-side-ne0+then-not-holds_on_row}
use Rattle.ch_fold_orders.proofs.top.TopFold.add.Goals as goal

pub holds_on_row-requires-clause-fits : goal.holds_on_row-requires-clause-fits
holds_on_row-requires-clause-fits c =
    let s = c.requires.room.1 in
    words_fit c.args.ranks.now c.args.query.now c.args.words.now (top_alone c.args.query.now.shape s.by s.descending s.limit s.shape)
    (subst (λ (n : ℕ). RowFits c.args.ranks.now c.args.query.now n c.args.words.now) c.if-side-ne0.false c.requires.fits)

pub returns-then-side-ne0-clause-ok : goal.returns-then-side-ne0-clause-ok
returns-then-side-ne0-clause-ok c = λ rows r s side words.
    let texts = c.args.ranks.now in
    let b = c.args.query.now in
    let ws = c.args.words.now in
    let fits = fits_more texts b rows r c.args.side ws side words c.requires.fits s.fits in
    elim c.then-side-ne0.branch [
      | then-side-ne0-via-then-side-ne0 w ↦ top_stays texts b rows c.args.self.now s (rows ++ r ∷ []) fits (held_other texts b rows r (λ e. w.if-side-ne0.true (sym side ∙ e)))
      | then-side-ne0-via-else-side-ne0+then-not-holds_on_row w ↦ top_stays texts b rows c.args.self.now s (rows ++ r ∷ []) fits (held_out texts b rows r ws (side ∙ w.if-side-ne0.false) words (sym w.holds_on_row.ensures ∙ w.if-not-holds_on_row.true))
    ]

pub returns-then-is_beyond-clause-ok : goal.returns-then-is_beyond-clause-ok
returns-then-is_beyond-clause-ok c = λ rows r s side words.
    let texts = c.args.ranks.now in
    let b = c.args.query.now in
    let ws = c.args.words.now in
    let fold = c.args.self.now in
    let word : SFits w64 c.word_at.result = record { sfits = c.word_at.type_inv } in
    let fits : SFits w64 c.turned-first.result = record { sfits = c.turned-first.type_inv } in
    let first : to_z w64 (of_z w64 c.turned-first.result) ≡ turned fold.descending (slice_index_or ws fold.by (pos 0)) =
    to_z-of_z w64 c.turned-first.result fits ∙ (c.turned-first.ensures ∙ ap (turned fold.descending) (to_z-of_z w64 c.word_at.result word ∙ c.word_at.ensures)) in
    top_takes texts b rows fold s (rows ++ r ∷ []) ws fold
    (fits_more texts b rows r c.args.side ws side words c.requires.fits s.fits)
    (subst (λ (n : ℕ). RowFits texts b n ws) c.if-side-ne0.false c.requires.fits)
    (held_in texts b rows r ws (side ∙ c.if-side-ne0.false) words (sym c.holds_on_row.ensures ∙ c.if-not-holds_on_row.false))
    refl refl refl refl
    (sym (c.is_beyond.ensures c.if-is_beyond.true (pick ws fold.places)) ∙ ap (λ w. take fold.firsts.limit (ordered (slice_cmp int_cmp) ((w ∷ pick ws fold.places) ∷ fold.firsts.rows))) first)

pub returns-clause-ok : goal.returns-clause-ok
returns-clause-ok c = λ rows r s side words.
    let texts = c.args.ranks.now in
    let b = c.args.query.now in
    let ws = c.args.words.now in
    let fold = c.args.self.now in
    let word : SFits w64 c.word_at.result = record { sfits = c.word_at.type_inv } in
    let fits : SFits w64 c.turned-first.result = record { sfits = c.turned-first.type_inv } in
    let first : to_z w64 (of_z w64 c.turned-first.result) ≡ turned fold.descending (slice_index_or ws fold.by (pos 0)) =
    to_z-of_z w64 c.turned-first.result fits ∙ (c.turned-first.ensures ∙ ap (turned fold.descending) (to_z-of_z w64 c.word_at.result word ∙ c.word_at.ensures)) in
    on_ok_weaker c.offer.result
    (λ e. top_takes texts b rows fold s (rows ++ r ∷ []) ws (record { alloc = fold.alloc; by = fold.by; descending = fold.descending; places = fold.places; firsts = c.offer.new.self })
    (fits_more texts b rows r c.args.side ws side words c.requires.fits s.fits)
    (subst (λ (n : ℕ). RowFits texts b n ws) c.if-side-ne0.false c.requires.fits)
    (held_in texts b rows r ws (side ∙ c.if-side-ne0.false) words (sym c.holds_on_row.ensures ∙ c.if-not-holds_on_row.false))
    refl refl refl c.offer.ensures.limit
    (e ∙ ap (λ x. take fold.firsts.limit (ordered (slice_cmp int_cmp) (x ∷ fold.firsts.rows))) (c.in_ok-row.ensures ∙ (λ i. first i ∷ pick ws (c.as_slice.ensures i)))))
    c.offer.ensures.ok
