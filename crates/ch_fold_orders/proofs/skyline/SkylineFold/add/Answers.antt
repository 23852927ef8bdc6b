use Rattle.std.proofs.Common.{ℕ, sym, ap, ◌∙◌, refl, subst, [], ◌∷◌, ◌++◌}
use Rattle.std.proofs.lemmas.Result.{on_ok_weaker}
use Rattle.ch_fold_lines.specs.Rows.{RowFits}
use Rattle.ch_fold_lines.proofs.WordFits.{words_fit}
use Rattle.ch_fold_lines.proofs.Held.{fits_more, held_in, held_other, held_out}
use Rattle.ch_fold_orders.specs.Front.{is_over, with_point}
use Rattle.ch_fold_orders.proofs.SkylineLaws.{skyline_alone, skyline_stays, skyline_takes}
use Rattle.ch_fold_orders.proofs.skyline.SkylineFold.add.Goals.{then-side-ne0-via-then-side-ne0, then-side-ne0-via-else-side-ne0+then-not-holds_on_row}
use Rattle.ch_fold_orders.proofs.skyline.SkylineFold.add.Goals as goal

pub holds_on_row-requires-clause-fits : goal.holds_on_row-requires-clause-fits
holds_on_row-requires-clause-fits c =
    words_fit c.args.ranks.now c.args.query.now c.args.words.now (skyline_alone c.args.query.now.shape c.requires.room.1.dims c.requires.room.1.shape)
    (subst (λ (n : ℕ). RowFits c.args.ranks.now c.args.query.now n c.args.words.now) c.if-side-ne0.false c.requires.fits)

pub returns-then-side-ne0-clause-ok : goal.returns-then-side-ne0-clause-ok
returns-then-side-ne0-clause-ok c = λ rows r s side words.
    let texts = c.args.ranks.now in
    let b = c.args.query.now in
    let ws = c.args.words.now in
    let fits = fits_more texts b rows r c.args.side ws side words c.requires.fits s.fits in
    elim c.then-side-ne0.branch [
      | then-side-ne0-via-then-side-ne0 w ↦ skyline_stays texts b rows c.args.self.now s (rows ++ r ∷ []) fits (held_other texts b rows r (λ e. w.if-side-ne0.true (sym side ∙ e)))
      | then-side-ne0-via-else-side-ne0+then-not-holds_on_row w ↦ skyline_stays texts b rows c.args.self.now s (rows ++ r ∷ []) fits (held_out texts b rows r ws (side ∙ w.if-side-ne0.false) words (sym w.holds_on_row.ensures ∙ w.if-not-holds_on_row.true))
    ]

pub returns-clause-ok : goal.returns-clause-ok
returns-clause-ok c = λ rows r s side words.
    let texts = c.args.ranks.now in
    let b = c.args.query.now in
    let ws = c.args.words.now in
    on_ok_weaker c.add.result
    (λ e. skyline_takes texts b rows c.args.self.now s (rows ++ r ∷ []) ws (record { alloc = c.args.self.now.alloc; axes = c.args.self.now.axes; places = c.args.self.now.places; front = c.add.new.self })
    (fits_more texts b rows r c.args.side ws side words c.requires.fits s.fits)
    (subst (λ (n : ℕ). RowFits texts b n ws) c.if-side-ne0.false c.requires.fits)
    (held_in texts b rows r ws (side ∙ c.if-side-ne0.false) words (sym c.holds_on_row.ensures ∙ c.if-not-holds_on_row.false))
    refl refl (e ∙ ap (λ axes. with_point (is_over axes) c.args.self.now.front ws) c.as_slice.ensures))
    c.add.ensures.ok
