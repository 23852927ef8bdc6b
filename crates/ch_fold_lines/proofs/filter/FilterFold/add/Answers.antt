use Rattle.std.proofs.Common.{ℕ, sym, ap, ◌∙◌, refl, arith, length, subst, [], ◌∷◌, ◌++◌}
use Rattle.std.proofs.lemmas.Result.{on_ok_weaker}
use Rattle.ch_flat.specs.Flat.{Flat, pick, with_row}
use Rattle.ch_fold_lines.specs.Rows.{RowFits}
use Rattle.ch_fold_lines.proofs.FilterLaws.{filter_alone, filter_stays, filter_takes}
use Rattle.ch_fold_lines.proofs.WordFits.{words_fit}
use Rattle.ch_fold_lines.proofs.Held.{fits_more, held_in, held_other, held_out, lines_short}
use Rattle.ch_fold_lines.proofs.filter.FilterFold.add.Goals.{then-side-ne0-via-then-side-ne0, then-side-ne0-via-else-side-ne0+then-not-holds_on_row}
use Rattle.ch_fold_lines.proofs.filter.FilterFold.add.Goals as goal

pub holds_on_row-requires-clause-fits : goal.holds_on_row-requires-clause-fits
holds_on_row-requires-clause-fits c =
    words_fit c.args.ranks.now c.args.query.now c.args.words.now (filter_alone c.args.query.now.shape c.requires.room.1.shape)
    (subst (λ (n : ℕ). RowFits c.args.ranks.now c.args.query.now n c.args.words.now) c.if-side-ne0.false c.requires.fits)

pub returns-then-side-ne0-clause-ok : goal.returns-then-side-ne0-clause-ok
returns-then-side-ne0-clause-ok c = λ rows r s side words.
    let texts = c.args.ranks.now in
    let b = c.args.query.now in
    let ws = c.args.words.now in
    let fits = fits_more texts b rows r c.args.side ws side words c.requires.fits s.fits in
    elim c.then-side-ne0.branch [
      | then-side-ne0-via-then-side-ne0 w ↦ filter_stays texts b rows c.args.self.now s (rows ++ r ∷ []) fits (held_other texts b rows r (λ e. w.if-side-ne0.true (sym side ∙ e)))
      | then-side-ne0-via-else-side-ne0+then-not-holds_on_row w ↦ filter_stays texts b rows c.args.self.now s (rows ++ r ∷ []) fits (held_out texts b rows r ws (side ∙ w.if-side-ne0.false) words (sym w.holds_on_row.ensures ∙ w.if-not-holds_on_row.true))
    ]

pub push_picked-requires-clause-room : goal.push_picked-requires-clause-room
push_picked-requires-clause-room c =
    let rows = c.requires.room.0 in
    omega (arith, ap (λ (f : Flat). length f.rows) c.requires.room.1.lines, lines_short c.args.ranks.now c.args.query.now rows, c.requires.room.2)

pub returns-clause-ok : goal.returns-clause-ok
returns-clause-ok c = λ rows r s side words.
    let texts = c.args.ranks.now in
    let b = c.args.query.now in
    let ws = c.args.words.now in
    on_ok_weaker c.push_picked.result
    (λ e. filter_takes texts b rows c.args.self.now s (rows ++ r ∷ []) ws (record { places = c.args.self.now.places; lines = c.push_picked.new.self })
    (fits_more texts b rows r c.args.side ws side words c.requires.fits s.fits)
    (subst (λ (n : ℕ). RowFits texts b n ws) c.if-side-ne0.false c.requires.fits)
    (held_in texts b rows r ws (side ∙ c.if-side-ne0.false) words (sym c.holds_on_row.ensures ∙ c.if-not-holds_on_row.false))
    refl (e ∙ ap (λ ps. with_row c.args.self.now.lines (pick ws ps)) c.as_slice.ensures))
    c.push_picked.ensures.ok
