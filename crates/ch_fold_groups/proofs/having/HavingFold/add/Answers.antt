use Rattle.std.proofs.Common.{ℕ, ◌≡◌, sym, ap, ◌∙◌, subst, arith, w64, to_z, of_z, [], ◌∷◌, ◌++◌}
use Rattle.std.proofs.lemmas.Int.{ints}
use Rattle.std.proofs.lemmas.Result.{on_ok_weaker}
use Rattle.ch_flat.specs.Flat.{pick}
use Rattle.ch_fold_lines.specs.Rows.{RowFits, held}
use Rattle.ch_fold_lines.proofs.WordFits.{words_fit}
use Rattle.ch_fold_lines.proofs.Held.{fits_more, held_in, held_other, held_out}
use Rattle.ch_fold_groups.specs.Kept.{IsWord}
use Rattle.ch_fold_groups.specs.Having.{summed_keys}
use Rattle.ch_fold_groups.proofs.HavingLaws.{having_alone, having_short, having_stays, having_takes}
use Rattle.ch_fold_groups.proofs.having.HavingFold.add.Goals.{then-side-ne0-via-then-side-ne0, then-side-ne0-via-else-side-ne0+then-not-holds_on_row}
use Rattle.ch_fold_groups.proofs.having.HavingFold.add.Goals as goal

pub holds_on_row-requires-clause-fits : goal.holds_on_row-requires-clause-fits
holds_on_row-requires-clause-fits c =
    let s = c.requires.room.1 in
    words_fit c.args.ranks.now c.args.query.now c.args.words.now (having_alone c.args.query.now.shape s.keys s.sum s.above s.shape)
    (subst (λ (n : ℕ). RowFits c.args.ranks.now c.args.query.now n c.args.words.now) c.if-side-ne0.false c.requires.fits)

pub returns-then-side-ne0-clause-ok : goal.returns-then-side-ne0-clause-ok
returns-then-side-ne0-clause-ok c = λ rows r s side words.
    let texts = c.args.ranks.now in
    let b = c.args.query.now in
    let ws = c.args.words.now in
    let fits = fits_more texts b rows r c.args.side ws side words c.requires.fits s.fits in
    elim c.then-side-ne0.branch [
      | then-side-ne0-via-then-side-ne0 w ↦ having_stays texts b rows c.args.self.now s (rows ++ r ∷ []) fits (held_other texts b rows r (λ e. w.if-side-ne0.true (sym side ∙ e)))
      | then-side-ne0-via-else-side-ne0+then-not-holds_on_row w ↦ having_stays texts b rows c.args.self.now s (rows ++ r ∷ []) fits (held_out texts b rows r ws (side ∙ w.if-side-ne0.false) words (sym w.holds_on_row.ensures ∙ w.if-not-holds_on_row.true))
    ]

pub add-requires : goal.add-requires
add-requires c =
    let rows = c.requires.room.0 in
    let s = c.requires.room.1 in
    let short = having_short c.args.ranks.now c.args.query.now rows c.args.self.now s in
    record { room = (summed_keys s.keys s.sum (held c.args.ranks.now c.args.query.now rows), s.sums, s.are_words, omega (arith, short, c.requires.room.2)) }

pub returns-clause-ok : goal.returns-clause-ok
returns-clause-ok c = λ rows r s side words.
    let texts = c.args.ranks.now in
    let b = c.args.query.now in
    let ws = c.args.words.now in
    let word : IsWord (to_z w64 (of_z w64 c.amount_at.result)) = record { low = omega (arith, ints); high = omega (arith, ints) } in
    let value : to_z w64 (of_z w64 c.amount_at.result) ≡ c.amount_at.result = omega (arith, ints) in
    on_ok_weaker c.add.result
    (λ kept. having_takes texts b rows c.args.self.now s (rows ++ r ∷ []) ws c.in_ok-key.key.items (to_z w64 (of_z w64 c.amount_at.result)) c.add.new.self
    (fits_more texts b rows r c.args.side ws side words c.requires.fits s.fits)
    (held_in texts b rows r ws (side ∙ c.if-side-ne0.false) words (sym c.holds_on_row.ensures ∙ c.if-not-holds_on_row.false))
    (c.in_ok-key.ensures ∙ ap (pick ws) c.as_slice.ensures) (value ∙ c.amount_at.ensures) word kept)
    (c.add.ensures.ok (summed_keys s.keys s.sum (held texts b rows)) s.sums)
