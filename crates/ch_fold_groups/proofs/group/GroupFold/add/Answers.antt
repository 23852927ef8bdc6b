use Rattle.std.proofs.Common.{ℕ, ◌≡◌, sym, ap, ◌∙◌, subst, arith, w64, to_z, of_z, [], ◌∷◌, ◌++◌}
use Rattle.std.proofs.lemmas.Int.{ints}
use Rattle.std.proofs.lemmas.Result.{on_ok_weaker}
use Rattle.ch_flat.specs.Flat.{pick}
use Rattle.ch_fold_lines.specs.Rows.{RowFits, held}
use Rattle.ch_fold_lines.proofs.WordFits.{words_fit}
use Rattle.ch_fold_lines.proofs.Held.{fits_more, held_in, held_other, held_out}
use Rattle.ch_fold_groups.specs.Group.{valued_keys}
use Rattle.ch_fold_groups.proofs.GroupLaws.{group_alone, group_before, group_stays, group_takes}
use Rattle.ch_fold_groups.proofs.group.GroupFold.add.Goals.{then-side-ne0-via-then-side-ne0, then-side-ne0-via-else-side-ne0+then-not-holds_on_row}
use Rattle.ch_fold_groups.proofs.group.GroupFold.add.Goals as goal

pub holds_on_row-requires-clause-fits : goal.holds_on_row-requires-clause-fits
holds_on_row-requires-clause-fits c =
    let s = c.requires.room.1 in
    words_fit c.args.ranks.now c.args.query.now c.args.words.now (group_alone c.args.query.now.shape s.keys s.max s.value s.shape)
    (subst (λ (n : ℕ). RowFits c.args.ranks.now c.args.query.now n c.args.words.now) c.if-side-ne0.false c.requires.fits)

pub returns-then-side-ne0-clause-ok : goal.returns-then-side-ne0-clause-ok
returns-then-side-ne0-clause-ok c = λ rows r s side words.
    let texts = c.args.ranks.now in
    let b = c.args.query.now in
    let ws = c.args.words.now in
    let fits = fits_more texts b rows r c.args.side ws side words c.requires.fits s.fits in
    elim c.then-side-ne0.branch [
      | then-side-ne0-via-then-side-ne0 w ↦ group_stays texts b rows c.args.self.now s (rows ++ r ∷ []) fits (held_other texts b rows r (λ e. w.if-side-ne0.true (sym side ∙ e)))
      | then-side-ne0-via-else-side-ne0+then-not-holds_on_row w ↦ group_stays texts b rows c.args.self.now s (rows ++ r ∷ []) fits (held_out texts b rows r ws (side ∙ w.if-side-ne0.false) words (sym w.holds_on_row.ensures ∙ w.if-not-holds_on_row.true))
    ]

pub returns-clause-ok : goal.returns-clause-ok
returns-clause-ok c = λ rows r s side words.
    let texts = c.args.ranks.now in
    let b = c.args.query.now in
    let ws = c.args.words.now in
    let value : to_z w64 (of_z w64 c.word_at.result) ≡ c.word_at.result = omega (arith, ints) in
    on_ok_weaker c.add.result
    (λ kept. group_takes texts b rows c.args.self.now s (rows ++ r ∷ []) ws c.in_ok-key.key.items (to_z w64 (of_z w64 c.word_at.result)) c.add.new.self
    (fits_more texts b rows r c.args.side ws side words c.requires.fits s.fits)
    (held_in texts b rows r ws (side ∙ c.if-side-ne0.false) words (sym c.holds_on_row.ensures ∙ c.if-not-holds_on_row.false))
    (c.in_ok-key.ensures ∙ ap (pick ws) c.as_slice.ensures) (value ∙ c.word_at.ensures) kept)
    (c.add.ensures.ok (valued_keys s.keys s.value (held texts b rows)) (group_before texts b rows c.args.self.now s))
