use Rattle.std.proofs.Common.{ℕ, ◌≡◌, ◌+◌, ◌≤◌, ◌^◌, sym, ap, ◌∙◌, refl, subst, arith, length, w64, to_z, of_z, [], ◌∷◌, ◌++◌}
use Rattle.std.specs.Ordering.{int_cmp}
use Rattle.std.proofs.lemmas.Int.{ints}
use Rattle.std.proofs.lemmas.Result.{on_ok_weaker}
use Rattle.ch_flat.specs.Flat.{pick, with_row}
use Rattle.ch_fold_laws.specs.Kept.{with_key}
use Rattle.ch_fold_lines.specs.Rows.{RowFits}
use Rattle.ch_fold_lines.proofs.WordFits.{words_fit}
use Rattle.ch_fold_lines.proofs.Held.{fits_more, held_in, held_other, held_out, side_in, side_other}
use Rattle.ch_fold_pairs.proofs.Grown.{rows_grown, words_grown}
use Rattle.ch_fold_pairs.proofs.SemiLaws.{inner_takes, outer_takes, semi_alone, semi_short, semi_stays}
use Rattle.ch_fold_pairs.proofs.semi.SemiFold.add.Goals.{then-side-ne0-via-then-side-ne0, then-side-ne0-via-else-side-ne0+then-not-holds_on_row}
use Rattle.ch_fold_pairs.proofs.semi.SemiFold.add.Goals as goal

pub holds_on_row-requires-clause-fits : goal.holds_on_row-requires-clause-fits
holds_on_row-requires-clause-fits c =
    let s = c.requires.room.1 in
    words_fit c.args.ranks.now c.args.query.now c.args.words.now (semi_alone c.args.query.now.shape s.key s.within s.shape)
    (subst (λ (n : ℕ). RowFits c.args.ranks.now c.args.query.now n c.args.words.now) c.if-side-ne0.false c.requires.fits)

pub invariant_of-self : goal.invariant_of-self
invariant_of-self c =
    let short = semi_short c.args.ranks.now c.args.query.now c.requires.room.0 c.args.self.now c.requires.room.1 in
    let grown = words_grown c.add.result c.args.self.now.inner c.add.new.self _ c.add.ensures.ok c.add.ensures.err in
    let small : length c.args.self.now.outer.rows + length c.add.new.self ≤ 2 ^ 63 = omega (arith, short, grown, c.requires.room.2) in
    record { small = small }

pub returns-then-side-eq1-clause-ok : goal.returns-then-side-eq1-clause-ok
returns-then-side-eq1-clause-ok c = λ rows r s side words.
    let texts = c.args.ranks.now in
    let b = c.args.query.now in
    let ws = c.args.words.now in
    let value : to_z w64 (of_z w64 c.word_at.result) ≡ c.word_at.result = omega (arith, ints) in
    on_ok_weaker c.add.result
    (λ k. inner_takes texts b rows c.args.self.now s (rows ++ r ∷ []) ws _
    (fits_more texts b rows r c.args.side ws side words c.requires.fits s.fits)
    (held_other texts b rows r (λ e. absurd (omega (arith, e, side, c.if-side-eq1.true))))
    (side_in b 1 rows r ws (side ∙ c.if-side-eq1.true) words)
    refl refl refl refl (k ∙ ap (with_key int_cmp c.args.self.now.inner) (value ∙ c.word_at.ensures)))
    c.add.ensures.ok

pub returns-then-side-ne0-clause-ok : goal.returns-then-side-ne0-clause-ok
returns-then-side-ne0-clause-ok c = λ rows r s side words.
    let texts = c.args.ranks.now in
    let b = c.args.query.now in
    let ws = c.args.words.now in
    let fits = fits_more texts b rows r c.args.side ws side words c.requires.fits s.fits in
    let inner = side_other b 1 rows r (λ e. c.if-side-eq1.false (sym side ∙ e)) in
    elim c.then-side-ne0.branch [
      | then-side-ne0-via-then-side-ne0 w ↦ semi_stays texts b rows c.args.self.now s (rows ++ r ∷ []) fits (held_other texts b rows r (λ e. w.if-side-ne0.true (sym side ∙ e))) inner
      | then-side-ne0-via-else-side-ne0+then-not-holds_on_row w ↦ semi_stays texts b rows c.args.self.now s (rows ++ r ∷ []) fits
          (held_out texts b rows r ws (side ∙ w.if-side-ne0.false) words (sym w.holds_on_row.ensures ∙ w.if-not-holds_on_row.true)) inner
    ]

pub push_picked-requires-clause-room : goal.push_picked-requires-clause-room
push_picked-requires-clause-room c =
    let short = semi_short c.args.ranks.now c.args.query.now c.requires.room.0 c.args.self.now c.requires.room.1 in
    omega (arith, short, c.requires.room.2)

pub invariant_of-self-2 : goal.invariant_of-self-2
invariant_of-self-2 c =
    let short = semi_short c.args.ranks.now c.args.query.now c.requires.room.0 c.args.self.now c.requires.room.1 in
    let grown = rows_grown c.push_picked.result c.args.self.now.outer c.push_picked.new.self _ c.push_picked.ensures.ok c.push_picked.ensures.err in
    let small : length c.push_picked.new.self.rows + length c.args.self.now.inner ≤ 2 ^ 63 = omega (arith, short, grown, c.requires.room.2) in
    record { small = small }

pub returns-clause-ok : goal.returns-clause-ok
returns-clause-ok c = λ rows r s side words.
    let texts = c.args.ranks.now in
    let b = c.args.query.now in
    let ws = c.args.words.now in
    on_ok_weaker c.push_picked.result
    (λ e. outer_takes texts b rows c.args.self.now s (rows ++ r ∷ []) ws _
    (fits_more texts b rows r c.args.side ws side words c.requires.fits s.fits)
    (subst (λ (n : ℕ). RowFits texts b n ws) c.if-side-ne0.false c.requires.fits)
    (held_in texts b rows r ws (side ∙ c.if-side-ne0.false) words (sym c.holds_on_row.ensures ∙ c.if-not-holds_on_row.false))
    (side_other b 1 rows r (λ e. c.if-side-eq1.false (sym side ∙ e)))
    refl refl refl (e ∙ ap (λ ps. with_row c.args.self.now.outer (pick ws ps)) c.as_slice.ensures) refl)
    c.push_picked.ensures.ok
