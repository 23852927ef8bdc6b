use Rattle.std.proofs.Common.{ℕ, ◌+◌, ◌≤◌, ◌^◌, sym, ap, ◌∙◌, refl, subst, arith, length, [], ◌∷◌, ◌++◌}
use Rattle.std.proofs.lemmas.Result.{on_ok_weaker}
use Rattle.ch_flat.specs.Flat.{pick, with_row}
use Rattle.ch_fold_lines.specs.Rows.{RowFits}
use Rattle.ch_fold_lines.proofs.Held.{fits_more}
use Rattle.ch_fold_pairs.proofs.Grown.{rows_grown}
use Rattle.ch_fold_pairs.proofs.JoinLaws.{join_short, join_stays, left_takes, left_width, right_takes, right_width, words_in, words_other}
use Rattle.ch_fold_pairs.proofs.join.JoinFold.add.Goals as goal

pub push_picked-requires : goal.push_picked-requires
push_picked-requires c =
    let h = c.requires.stands in
    let short = join_short h.0 h.1 h.2 c.args.self.now h.3 in
    record {
      width = ap length c.as_slice.ensures ∙ left_width h.0 h.1 h.2 c.args.self.now h.3;
      room = omega (arith, short, h.5);
    }

pub push_picked-requires-then-side-eq1 : goal.push_picked-requires-then-side-eq1
push_picked-requires-then-side-eq1 c =
    let h = c.requires.stands in
    let short = join_short h.0 h.1 h.2 c.args.self.now h.3 in
    record {
      width = ap length c.as_slice-then-side-eq1.ensures ∙ right_width h.0 h.1 h.2 c.args.self.now h.3;
      room = omega (arith, short, h.5);
    }

pub invariant_of-self : goal.invariant_of-self
invariant_of-self c =
    let h = c.requires.stands in
    let short = join_short h.0 h.1 h.2 c.args.self.now h.3 in
    let grown = rows_grown c.push_picked.result c.args.self.now.left c.push_picked.new.self _ c.push_picked.ensures.ok c.push_picked.ensures.err in
    let small : length c.push_picked.new.self.rows + length c.args.self.now.right.rows ≤ 2 ^ 63 = omega (arith, short, grown, h.5) in
    record { small = small }

pub invariant_of-self-then-side-eq1 : goal.invariant_of-self-then-side-eq1
invariant_of-self-then-side-eq1 c =
    let h = c.requires.stands in
    let short = join_short h.0 h.1 h.2 c.args.self.now h.3 in
    let grown = rows_grown c.push_picked-then-side-eq1.result c.args.self.now.right c.push_picked-then-side-eq1.new.self _ c.push_picked-then-side-eq1.ensures.ok c.push_picked-then-side-eq1.ensures.err in
    let small : length c.args.self.now.left.rows + length c.push_picked-then-side-eq1.new.self.rows ≤ 2 ^ 63 = omega (arith, short, grown, h.5) in
    record { small = small }

pub returns-then-side-eq0-clause-ok : goal.returns-then-side-eq0-clause-ok
returns-then-side-eq0-clause-ok c = λ texts b rows r s f side words.
    let ws = c.args.words.now in
    let own = side ∙ c.if-side-eq0.true in
    on_ok_weaker c.push_picked.result
    (λ e. left_takes texts b rows c.args.self.now s (rows ++ r ∷ []) ws _
    (fits_more texts b rows r c.args.side ws side words f s.fits)
    (subst (λ (n : ℕ). RowFits texts b n ws) c.if-side-eq0.true f)
    (words_in 0 rows r ws own words)
    (words_other 1 rows r (λ z. absurd (omega (arith, z, side, c.if-side-eq0.true))))
    refl refl (e ∙ ap (λ ps. with_row c.args.self.now.left (pick ws ps)) c.as_slice.ensures) refl)
    c.push_picked.ensures.ok

pub returns-then-side-eq1-clause-ok : goal.returns-then-side-eq1-clause-ok
returns-then-side-eq1-clause-ok c = λ texts b rows r s f side words.
    let ws = c.args.words.now in
    let own = side ∙ c.if-side-eq1.true in
    on_ok_weaker c.push_picked-then-side-eq1.result
    (λ e. right_takes texts b rows c.args.self.now s (rows ++ r ∷ []) ws _
    (fits_more texts b rows r c.args.side ws side words f s.fits)
    (subst (λ (n : ℕ). RowFits texts b n ws) c.if-side-eq1.true f)
    (words_other 0 rows r (λ z. absurd (omega (arith, z, side, c.if-side-eq1.true))))
    (words_in 1 rows r ws own words)
    refl refl refl (e ∙ ap (λ ps. with_row c.args.self.now.right (pick ws ps)) c.as_slice-then-side-eq1.ensures))
    c.push_picked-then-side-eq1.ensures.ok

pub returns-clause-ok : goal.returns-clause-ok
returns-clause-ok c = λ texts b rows r s f side words.
    join_stays texts b rows c.args.self.now s (rows ++ r ∷ []) (fits_more texts b rows r c.args.side c.args.words.now side words f s.fits)
    (words_other 0 rows r (λ z. c.if-side-eq0.false (sym side ∙ z)))
    (words_other 1 rows r (λ z. c.if-side-eq1.false (sym side ∙ z)))
