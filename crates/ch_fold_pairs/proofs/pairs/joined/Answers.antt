use Rattle.std.proofs.Common.{◌≡◌, ◌<◌, List, ℤ, length, get_or, ap, sym, ◌∙◌, subst, arith, [], ◌++◌, drop, w64, to_z, of_z}
use Rattle.std.proofs.lemmas.Int.{ints}
use Rattle.ch_lists.specs.Members.{In}
use Rattle.ch_fold_pairs.specs.Pairs.{key_in, partner_lines}
use Rattle.ch_fold_pairs.proofs.Merge.{In-at, joined_lines, passed_partners}
use Rattle.ch_fold_pairs.proofs.pairs.joined.Goals as goal

pub push_partners-requires-clause-fits : goal.push_partners-requires-clause-fits
push_partners-requires-clause-fits c = λ r i.
    let below : c.loop-at.at < length c.args.left.now = omega (arith, c.loop-at-test.true, c.len-at-end.ensures) in
    c.requires.fits c.row-row.result.now r (subst (λ (z : List ℤ). In z c.args.left.now) (sym c.row-row.ensures) (In-at c.args.left.now c.loop-at.at below)) i

pub loop-at-preserved : goal.loop-at-preserved
loop-at-preserved c =
    let texts = c.args.ranks.now in
    let b = c.args.query.now in
    let lefts = c.args.left.now in
    let rights = c.args.right.now in
    let below : c.loop-at.at < length lefts = omega (arith, c.loop-at-test.true, c.len-at-end.ensures) in
    let value : to_z w64 (of_z w64 c.word_at.result) ≡ c.word_at.result = omega (arith, ints) in
    let key : to_z w64 (of_z w64 c.word_at.result) ≡ key_in (get_or lefts c.loop-at.at []) = value ∙ (c.word_at.ensures ∙ ap key_in c.row-row.ensures) in
    record {
      within = c.first_from-from.ensures.within;
      lines = joined_lines texts b lefts rights c.loop-at.at c.loop-at.from c.first_from-from.result (to_z w64 (of_z w64 c.word_at.result)) below key c.first_from-from.ensures.passed c.loop-at.invariant.passed
          (length b.printed) c.loop-at.lines c.push_partners.new.lines c.loop-at.invariant.lines
          (c.in_ok-push_partners.ensures ∙ (λ i. record { width = c.loop-at.lines.width; rows = c.loop-at.lines.rows ++ partner_lines texts b (drop c.first_from-from.result rights) (c.row-row.ensures i) }));
      passed = passed_partners texts b lefts rights c.loop-at.at c.loop-at.from c.first_from-from.result (to_z w64 (of_z w64 c.word_at.result)) below key c.first_from-from.ensures.passed c.loop-at.invariant.passed c.requires.left_rises;
    }
