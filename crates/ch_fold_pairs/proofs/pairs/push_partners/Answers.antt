use Rattle.std.proofs.Common.{◌≡◌, ◌+◌, ◌<◌, ◌<ℤ◌, List, ℤ, pos, length, get_or, ap, sym, ◌∙◌, subst, arith, [], ◌++◌, ◌∷◌, drop, w64, to_z, of_z}
use Rattle.std.specs.Prelude.{int_lt}
use Rattle.std.proofs.lemmas.Int.{ints}
use Rattle.std.proofs.lemmas.List.{length-map}
use Rattle.ch_pred.specs.Meaning.{line}
use Rattle.ch_word_cells.specs.Fits.{WordsFit}
use Rattle.ch_flat.specs.Flat.{Flat, pick}
use Rattle.ch_fold_pairs.specs.Places.{firsts}
use Rattle.ch_fold_pairs.specs.Pairs.{is_partner, key_in, pair_seen, partner_lines}
use Rattle.ch_fold_pairs.proofs.Firsts.{pick_whole}
use Rattle.ch_fold_pairs.proofs.Merge.{In-at, lt_from, other_step, partner_step, partners_end, rows_end}
use Rattle.ch_fold_pairs.proofs.pairs.push_partners.Goals.{then-is_partner+in_ok-line+in_ok-push, else-is_partner}
use Rattle.ch_fold_pairs.proofs.pairs.push_partners.Goals as goal

pub returns-then-word_at-key : goal.returns-then-word_at-key
returns-then-word_at-key c =
    let left = c.args.left.now in
    let rights = c.args.right.now in
    let below : c.loop-at.at < length rights = omega (arith, c.loop-at-test.true, c.len-at-end.ensures) in
    let own : to_z w64 (of_z w64 c.word_at-key.result) ≡ key_in left = (omega (arith, ints)) ∙ c.word_at-key.ensures in
    let other : to_z w64 (of_z w64 c.word_at.result) ≡ key_in (get_or rights c.loop-at.at []) = (omega (arith, ints)) ∙ (c.word_at.ensures ∙ ap key_in c.row-row.ensures) in
    let above : key_in left <ℤ key_in (get_or rights c.loop-at.at []) = lt_from (key_in left) (key_in (get_or rights c.loop-at.at [])) ((λ i. int_lt (sym own i) (sym other i)) ∙ c.if-word_at-key.true) in
    let none = partners_end c.args.ranks.now c.args.query.now left rights c.loop-at.at below c.requires.rises above in
    let rows = rows_end c.loop-at.lines.rows (partner_lines c.args.ranks.now c.args.query.now (drop c.loop-at.at rights) left) _ none c.loop-at.invariant.rows in
    λ i. record { width = c.loop-at.invariant.width i; rows = rows i }

pub is_partner-requires-clause-fits : goal.is_partner-requires-clause-fits
is_partner-requires-clause-fits c =
    let rights = c.args.right.now in
    let below : c.loop-at.at < length rights = omega (arith, c.loop-at-test.true, c.len-at-end.ensures) in
    subst (λ (r : List ℤ). WordsFit c.args.ranks.now c.args.query.now (pair_seen c.args.query.now c.args.left.now r)) (sym c.row-row.ensures) (c.requires.fits (get_or rights c.loop-at.at []) (In-at rights c.loop-at.at below))

pub loop-at-preserved : goal.loop-at-preserved
loop-at-preserved c =
    let texts = c.args.ranks.now in
    let b = c.args.query.now in
    let left = c.args.left.now in
    let rights = c.args.right.now in
    let at = c.loop-at.at in
    let own = get_or rights at [] in
    let before = c.loop-at.lines in
    let below : at < length rights = omega (arith, c.loop-at-test.true, c.len-at-end.ensures) in
    let asked : c.is_partner.result ≡ is_partner texts b left own = c.is_partner.ensures ∙ ap (is_partner texts b left) c.row-row.ensures in
    elim c.if-is_partner.branch [
      | then-is_partner+in_ok-line+in_ok-push w ↦
          let line_is : w.as_slice.result.now ≡ line b.printed (pos 0) (pair_seen b left own) =
          w.as_slice.ensures.value ∙ (w.in_ok-line.ensures ∙ ap (λ (r : List ℤ). line b.printed (pos 0) (pair_seen b left r)) c.row-row.ensures) in
          let width_is : length w.as_slice.result.now ≡ before.width = ap length line_is ∙ (length-map b.printed _ ∙ sym (c.loop-at.invariant.width ∙ c.requires.width)) in
          let picked : pick w.as_slice.result.now (firsts before.width) ≡ line b.printed (pos 0) (pair_seen b left own) = pick_whole w.as_slice.result.now before.width width_is ∙ line_is in
          let after = w.lines-is ∙ w.in_ok-push.ensures.ok in
          record {
            width = ap (λ (f : Flat). f.width) after ∙ c.loop-at.invariant.width;
            rows = partner_step texts b left rights at before.rows c.if-is_partner.lines.rows _ below (sym asked ∙ w.if-is_partner.true)
                (ap (λ (f : Flat). f.rows) after ∙ ap (λ (l : List ℤ). before.rows ++ l ∷ []) picked) c.loop-at.invariant.rows;
          }
      | else-is_partner w ↦
          record {
            width = ap (λ (f : Flat). f.width) w.lines-is ∙ c.loop-at.invariant.width;
            rows = ap (λ (f : Flat). f.rows ++ partner_lines texts b (drop (at + 1) rights) left) w.lines-is ∙ other_step texts b left rights at before.rows _ below (sym asked ∙ w.if-is_partner.false) c.loop-at.invariant.rows;
          }
    ]
