use Rattle.std.proofs.Common.{◌≡◌, ◌<◌, true, false, length, ap, sym, ◌∙◌, arith, ℤ, pos, w64, to_z, of_z}
use Rattle.std.specs.Prelude.{slice_index_or}
use Rattle.std.specs.Ordering.{int_cmp}
use Rattle.std.proofs.lemmas.Int.{ints}
use Rattle.ch_lists.specs.Ordered.{is_among}
use Rattle.ch_flat.specs.Flat.{pick, with_row}
use Rattle.ch_fold_lines.proofs.Held.{nothing_more}
use Rattle.ch_fold_pairs.specs.Places.{firsts}
use Rattle.ch_fold_pairs.proofs.SemiLaws.{matched_more}
use Rattle.ch_fold_pairs.proofs.semi.matched.Goals.{then-has+in_ok-push, else-has}
use Rattle.ch_fold_pairs.proofs.semi.matched.Goals as goal

pub loop-at-preserved : goal.loop-at-preserved
loop-at-preserved c =
    let row = c.row-row.result.now in
    let width = c.args.width in
    let inner = c.args.inner.now in
    let outer = c.args.outer.now in
    let below : c.loop-at.at < length outer = omega (arith, c.loop-at-test.true, c.len-at-end.ensures) in
    let value : to_z w64 (of_z w64 c.word_at.result) ≡ c.word_at.result = omega (arith, ints) in
    let asked : c.has.result ≡ is_among int_cmp (slice_index_or row width (pos 0)) inner = c.has.ensures ∙ ap (λ (w : ℤ). is_among int_cmp w inner) (value ∙ c.word_at.ensures) in
    elim c.if-has.branch [
      | then-has+in_ok-push w ↦
          let more = matched_more width inner outer c.loop-at.at row below c.row-row.ensures true (sym asked ∙ w.if-has.true) in
          w.lines-is ∙ (w.in_ok-push.ensures.ok ∙ ((λ i. with_row (c.loop-at.invariant i) (pick row (firsts (c.loop-at.invariant i).width))) ∙ (λ i. record { width = width; rows = sym more i })))
      | else-has w ↦
          let more = matched_more width inner outer c.loop-at.at row below c.row-row.ensures false (sym asked ∙ w.if-has.false) in
          w.lines-is ∙ (c.loop-at.invariant ∙ (λ i. record { width = width; rows = sym (more ∙ nothing_more _) i }))
    ]
