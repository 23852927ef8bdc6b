use Rattle.std.proofs.Common.{◌≡◌, ◌<◌, ℤ, List, true, false, length, get_or, ap, sym, ◌∙◌, arith, pos, Some, slice_get, w64, to_z, of_z}
use Rattle.std.specs.Prelude.{option_map, int_lt}
use Rattle.std.proofs.lemmas.Int.{ints}
use mir.Syntax.{w128}
use Rattle.ch_flat.specs.Flat.{Flat}
use Rattle.ch_fold_groups.specs.Kept.{Valued}
use Rattle.ch_fold_groups.proofs.ValueLines.{above_short, above_step, below_step}
use Rattle.ch_fold_groups.proofs.sums.Sums.lines_above.Goals.{then-sum-from+in_ok-push_line, else-sum-from}
use Rattle.ch_fold_groups.proofs.sums.Sums.lines_above.Goals as goal

pub push_line-requires-clause-room : goal.push_line-requires-clause-room
push_line-requires-clause-room c =
    let short = above_short c.args.places.now (to_z w64 (of_z w64 c.args.above)) c.args.self.now.keys c.deref-sum-items.result.now c.loop-number.number in
    let small = c.self.inside.sums.small in
    let vec = c.self.inside.sums.ok in
    omega (arith, ap (λ (f : Flat). length f.rows) c.loop-number.invariant, short, small, vec.0, vec.1, ap length c.deref-sum-items.ensures.value, c.loop-number-test.true)

pub loop-number-preserved : goal.loop-number-preserved
loop-number-preserved c =
    let keys : c.self.inside.keys ≡ c.args.self.now.keys = ap (λ (v : Valued ℤ). v.keys) c.self.view_is in
    let sum = get_or c.deref-sum-items.result.now c.loop-number.number (pos 0) in
    let limit = to_z w64 (of_z w64 c.args.above) in
    let wide : to_z w128 (of_z w128 c.from.result) ≡ limit = omega (arith, ints, c.from.ensures) in
    let whole : to_z w128 (of_z w128 sum) ≡ sum = omega (arith, ints) in
    let long : c.loop-number.number < length c.args.self.now.keys = omega (arith, c.loop-number-test.true, ap length keys, c.self.invariant, ap length c.deref-sum-items.ensures.value) in
    elim c.if-sum-from.branch [
      | then-sum-from+in_ok-push_line w ↦
          let key : slice_get c.args.self.now.keys c.loop-number.number ≡ Some w.unwrap-key.result.now =
          sym (w.key.ensures ∙ ap (λ (ks : List (List ℤ)). slice_get ks c.loop-number.number) keys) ∙ ap (option_map (λ k. k.now)) w.unwrap-key.ensures in
          let above : int_lt limit sum ≡ true = (λ i. int_lt (sym wide i) (sym whole i)) ∙ w.if-sum-from.true in
          above_step c.args.places.now limit c.args.self.now.keys c.deref-sum-items.result.now c.loop-number.number c.loop-number.lines c.if-sum-from.lines w.unwrap-key.result.now sum
          long c.loop-number-test.true key (λ _. sum) above c.loop-number.invariant (w.lines-is ∙ w.in_ok-push_line.ensures.ok)
      | else-sum-from w ↦
          let below : int_lt limit sum ≡ false = (λ i. int_lt (sym wide i) (sym whole i)) ∙ w.if-sum-from.false in
          w.lines-is ∙ below_step c.args.places.now limit c.args.self.now.keys c.deref-sum-items.result.now c.loop-number.number c.loop-number.lines sum long c.loop-number-test.true (λ _. sum) below c.loop-number.invariant
    ]
