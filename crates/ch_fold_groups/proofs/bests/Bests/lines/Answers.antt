use Rattle.std.proofs.Common.{◌≡◌, ◌<◌, ℤ, List, length, get_or, ap, sym, ◌∙◌, arith, pos, Some, slice_get, w64, to_z, of_z}
use Rattle.std.specs.Prelude.{option_map}
use Rattle.std.proofs.lemmas.Int.{ints}
use Rattle.ch_flat.specs.Flat.{Flat}
use Rattle.ch_fold_groups.specs.Kept.{Valued}
use Rattle.ch_fold_groups.proofs.ValueLines.{lines_short, lines_step}
use Rattle.ch_fold_groups.proofs.bests.Bests.lines.Goals as goal

pub push_line-requires-clause-room : goal.push_line-requires-clause-room
push_line-requires-clause-room c =
    let short = lines_short c.args.places.now c.args.self.now.keys c.deref-best-items.result.now c.loop-number.number in
    let small = c.self.inside.bests.small in
    let vec = c.self.inside.bests.ok in
    omega (arith, ap (λ (f : Flat). length f.rows) c.loop-number.invariant, short, small, vec.0, vec.1, ap length c.deref-best-items.ensures.value, c.loop-number-test.true)

pub loop-number-preserved : goal.loop-number-preserved
loop-number-preserved c =
    let keys : c.self.inside.keys ≡ c.args.self.now.keys = ap (λ (v : Valued ℤ). v.keys) c.self.view_is in
    let best = get_or c.deref-best-items.result.now c.loop-number.number (pos 0) in
    let value : to_z w64 (of_z w64 best) ≡ best = omega (arith, ints) in
    let key : slice_get c.args.self.now.keys c.loop-number.number ≡ Some c.unwrap-key.result.now =
    sym (c.key.ensures ∙ ap (λ (ks : List (List ℤ)). slice_get ks c.loop-number.number) keys) ∙ ap (option_map (λ k. k.now)) c.unwrap-key.ensures in
    let long : c.loop-number.number < length c.args.self.now.keys = omega (arith, c.loop-number-test.true, ap length keys, c.self.invariant, ap length c.deref-best-items.ensures.value) in
    lines_step c.args.places.now c.args.self.now.keys c.deref-best-items.result.now c.loop-number.number c.loop-number.lines c.push_line.new.lines c.unwrap-key.result.now (to_z w64 (of_z w64 best))
    long c.loop-number-test.true key value c.loop-number.invariant c.in_ok-push_line.ensures.ok
