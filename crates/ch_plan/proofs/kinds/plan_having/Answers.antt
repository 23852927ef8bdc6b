use Rattle.std.proofs.Common.{◌∙◌, ℕ, List, ap, ap₂, arith, length, rules, SFits, of_z, to_z, to_z-of_z, w64}
use Rattle.std.specs.List.{list_all}
use Rattle.ch_ir.specs.declared.setting.Setting.TheVariants.{Ops, SketchCells, SketchHashes}
use Rattle.op_moves.specs.Values.{is_place}
use Rattle.ch_plan.proofs.HavingPlans.{having_fits, sum_fits}
use Rattle.ch_plan.proofs.KeyPlans.{key_few, key_fits, sides_few}
use Rattle.ch_plan.proofs.kinds.plan_having.Goals as goal

pub different_places-requires-clause-few : goal.different_places-requires-clause-few
different_places-requires-clause-few c = sides_few c.args.bound.now c.requires.few

pub new-having-requires-clause-ops : goal.new-having-requires-clause-ops
new-having-requires-clause-ops c = (c.requires.ranged Ops).0

pub new-having-requires-clause-hashes : goal.new-having-requires-clause-hashes
new-having-requires-clause-hashes c = (c.requires.ranged SketchHashes).1

pub new-having-requires-clause-cells : goal.new-having-requires-clause-cells
new-having-requires-clause-cells c = let h = (c.requires.ranged SketchCells).0 in omega arith

pub new-having-requires-clause-short : goal.new-having-requires-clause-short
new-having-requires-clause-short c =
    let h = key_few c.args.bound.now c.args.keys.now c.requires.few c.requires.keys in
    let e = ap (λ (places : List ℕ). length places) c.in_ok-key.ensures in
    omega arith

pub new-having-requires-clause-key : goal.new-having-requires-clause-key
new-having-requires-clause-key c =
    ap₂ (λ (w : ℕ) (places : List ℕ). list_all (is_place w) places) c.width_of-width.ensures c.in_ok-key.ensures ∙ key_fits c.args.bound.now c.args.keys.now c.requires.keys

pub new-having-requires-clause-value : goal.new-having-requires-clause-value
new-having-requires-clause-value c = sum_fits c.args.bound.now c.args.sum c.width_of-width.result c.sum_place-value.result c.width_of-width.ensures c.sum_place-value.ensures c.requires.carried

pub returns : goal.returns
returns c =
    let above : SFits w64 c.args.above = search rules in
    having_fits c.args.bound.now c.args.profile.now c.args.keys.now c.args.sum c.args.above c.new-having.result c.width_of-width.result c.in_ok-key.key c.sum_place-value.result
    (to_z w64 (of_z w64 c.args.above)) c.new-having.ensures.sizes c.width_of-width.ensures c.in_ok-key.ensures c.sum_place-value.ensures (to_z-of_z above)
    c.requires.kind c.new-having.ensures.ops c.requires.within
