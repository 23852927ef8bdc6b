use Rattle.std.proofs.Common.{◌≡◌, ℕ, ◌+◌, ◌∙◌, ap, ap₂, arith}
use Rattle.ch_ir.specs.declared.setting.Setting.TheVariants.{BloomCells, BloomHashes, Ops}
use Rattle.op_bloom.specs.declared.sizes.Sizes.{Sizes}
use Rattle.ch_plan.specs.Needs.{greatest_length}
use Rattle.ch_plan.proofs.Placed.{placed, shorter}
use Rattle.ch_plan.proofs.TwoPassPlans.{filters_of, join_plan}
use Rattle.ch_plan.proofs.kinds.plan_join.Goals as goal

pub new-join-requires-clause-ops : goal.new-join-requires-clause-ops
new-join-requires-clause-ops c = (c.requires.ranged Ops).0

pub new-join-requires-clause-hashes : goal.new-join-requires-clause-hashes
new-join-requires-clause-hashes c = (c.requires.ranged BloomHashes).1

pub new-join-requires-clause-some : goal.new-join-requires-clause-some
new-join-requires-clause-some c = let h = (c.requires.ranged BloomCells).0 in omega arith

pub new-join-requires-clause-few : goal.new-join-requires-clause-few
new-join-requires-clause-few c = let h = (c.requires.ranged BloomCells).1 in omega arith

pub new-join-requires-clause-left : goal.new-join-requires-clause-left
new-join-requires-clause-left c =
    let h = placed c.args.bound.now c.args.left.side c.args.left.at c.requires.left in
    let w = c.width_of-width.ensures in
    let v = c.place_of-first.ensures in
    (omega arith, omega arith)

pub new-join-requires-clause-right : goal.new-join-requires-clause-right
new-join-requires-clause-right c =
    let h = placed c.args.bound.now c.args.right.side c.args.right.at c.requires.right in
    let w = c.width_of-width.ensures in
    let v = c.place_of-second.ensures in
    (omega arith, omega arith)

pub returns : goal.returns
returns c =
    let b = c.args.bound.now in
    let profile = c.args.profile.now in
    let made : ℕ → ℕ → ℕ → Sizes = λ w l r. record { width = w; hashes = profile.bloom_hashes; cells = profile.bloom_cells; left = l; right = r } in
    let sizes : c.new-join.result.sizes ≡ filters_of b profile c.args.left c.args.right =
    c.new-join.ensures.sizes ∙ (ap (λ (w : ℕ). made w c.place_of-first.result c.place_of-second.result) c.width_of-width.ensures
    ∙ ap₂ (λ (l r : ℕ). made (greatest_length b.carried + 3) l r) c.place_of-first.ensures c.place_of-second.ensures) in
    join_plan b profile c.args.left c.args.right c.new-join.result c.requires.kind c.requires.first c.requires.second sizes c.new-join.ensures.ops c.requires.within

pub place_of-first-requires-clause-few : goal.place_of-first-requires-clause-few
place_of-first-requires-clause-few c = let h = shorter c.args.bound.now.carried c.args.left.side in let few = c.requires.few in omega arith

pub place_of-second-requires-clause-few : goal.place_of-second-requires-clause-few
place_of-second-requires-clause-few c = let h = shorter c.args.bound.now.carried c.args.right.side in let few = c.requires.few in omega arith
