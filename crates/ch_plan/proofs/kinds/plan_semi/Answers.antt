use Rattle.std.proofs.Common.{◌≡◌, ℕ, ◌+◌, ◌∙◌, ap, ap₂, arith}
use Rattle.ch_ir.specs.declared.setting.Setting.TheVariants.{BloomCells, BloomHashes, DistinctCols, DistinctRows, Ops}
use Rattle.op_semi.specs.declared.sizes.Sizes.{Sizes}
use Rattle.ch_plan.specs.Needs.{greatest_length}
use Rattle.ch_plan.proofs.Placed.{placed, shorter}
use Rattle.ch_plan.proofs.TwoPassPlans.{semi_plan, semi_sizes_of}
use Rattle.ch_plan.proofs.kinds.plan_semi.Goals as goal

pub new-semi-requires-clause-ops : goal.new-semi-requires-clause-ops
new-semi-requires-clause-ops c = (c.requires.ranged Ops).0

pub new-semi-requires-clause-hashes : goal.new-semi-requires-clause-hashes
new-semi-requires-clause-hashes c = (c.requires.ranged BloomHashes).1

pub new-semi-requires-clause-some : goal.new-semi-requires-clause-some
new-semi-requires-clause-some c = let h = (c.requires.ranged BloomCells).0 in omega arith

pub new-semi-requires-clause-few : goal.new-semi-requires-clause-few
new-semi-requires-clause-few c = let h = (c.requires.ranged BloomCells).1 in omega arith

pub new-semi-requires-clause-rows : goal.new-semi-requires-clause-rows
new-semi-requires-clause-rows c = let h = (c.requires.ranged DistinctRows).0 in omega arith

pub new-semi-requires-clause-small : goal.new-semi-requires-clause-small
new-semi-requires-clause-small c = let h = (c.requires.ranged DistinctRows).1 in omega arith

pub new-semi-requires-clause-cols : goal.new-semi-requires-clause-cols
new-semi-requires-clause-cols c = (c.requires.ranged DistinctCols).1

pub new-semi-requires-clause-key : goal.new-semi-requires-clause-key
new-semi-requires-clause-key c =
    let h = placed c.args.bound.now c.args.key.side c.args.key.at c.requires.key in
    let w = c.width_of-width.ensures in
    let v = c.place_of-outer.ensures in
    (omega arith, omega arith)

pub new-semi-requires-clause-inner : goal.new-semi-requires-clause-inner
new-semi-requires-clause-inner c =
    let h = placed c.args.bound.now c.args.inner.side c.args.inner.at c.requires.inner in
    let w = c.width_of-width.ensures in
    let v = c.place_of-place.ensures in
    (omega arith, omega arith)

pub returns : goal.returns
returns c =
    let b = c.args.bound.now in
    let profile = c.args.profile.now in
    let made : ℕ → ℕ → ℕ → Sizes = λ w l r. record { bloom = record { width = w; hashes = profile.bloom_hashes; cells = profile.bloom_cells; left = l; right = r }; rows = profile.distinct_rows; cols = profile.distinct_cols } in
    let sizes : c.new-semi.result.sizes ≡ semi_sizes_of b profile c.args.key c.args.inner =
    c.new-semi.ensures.sizes ∙ (ap (λ (w : ℕ). made w c.place_of-outer.result c.place_of-place.result) c.width_of-width.ensures
    ∙ ap₂ (λ (l r : ℕ). made (greatest_length b.carried + 3) l r) c.place_of-outer.ensures c.place_of-place.ensures) in
    semi_plan b profile c.args.key c.args.inner c.new-semi.result c.requires.kind sizes c.new-semi.ensures.ops c.requires.within

pub place_of-outer-requires-clause-few : goal.place_of-outer-requires-clause-few
place_of-outer-requires-clause-few c = let h = shorter c.args.bound.now.carried c.args.key.side in let few = c.requires.few in omega arith

pub place_of-place-requires-clause-few : goal.place_of-place-requires-clause-few
place_of-place-requires-clause-few c = let h = shorter c.args.bound.now.carried c.args.inner.side in let few = c.requires.few in omega arith
