use Rattle.std.proofs.Common.{◌≡◌, ℕ, ◌∙◌, ap₂, arith}
use Rattle.ch_ir.specs.declared.setting.Setting.TheVariants.{Ops, TopGap, TopSteps}
use Rattle.op_topn.specs.declared.sizes.Sizes.{Sizes}
use Rattle.ch_plan.proofs.KindPlans.{top_of, top_plan}
use Rattle.ch_plan.proofs.Placed.{placed, shorter}
use Rattle.ch_plan.proofs.kinds.plan_top.Goals as goal

pub new-top-requires-clause-ops : goal.new-top-requires-clause-ops
new-top-requires-clause-ops c = (c.requires.ranged Ops).0

pub new-top-requires-clause-steps : goal.new-top-requires-clause-steps
new-top-requires-clause-steps c = (c.requires.ranged TopSteps).1

pub new-top-requires-clause-gap : goal.new-top-requires-clause-gap
new-top-requires-clause-gap c = (c.requires.ranged TopGap).1

pub new-top-requires-clause-place : goal.new-top-requires-clause-place
new-top-requires-clause-place c =
    let h = placed c.args.bound.now c.args.by.side c.args.by.at c.requires.carried in
    let w = c.width_of-width.ensures in
    let v = c.place_of-value.ensures in
    omega arith

pub place_of-value-requires-clause-few : goal.place_of-value-requires-clause-few
place_of-value-requires-clause-few c = let h = shorter c.args.bound.now.carried c.args.by.side in let few = c.requires.few in omega arith

pub returns : goal.returns
returns c =
    let b = c.args.bound.now in
    let profile = c.args.profile.now in
    let made : ℕ → ℕ → Sizes = λ w v. record { width = w; steps = profile.top_steps; gap = profile.top_gap; value = v; descending = c.args.descending; limit = c.args.limit } in
    let sizes : c.new-top.result.sizes ≡ top_of b profile c.args.by c.args.descending c.args.limit = c.new-top.ensures.sizes ∙ ap₂ made c.width_of-width.ensures c.place_of-value.ensures in
    top_plan b profile c.args.by c.args.descending c.args.limit c.new-top.result c.requires.kind sizes c.new-top.ensures.ops c.requires.within
