use Rattle.std.proofs.Common.{◌∙◌, arith}
use Rattle.ch_ir.specs.declared.setting.Setting.TheVariants.{Ops}
use Rattle.ch_plan.proofs.KindPlans.{filter_plan}
use Rattle.ch_plan.proofs.kinds.plan_filter.Goals as goal

pub new-filter-requires-clause-some : goal.new-filter-requires-clause-some
new-filter-requires-clause-some c = let h = (c.requires.ranged Ops).0 in omega arith

pub returns : goal.returns
returns c =
    filter_plan c.args.bound.now c.args.profile.now c.new-filter.result c.requires.kind (c.new-filter.ensures.width ∙ c.width_of.ensures) c.new-filter.ensures.ops c.requires.within
