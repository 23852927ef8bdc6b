use Rattle.std.proofs.Common.{◌≡◌, ℕ, ◌+◌, Bool, List, ◌∙◌, ap, ap₂, arith}
use Rattle.std.specs.List.{list_all}
use Rattle.ch_ir.specs.declared.setting.Setting.TheVariants.{Ops, SkylinePoints}
use Rattle.op_skyline.specs.Fine.{is_place}
use Rattle.op_skyline.specs.declared.sizes.Sizes.{Sizes}
use Rattle.ch_plan.specs.Needs.{greatest_length}
use Rattle.ch_plan.proofs.KindPlans.{skyline_plan, skyline_sizes_of}
use Rattle.ch_plan.proofs.Placed.{dims_placed}
use Rattle.ch_plan.proofs.kinds.plan_skyline.Goals as goal

pub new-skyline-requires-clause-ops : goal.new-skyline-requires-clause-ops
new-skyline-requires-clause-ops c = (c.requires.ranged Ops).0

pub new-skyline-requires-clause-points : goal.new-skyline-requires-clause-points
new-skyline-requires-clause-points c = let h = (c.requires.ranged SkylinePoints).1 in omega arith

pub new-skyline-requires-clause-placed : goal.new-skyline-requires-clause-placed
new-skyline-requires-clause-placed c =
    ap₂ (λ (w : ℕ) (places : List ℕ). list_all (is_place w) places) c.width_of-width.ensures c.in_ok-places.ensures ∙ dims_placed c.args.bound.now c.args.dims.now c.requires.carried

pub returns : goal.returns
returns c =
    let b = c.args.bound.now in
    let profile = c.args.profile.now in
    let dims = c.args.dims.now in
    let made : (w : ℕ) → List ℕ → List Bool → Sizes = λ w places max. record { width = w; points = profile.skyline_points; places = places; max = max } in
    let sizes : c.new-skyline.result.sizes ≡ skyline_sizes_of b profile dims =
    c.new-skyline.ensures.sizes ∙ (ap (λ (w : ℕ). made w c.in_ok-places.places c.in_ok-max.max) c.width_of-width.ensures
    ∙ ap₂ (λ (places : List ℕ) (max : List Bool). made (greatest_length b.carried + 3) places max) c.in_ok-places.ensures c.in_ok-max.ensures) in
    skyline_plan b profile dims c.new-skyline.result c.requires.kind sizes c.new-skyline.ensures.ops c.requires.within
