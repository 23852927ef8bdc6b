use Rattle.std.proofs.Common.{◌≡◌, ◌∙◌, sym, subst}
use Rattle.ch_ir.specs.declared.setting.Setting.TheVariants.{Ops}
use Rattle.op_group.specs.Shown as group
use Rattle.op_group.specs.Sizes.{IsFine, Sizes}
use Rattle.ch_plan.proofs.KeyPlans.{group_fine, group_of, group_plan, sides_few}
use Rattle.ch_plan.proofs.kinds.plan_group.Goals as goal

pub different_places-requires-clause-few : goal.different_places-requires-clause-few
different_places-requires-clause-few c = sides_few c.args.bound.now c.requires.few

pub place_of-value-requires-clause-few : goal.place_of-value-requires-clause-few
place_of-value-requires-clause-few c = sides_few c.args.bound.now c.requires.few c.args.value.side

pub new-group-requires-clause-many : goal.new-group-requires-clause-many
new-group-requires-clause-many c = (c.requires.ranged Ops).0

pub new-group-requires-clause-fine : goal.new-group-requires-clause-fine
new-group-requires-clause-fine c =
    let b = c.args.bound.now in
    let profile = c.args.profile.now in
    subst {A = Sizes} IsFine
    (λ i. record {
      width = (sym c.width_of-width.ensures) i;
      rows = profile.group_rows;
      cols = profile.group_cols;
      key = (sym c.in_ok-key.ensures) i;
      value = (sym c.place_of-value.ensures) i;
      is_max = c.args.max;
    })
    (group_fine b profile c.args.keys.now c.args.max c.args.value c.requires.few c.requires.ranged c.requires.keys c.requires.carried)

pub returns : goal.returns
returns c =
    let b = c.args.bound.now in
    let profile = c.args.profile.now in
    let made = c.new-group.ensures in
    let sizes : group.sizes c.new-group.result ≡ group_of b profile c.args.keys.now c.args.max c.args.value =
    λ i. record {
      width = (made.width ∙ c.width_of-width.ensures) i;
      rows = made.rows i;
      cols = made.cols i;
      key = (made.key ∙ c.in_ok-key.ensures) i;
      value = (made.value ∙ c.place_of-value.ensures) i;
      is_max = made.max i;
    } in
    group_plan b profile c.args.keys.now c.args.max c.args.value c.new-group.result c.requires.kind sizes made.ops c.requires.within
