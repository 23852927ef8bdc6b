use Rattle.std.proofs.Common.{◌≡◌, ◌∙◌, List, ap, sym, subst, map}
use Rattle.ch_lists.specs.Members.{Each}
use Rattle.ch_ir.specs.declared.setting.Setting.TheVariants.{Ops}
use Rattle.ch_pred.specs.Named.{printed_cols}
use Rattle.ch_pred.specs.Sound.{IsCarried}
use Rattle.ch_pred.specs.declared.pred.Col.{Col}
use Rattle.ch_places.specs.Different.{different}
use Rattle.op_moves.specs.Columns.{place_of}
use Rattle.op_distinct.specs.Shown as distinct
use Rattle.op_distinct.specs.Sizes.{IsFine, Sizes}
use Rattle.ch_plan.proofs.KeyPlans.{distinct_fine, distinct_of, distinct_plan, sides_few}
use Rattle.ch_plan.proofs.kinds.plan_distinct.Goals as goal

pub different_places-requires-clause-carried : goal.different_places-requires-clause-carried
different_places-requires-clause-carried c =
    subst (Each (λ (k : Col). IsCarried c.args.bound.now k.side k.at)) (sym (c.as_slice-2.ensures ∙ (c.in_ok-cols.ensures ∙ ap printed_cols c.as_slice.ensures))) c.requires.keys.0

pub different_places-requires-clause-few : goal.different_places-requires-clause-few
different_places-requires-clause-few c = sides_few c.args.bound.now c.requires.few

pub new-distinct-requires-clause-many : goal.new-distinct-requires-clause-many
new-distinct-requires-clause-many c = (c.requires.ranged Ops).0

pub new-distinct-requires-clause-fine : goal.new-distinct-requires-clause-fine
new-distinct-requires-clause-fine c =
    let b = c.args.bound.now in
    let profile = c.args.profile.now in
    let cols : c.as_slice-2.result.now ≡ printed_cols b.printed = c.as_slice-2.ensures ∙ (c.in_ok-cols.ensures ∙ ap printed_cols c.as_slice.ensures) in
    let key : c.in_ok-key.key ≡ (distinct_of b profile).key = c.in_ok-key.ensures ∙ ap (λ (xs : List Col). map (place_of b) (different xs)) cols in
    subst {A = Sizes} IsFine (λ i. record { width = (sym c.width_of-width.ensures) i; rows = profile.distinct_rows; cols = profile.distinct_cols; key = (sym key) i }) (distinct_fine b profile c.requires.few c.requires.ranged c.requires.keys)

pub returns : goal.returns
returns c =
    let b = c.args.bound.now in
    let profile = c.args.profile.now in
    let made = c.new-distinct.ensures in
    let cols : c.as_slice-2.result.now ≡ printed_cols b.printed = c.as_slice-2.ensures ∙ (c.in_ok-cols.ensures ∙ ap printed_cols c.as_slice.ensures) in
    let key : c.in_ok-key.key ≡ (distinct_of b profile).key = c.in_ok-key.ensures ∙ ap (λ (xs : List Col). map (place_of b) (different xs)) cols in
    let sizes : distinct.sizes c.new-distinct.result ≡ distinct_of b profile =
    λ i. record { width = (made.width ∙ c.width_of-width.ensures) i; rows = made.rows i; cols = made.cols i; key = (made.key ∙ key) i } in
    distinct_plan b profile c.new-distinct.result c.requires.kind sizes made.ops c.requires.within
