use Rattle.std.proofs.Common.{◌∙◌}
use Rattle.ch_pack.proofs.Accepted.{fits_of, is_packed, need_bounds, passes_at, seated}
use Rattle.ch_pack.proofs.packing.pack.Goals as goal

pub packed_need-need-requires-clause-width : goal.packed_need-need-requires-clause-width
packed_need-need-requires-clause-width c = (need_bounds c.args.plans.now c.args.profile.now c.requires.ranged c.requires.made c.requires.few).0

pub packed_need-need-requires-clause-words : goal.packed_need-need-requires-clause-words
packed_need-need-requires-clause-words c = (need_bounds c.args.plans.now c.args.profile.now c.requires.ranged c.requires.made c.requires.few).1

pub packed_need-need-requires-clause-stages : goal.packed_need-need-requires-clause-stages
packed_need-need-requires-clause-stages c = (need_bounds c.args.plans.now c.args.profile.now c.requires.ranged c.requires.made c.requires.few).2

pub bases_of-requires : goal.bases_of-requires
bases_of-requires c =
    (fits_of c.args.plans.now c.args.profile.now c.packed_need-need.result c.requires.made c.requires.few c.requires.ranged c.packed_need-need.ensures c.in_default.ensures).arrays

pub packed_program-requires-clause-small : goal.packed_program-requires-clause-small
packed_program-requires-clause-small c =
    (seated c.args.plans.now c.args.profile.now c.selector_of-selector.result c.selector_of-selector.ensures
    (fits_of c.args.plans.now c.args.profile.now c.packed_need-need.result c.requires.made c.requires.few c.requires.ranged c.packed_need-need.ensures c.in_default.ensures)).small

pub packed_program-requires-clause-verdicts : goal.packed_program-requires-clause-verdicts
packed_program-requires-clause-verdicts c =
    (seated c.args.plans.now c.args.profile.now c.selector_of-selector.result c.selector_of-selector.ensures
    (fits_of c.args.plans.now c.args.profile.now c.packed_need-need.result c.requires.made c.requires.few c.requires.ranged c.packed_need-need.ensures c.in_default.ensures)).verdicts

pub packed_program-requires-clause-begin : goal.packed_program-requires-clause-begin
packed_program-requires-clause-begin c =
    (seated c.args.plans.now c.args.profile.now c.selector_of-selector.result c.selector_of-selector.ensures
    (fits_of c.args.plans.now c.args.profile.now c.packed_need-need.result c.requires.made c.requires.few c.requires.ranged c.packed_need-need.ensures c.in_default.ensures)).first

pub packed_program-requires-clause-end : goal.packed_program-requires-clause-end
packed_program-requires-clause-end c =
    (seated c.args.plans.now c.args.profile.now c.selector_of-selector.result c.selector_of-selector.ensures
    (fits_of c.args.plans.now c.args.profile.now c.packed_need-need.result c.requires.made c.requires.few c.requires.ranged c.packed_need-need.ensures c.in_default.ensures)).last

pub accept-requires-clause-passes : goal.accept-requires-clause-passes
accept-requires-clause-passes c =
    (passes_at c.args.plans.now c.args.profile.now c.in_ok-program.program c.in_ok-program.ensures
    (fits_of c.args.plans.now c.args.profile.now c.packed_need-need.result c.requires.made c.requires.few c.requires.ranged c.packed_need-need.ensures c.in_default.ensures)).0

pub accept-requires-clause-stages : goal.accept-requires-clause-stages
accept-requires-clause-stages c =
    (passes_at c.args.plans.now c.args.profile.now c.in_ok-program.program c.in_ok-program.ensures
    (fits_of c.args.plans.now c.args.profile.now c.packed_need-need.result c.requires.made c.requires.few c.requires.ranged c.packed_need-need.ensures c.in_default.ensures)).1

pub accept-requires-clause-ops : goal.accept-requires-clause-ops
accept-requires-clause-ops c =
    (passes_at c.args.plans.now c.args.profile.now c.in_ok-program.program c.in_ok-program.ensures
    (fits_of c.args.plans.now c.args.profile.now c.packed_need-need.result c.requires.made c.requires.few c.requires.ranged c.packed_need-need.ensures c.in_default.ensures)).2

pub returns-clause-packed : goal.returns-clause-packed
returns-clause-packed c =
    is_packed c.args.plans.now c.args.profile.now _ c.requires.made
    (fits_of c.args.plans.now c.args.profile.now c.packed_need-need.result c.requires.made c.requires.few c.requires.ranged c.packed_need-need.ensures c.in_default.ensures)
    (c.in_ok-checked.ensures ∙ c.in_ok-program.ensures) c.selector_of-selector.ensures c.in_ok-bases.ensures
