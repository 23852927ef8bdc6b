use Rattle.ch_prune.specs.FilterLaws.{filter_measured, filter_unbroken}
use Rattle.ch_prune.specs.Filtering.{filter_need, filter_program}
use Rattle.op_distinct.specs.Order.{distinct_measured, distinct_unbroken}
use Rattle.op_distinct.specs.Program.{distinct_need, distinct_program}
use Rattle.op_distinct.specs.Shown as distinct
use Rattle.op_group.specs.Order.{group_measured, group_unbroken}
use Rattle.op_group.specs.Program.{group_need, group_program}
use Rattle.op_group.specs.Shown as group
use Rattle.op_having.specs.Order as having_order
use Rattle.op_having.specs.Program as having_program
use Rattle.op_join.specs.Order as join_order
use Rattle.op_join.specs.Program as join_program
use Rattle.op_semi.specs.Order as semi_order
use Rattle.op_semi.specs.Program as semi_program
use Rattle.op_skyline.specs.Emitted.{skyline_program}
use Rattle.op_skyline.specs.Order.{skyline_measured, skyline_need, skyline_unbroken}
use Rattle.op_topn.specs.Emitted.{top_program}
use Rattle.op_topn.specs.Order.{top_measured, top_need, top_unbroken}
use Rattle.ch_plan.specs.declared.kind.PlanKind.TheVariants as kind
use Rattle.ch_plan.proofs.Passing.{passes}
use Rattle.ch_plan.proofs.laws.planned_programs_pass.Goals as goal

pub returns : goal.returns
returns _ (kind.Filter o) profile h many =
    passes (filter_program o.width) (filter_need o.width) o.ops profile (filter_unbroken o.width o.least) (filter_measured o.width o.ops o.least o.some) h many
returns _ (kind.Distinct o) profile h many =
    passes (distinct_program (distinct.sizes o)) (distinct_need (distinct.sizes o)) o.ops profile (distinct_unbroken (distinct.sizes o) o.fine) (distinct_measured (distinct.sizes o) o.fine o.ops o.many) h many
returns _ (kind.Group o) profile h many =
    passes (group_program (group.sizes o)) (group_need (group.sizes o)) o.ops profile (group_unbroken (group.sizes o) o.fine) (group_measured (group.sizes o) o.fine o.ops o.many) h many
returns _ (kind.Top o) profile h many = passes (top_program o.sizes) (top_need o.sizes) o.ops profile (top_unbroken o.sizes o.fine) (top_measured o.sizes o.fine o.ops o.many) h many
returns _ (kind.Skyline o) profile h many =
    passes (skyline_program o.sizes) (skyline_need o.sizes) o.ops profile (skyline_unbroken o.sizes o.fine) (skyline_measured o.sizes o.fine o.ops o.many) h many
returns _ (kind.Having o) profile h many =
    passes (having_program.program o.sizes) (having_program.having_need o.sizes) o.ops profile (having_order.unbroken_program o.sizes o.fine) (having_order.within_need o.sizes o.fine o.ops o.many) h many
returns _ (kind.Join o) profile h many =
    passes (join_program.program o.sizes) (join_program.join_need o.sizes) o.ops profile (join_order.unbroken_program o.sizes o.fine) (join_order.within_need o.sizes o.fine o.ops o.many) h many
returns _ (kind.Semi o) profile h many =
    passes (semi_program.program o.sizes) (semi_program.semi_need o.sizes) o.ops profile (semi_order.unbroken_program o.sizes o.fine) (semi_order.within_need o.sizes o.fine o.ops o.many) h many
