use Rattle.std.proofs.Common.{◌+◌, ap, subst, arith}
use Rattle.ch_ir.specs.declared.setting.Setting.TheVariants.{DistinctRows, GroupRows}
use Rattle.ch_pred.specs.Named.{printed_cols}
use Rattle.ch_plan.specs.Kinds.{IsPlannable}
use Rattle.ch_plan.proofs.KeyPlans.{counted_few, product_few}
use Rattle.ch_plan.proofs.needs.need_of.Goals as goal

pub overflow_add-cells : goal.overflow_add-cells
overflow_add-cells c =
    let b = c.args.bound.now in
    let few = counted_few b (printed_cols b.printed) _ c.count_printed-keys.result c.count_printed-keys.ensures (ap printed_cols c.as_slice-in-Distinct.ensures) c.requires.few (subst (IsPlannable b) c.in-Distinct.is c.requires.kind) in
    record { fits = omega arith }

pub overflow_mul-cells : goal.overflow_mul-cells
overflow_mul-cells c =
    let b = c.args.bound.now in
    let few = counted_few b (printed_cols b.printed) _ c.count_printed-keys.result c.count_printed-keys.ensures (ap printed_cols c.as_slice-in-Distinct.ensures) c.requires.few (subst (IsPlannable b) c.in-Distinct.is c.requires.kind) in
    let rows = (c.requires.ranged DistinctRows).1 in
    let same = c.from.ensures in
    let h = product_few c.from.result (c.count_printed-keys.result + 1) (omega arith) (omega arith) in
    record { fits = omega arith }

pub need_with-requires-in-Distinct-clause-keys : goal.need_with-requires-in-Distinct-clause-keys
need_with-requires-in-Distinct-clause-keys c =
    let b = c.args.bound.now in
    counted_few b (printed_cols b.printed) _ c.count_printed-keys.result c.count_printed-keys.ensures (ap printed_cols c.as_slice-in-Distinct.ensures) c.requires.few (subst (IsPlannable b) c.in-Distinct.is c.requires.kind)

pub overflow_add-cells-in-Group : goal.overflow_add-cells-in-Group
overflow_add-cells-in-Group c =
    let b = c.args.bound.now in
    let few = counted_few b c.in-Group.keys _ c.count_different-keys.result c.count_different-keys.ensures c.as_slice-in-Group.ensures c.requires.few ((subst (IsPlannable b) c.in-Group.is c.requires.kind).0) in
    record { fits = omega arith }

pub overflow_mul-cells-in-Group : goal.overflow_mul-cells-in-Group
overflow_mul-cells-in-Group c =
    let b = c.args.bound.now in
    let few = counted_few b c.in-Group.keys _ c.count_different-keys.result c.count_different-keys.ensures c.as_slice-in-Group.ensures c.requires.few ((subst (IsPlannable b) c.in-Group.is c.requires.kind).0) in
    let rows = (c.requires.ranged GroupRows).1 in
    let same = c.from-in-Group.ensures in
    let h = product_few c.from-in-Group.result (c.count_different-keys.result + 2) (omega arith) (omega arith) in
    record { fits = omega arith }

pub need_with-requires-in-Group-clause-keys : goal.need_with-requires-in-Group-clause-keys
need_with-requires-in-Group-clause-keys c =
    let b = c.args.bound.now in
    counted_few b c.in-Group.keys _ c.count_different-keys.result c.count_different-keys.ensures c.as_slice-in-Group.ensures c.requires.few ((subst (IsPlannable b) c.in-Group.is c.requires.kind).0)

pub need_with-requires-in-Having-clause-keys : goal.need_with-requires-in-Having-clause-keys
need_with-requires-in-Having-clause-keys c =
    let b = c.args.bound.now in
    counted_few b c.in-Having.keys _ c.count_different-keys-in-Having.result c.count_different-keys-in-Having.ensures c.as_slice-in-Having.ensures c.requires.few ((subst (IsPlannable b) c.in-Having.is c.requires.kind).0)
