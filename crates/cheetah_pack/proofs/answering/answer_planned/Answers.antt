use Rattle.std.proofs.Common.{◌≡◌, arith, map, subst, sym, List}
use Rattle.std.specs.Prelude.{IfOk}
use Rattle.ch_bind.specs.Binding.{plain_bound}
use Rattle.ch_tables.specs.TableValue.{TableValue}
use Rattle.cheetah_pack_meaning.specs.Meaning.{said_alone, together}
use Rattle.cheetah_pack_run.specs.Running.{AreAskedPlans}
use Rattle.cheetah_pack.proofs.Planning.{all_made, first_ranged, packed_all, same_plans, unpacked_comes}
use Rattle.cheetah_pack.proofs.answering.answer_planned.Goals as goal

pub pack-requires-clause-some : goal.pack-requires-clause-some
pack-requires-clause-some c = let n = same_plans c.args.shared.now.profile c.args.shared.now.tables c.args.bounds.now c.args.plans.now c.requires.plans in omega (arith, n, c.requires.some)

pub pack-requires-clause-few : goal.pack-requires-clause-few
pack-requires-clause-few c = let n = same_plans c.args.shared.now.profile c.args.shared.now.tables c.args.bounds.now c.args.plans.now c.requires.plans in omega (arith, n, c.requires.few)

pub pack-requires-clause-made : goal.pack-requires-clause-made
pack-requires-clause-made c = all_made c.args.shared.now.profile c.args.shared.now.tables (c.plans_are_made.ensures c.args.shared.now.profile) c.args.bounds.now c.args.plans.now c.requires.plans

pub pack-requires-clause-ranged : goal.pack-requires-clause-ranged
pack-requires-clause-ranged c = first_ranged c.args.shared.now c.args.bounds.now c.requires.asked c.requires.some

pub returns-in_ok-line-in-Err : goal.returns-in_ok-line-in-Err
returns-in_ok-line-in-Err c =
    rw c.refused.ensures (unpacked_comes c.args.shared.now.profile c.args.shared.now.tables c.args.bounds.now c.args.plans.now c.requires.plans c.pack.result c.pack.ensures.refused c.in-Err.error c.in_ok-line-in-Err.line c.in-Err.is
    c.in_ok-line-in-Err.ensures.known c.in_ok-line-in-Err.ensures.line c.pack.ensures.memory)

pub run_packed-requires-clause-few : goal.run_packed-requires-clause-few
run_packed-requires-clause-few c = let n = same_plans c.args.shared.now.profile c.args.shared.now.tables c.args.bounds.now c.args.plans.now c.requires.plans in omega (arith, n, c.requires.few)

pub run_packed-requires-clause-asked : goal.run_packed-requires-clause-asked
run_packed-requires-clause-asked c =
    subst (λ (tables : List TableValue). AreAskedPlans c.args.shared.now.profile tables c.args.bounds.now c.args.plans.now) (sym c.as_slice-tables.ensures) c.requires.plans

pub returns-in-Ok : goal.returns-in-Ok
returns-in-Ok c =
    let said = subst (λ (tables : List TableValue). IfOk c.run_packed.result (λ said. said ≡ together (map (λ b. said_alone c.args.shared.now.profile tables (plain_bound b)) c.args.bounds.now))) c.as_slice-tables.ensures c.run_packed.ensures in
    packed_all c.args.shared.now.profile c.args.shared.now.tables c.args.bounds.now c.args.plans.now c.requires.plans c.pack.result c.pack.ensures.refused c.in-Ok.packed c.run_packed.result c.in-Ok.is said
