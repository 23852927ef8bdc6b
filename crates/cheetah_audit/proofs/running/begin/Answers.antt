use Rattle.std.proofs.Common.{◌≡◌, ◌<◌, ◌≤◌, ◌^◌, arith, length, subst, sym, List}
use Rattle.ch_parts.specs.Scanned.{AreTables, parts_of}
use Rattle.ch_run.specs.Asked.{AreFew}
use Rattle.ch_ir.specs.declared.setting.Setting.TheVariants.{Window}
use Rattle.ch_tables.specs.TableValue.{TableValue}
use Rattle.cheetah_run.proofs.Asked.{are_tables, few_carried, few_parts, ranged}
use Rattle.cheetah_audit.proofs.Begun.{begun_at}
use Rattle.cheetah_audit.proofs.running.begin.Goals as goal

pub start-requires-clause-tables : goal.start-requires-clause-tables
start-requires-clause-tables c =
    let inputs = c.args.inputs.now in
    let texts = c.args.ranks.now in
    let few = c.requires.few in
    subst (λ (ts : List TableValue). AreTables texts inputs.bound ts) (sym c.as_slice-tables.ensures) (are_tables inputs c.requires.asked texts c.requires.ranks (omega (arith, few)))

pub start-requires-clause-carried : goal.start-requires-clause-carried
start-requires-clause-carried c = few_carried c.args.inputs.now c.requires.asked

pub start-requires-clause-window : goal.start-requires-clause-window
start-requires-clause-window c = (ranged c.args.inputs.now c.requires.asked Window).0

pub start-requires-clause-few : goal.start-requires-clause-few
start-requires-clause-few c =
    let inputs = c.args.inputs.now in
    subst (λ (ts : List TableValue). AreFew (parts_of c.args.ranks.now inputs.bound ts)) (sym c.as_slice-tables.ensures) (few_parts inputs c.requires.asked c.args.ranks.now)

pub returns : goal.returns
returns c =
    begun_at c.args.inputs.now c.args.planned.kind c.args.ranks.now c.as_slice-tables.result.now c.in_ok-run.run' c.args.planned.passes c.requires.plan c.requires.ranks c.as_slice-tables.ensures c.args.planned.times c.in_ok-run.ensures
