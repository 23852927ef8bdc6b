use Rattle.std.proofs.Common.{◌∙◌, ap, arith, length, subst, sym, ℕ, List}
use Rattle.ch_asked.specs.Texts.{asked_texts, dictionary_of}
use Rattle.ch_ir.specs.declared.setting.Setting.TheVariants.{Window}
use Rattle.ch_parts.specs.Scanned.{AreTables, parts_of}
use Rattle.ch_run.specs.Asked.{AreFew}
use Rattle.ch_tables.specs.TableValue.{TableValue}
use Rattle.cheetah_run.proofs.Asked.{are_tables, few_carried, few_parts, few_steps, known, ranged, unforged}
use Rattle.cheetah_rows.proofs.watching.watch.Goals as goal

pub rank_texts-requires : goal.rank_texts-requires
rank_texts-requires c k d lt = let there = known c.args.inputs.now c.requires.asked k d lt in omega (arith, there, ap (λ (ts : List TableValue). length ts) c.as_slice-tables.ensures)

pub start-requires-clause-tables : goal.start-requires-clause-tables
start-requires-clause-tables c =
    let inputs = c.args.inputs.now in
    let e = c.in-Ok.ensures.is ∙ ap (λ (ts : List TableValue). dictionary_of (asked_texts inputs.bound ts)) c.as_slice-tables.ensures in
    let few = c.in-Ok.ensures.few in
    subst (λ (ts : List TableValue). AreTables c.in-Ok.ranks inputs.bound ts) (sym c.as_slice-tables.ensures) (are_tables inputs c.requires.asked c.in-Ok.ranks e (omega (arith, few)))

pub start-requires-clause-carried : goal.start-requires-clause-carried
start-requires-clause-carried c = few_carried c.args.inputs.now c.requires.asked

pub start-requires-clause-window : goal.start-requires-clause-window
start-requires-clause-window c = (ranged c.args.inputs.now c.requires.asked Window).0

pub start-requires-clause-few : goal.start-requires-clause-few
start-requires-clause-few c =
    let inputs = c.args.inputs.now in
    subst (λ (ts : List TableValue). AreFew (parts_of c.in-Ok.ranks inputs.bound ts)) (sym c.as_slice-tables.ensures) (few_parts inputs c.requires.asked c.in-Ok.ranks)

pub followed-lines-requires-clause-unforged : goal.followed-lines-requires-clause-unforged
followed-lines-requires-clause-unforged c = unforged c.args.inputs.now c.requires.asked

pub followed-lines-requires-clause-epochs : goal.followed-lines-requires-clause-epochs
followed-lines-requires-clause-epochs c =
    let begins = c.in_ok-run.ensures.stands.switch.epoch_is in
    let few = few_steps c.args.inputs.now c.requires.asked in
    omega (arith, begins, few)
