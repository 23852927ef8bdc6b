use Rattle.std.proofs.Common.{◌∙◌, ap, sym, Some, arith}
use Rattle.std.proofs.lemmas.Option.{slice_get-get_or}
use Rattle.std.proofs.lemmas.Result.{IfOk-weaker}
use Rattle.ch_protocol.specs.Machine.{start}
use Rattle.ch_run.specs.Asked.{begun_over}
use Rattle.cheetah_pack_run.proofs.Runs.{begins, behind_three, is_word, known_tables, least_window, leaves, packed_plan, says, stops}
use Rattle.cheetah_pack_run.proofs.running.run_one.Goals as goal

pub rank_texts-requires : goal.rank_texts-requires
rank_texts-requires c =
    let p = c.index-plans-number.result in
    let at = slice_get-get_or c.args.plans.now c.args.number p c.requires.number ∙ ap Some (sym c.index-plans-number.is) in
    known_tables c.args.profile.now c.args.tables.now c.args.bound.now p (c.requires.asked p at)

pub count_workers-requires-clause-tables : goal.count_workers-requires-clause-tables
count_workers-requires-clause-tables c =
    let p = c.index-plans-number.result in
    let at = slice_get-get_or c.args.plans.now c.args.number p c.requires.number ∙ ap Some (sym c.index-plans-number.is) in
    (packed_plan c.args.plans.now c.args.profile.now c.args.selector c.args.number c.args.pipe p c.args.bound.now c.args.tables.now c.in_ok-ranks.ranks (c.requires.asked p at) c.requires.installed at c.program-checked.ensures.checked
    c.in_ok-ranks.ensures.is c.in_ok-ranks.ensures.few).tables_are

pub count_workers-requires-clause-few : goal.count_workers-requires-clause-few
count_workers-requires-clause-few c =
    let p = c.index-plans-number.result in
    let at = slice_get-get_or c.args.plans.now c.args.number p c.requires.number ∙ ap Some (sym c.index-plans-number.is) in
    (packed_plan c.args.plans.now c.args.profile.now c.args.selector c.args.number c.args.pipe p c.args.bound.now c.args.tables.now c.in_ok-ranks.ranks (c.requires.asked p at) c.requires.installed at c.program-checked.ensures.checked
    c.in_ok-ranks.ensures.is c.in_ok-ranks.ensures.few).few.many

pub over-requires-clause-first : goal.over-requires-clause-first
over-requires-clause-first c =
    let p = c.index-plans-number.result in
    let at = slice_get-get_or c.args.plans.now c.args.number p c.requires.number ∙ ap Some (sym c.index-plans-number.is) in
    behind_three c.args.plans.now c.args.profile.now c.args.selector c.args.number c.args.pipe p c.args.bound.now c.args.tables.now c.in_ok-ranks.ranks (c.requires.asked p at) c.requires.installed at c.program-checked.ensures.checked c.in_ok-ranks.ensures.is c.in_ok-ranks.ensures.few

pub over-requires-clause-selector : goal.over-requires-clause-selector
over-requires-clause-selector c =
    let p = c.index-plans-number.result in
    let at = slice_get-get_or c.args.plans.now c.args.number p c.requires.number ∙ ap Some (sym c.index-plans-number.is) in
    is_word c.args.plans.now c.args.profile.now c.args.selector c.args.number c.args.pipe p c.args.bound.now c.args.tables.now c.in_ok-ranks.ranks (c.requires.asked p at) c.requires.installed at c.program-checked.ensures.checked c.in_ok-ranks.ensures.is c.in_ok-ranks.ensures.few

pub over-requires-clause-workers : goal.over-requires-clause-workers
over-requires-clause-workers c =
    let p = c.index-plans-number.result in
    let at = slice_get-get_or c.args.plans.now c.args.number p c.requires.number ∙ ap Some (sym c.index-plans-number.is) in
    let few = (packed_plan c.args.plans.now c.args.profile.now c.args.selector c.args.number c.args.pipe p c.args.bound.now c.args.tables.now c.in_ok-ranks.ranks (c.requires.asked p at) c.requires.installed at c.program-checked.ensures.checked c.in_ok-ranks.ensures.is c.in_ok-ranks.ensures.few).few.many in let count = c.in_ok-workers.ensures in omega (arith, few, count)

pub start_over-requires-clause-tables : goal.start_over-requires-clause-tables
start_over-requires-clause-tables c =
    let p = c.index-plans-number.result in
    let at = slice_get-get_or c.args.plans.now c.args.number p c.requires.number ∙ ap Some (sym c.index-plans-number.is) in
    (packed_plan c.args.plans.now c.args.profile.now c.args.selector c.args.number c.args.pipe p c.args.bound.now c.args.tables.now c.in_ok-ranks.ranks (c.requires.asked p at) c.requires.installed at c.program-checked.ensures.checked c.in_ok-ranks.ensures.is c.in_ok-ranks.ensures.few).tables_are

pub start_over-requires-clause-plan : goal.start_over-requires-clause-plan
start_over-requires-clause-plan c =
    let p = c.index-plans-number.result in
    let at = slice_get-get_or c.args.plans.now c.args.number p c.requires.number ∙ ap Some (sym c.index-plans-number.is) in
    (c.args.profile.now, (packed_plan c.args.plans.now c.args.profile.now c.args.selector c.args.number c.args.pipe p c.args.bound.now c.args.tables.now c.in_ok-ranks.ranks (c.requires.asked p at) c.requires.installed at c.program-checked.ensures.checked c.in_ok-ranks.ensures.is c.in_ok-ranks.ensures.few).plan)

pub start_over-requires-clause-carried : goal.start_over-requires-clause-carried
start_over-requires-clause-carried c =
    let p = c.index-plans-number.result in
    let at = slice_get-get_or c.args.plans.now c.args.number p c.requires.number ∙ ap Some (sym c.index-plans-number.is) in
    (packed_plan c.args.plans.now c.args.profile.now c.args.selector c.args.number c.args.pipe p c.args.bound.now c.args.tables.now c.in_ok-ranks.ranks (c.requires.asked p at) c.requires.installed at c.program-checked.ensures.checked c.in_ok-ranks.ensures.is c.in_ok-ranks.ensures.few).carried

pub start_over-requires-clause-window : goal.start_over-requires-clause-window
start_over-requires-clause-window c =
    let p = c.index-plans-number.result in
    let at = slice_get-get_or c.args.plans.now c.args.number p c.requires.number ∙ ap Some (sym c.index-plans-number.is) in
    least_window c.args.profile.now c.args.tables.now c.args.bound.now p (c.requires.asked p at)

pub start_over-requires-clause-few : goal.start_over-requires-clause-few
start_over-requires-clause-few c =
    let p = c.index-plans-number.result in
    let at = slice_get-get_or c.args.plans.now c.args.number p c.requires.number ∙ ap Some (sym c.index-plans-number.is) in
    (packed_plan c.args.plans.now c.args.profile.now c.args.selector c.args.number c.args.pipe p c.args.bound.now c.args.tables.now c.in_ok-ranks.ranks (c.requires.asked p at) c.requires.installed at c.program-checked.ensures.checked c.in_ok-ranks.ensures.is c.in_ok-ranks.ensures.few).few

pub start_over-requires-clause-switch : goal.start_over-requires-clause-switch
start_over-requires-clause-switch c =
    let p = c.index-plans-number.result in
    let at = slice_get-get_or c.args.plans.now c.args.number p c.requires.number ∙ ap Some (sym c.index-plans-number.is) in
    begins c.args.plans.now c.args.profile.now c.args.selector c.args.number c.args.pipe p c.args.bound.now c.args.tables.now c.in_ok-ranks.ranks (c.requires.asked p at) c.requires.installed at c.program-checked.ensures.checked c.in_ok-ranks.ensures.is c.in_ok-ranks.ensures.few c.in_ok-workers.workers c.in_ok-switch.switch c.in_ok-workers.ensures c.in_ok-switch.ensures.fresh

pub drain_over-requires : goal.drain_over-requires
drain_over-requires c =
    let p = c.index-plans-number.result in
    let at = slice_get-get_or c.args.plans.now c.args.number p c.requires.number ∙ ap Some (sym c.index-plans-number.is) in
    stops c.args.plans.now c.args.profile.now c.args.selector c.args.number c.args.pipe p c.args.bound.now c.args.tables.now c.in_ok-ranks.ranks (c.requires.asked p at) c.requires.installed at c.program-checked.ensures.checked c.in_ok-ranks.ensures.is c.in_ok-ranks.ensures.few c.in_ok-workers.workers c.in_ok-switch.switch c.in_ok-workers.ensures c.in_ok-switch.ensures.fresh _ c.in_ok-run.ensures

pub returns-clause-installed : goal.returns-clause-installed
returns-clause-installed c =
    let p = c.index-plans-number.result in
    let at = slice_get-get_or c.args.plans.now c.args.number p c.requires.number ∙ ap Some (sym c.index-plans-number.is) in
    let q = begun_over c.in_ok-ranks.ranks c.args.bound.now c.args.tables.now p.kind c.args.profile.now.window c.in_ok-switch.switch in
    IfOk-weaker c.drain_over.result _ _
    (λ ran left. leaves c.args.plans.now c.args.profile.now c.args.selector c.args.number c.args.pipe p c.args.bound.now c.args.tables.now c.in_ok-ranks.ranks (c.requires.asked p at) c.requires.installed at c.program-checked.ensures.checked c.in_ok-ranks.ensures.is c.in_ok-ranks.ensures.few c.in_ok-workers.workers c.in_ok-switch.switch c.in_ok-workers.ensures c.in_ok-switch.ensures.fresh left.run left.is ran.pipe left.program left.registers)
    (c.drain_over.ensures.left q (start q.given.config) c.in_ok-run.ensures)

pub returns-clause-said : goal.returns-clause-said
returns-clause-said c =
    let p = c.index-plans-number.result in
    let at = slice_get-get_or c.args.plans.now c.args.number p c.requires.number ∙ ap Some (sym c.index-plans-number.is) in
    let q = begun_over c.in_ok-ranks.ranks c.args.bound.now c.args.tables.now p.kind c.args.profile.now.window c.in_ok-switch.switch in
    IfOk-weaker c.drain_over.result _ _ (λ ran. says c.args.plans.now c.args.profile.now c.args.selector c.args.number c.args.pipe p c.args.bound.now c.args.tables.now c.in_ok-ranks.ranks (c.requires.asked p at) c.requires.installed at c.program-checked.ensures.checked c.in_ok-ranks.ensures.is c.in_ok-ranks.ensures.few c.in_ok-workers.workers c.in_ok-switch.switch c.in_ok-workers.ensures c.in_ok-switch.ensures.fresh ran.said) (c.drain_over.ensures.said q (start q.given.config) c.in_ok-run.ensures)
