use Rattle.std.proofs.Common.{sym, subst}
use Rattle.ch_engine.specs.declared.engine.Engine.{Engine}
use Rattle.ch_run.specs.Runs.{IsRunOf}
use Rattle.ch_run.proofs.Tracing.{note_is}
use Rattle.ch_run.proofs.run.Run.note.Goals as goal

pub returns-clause-note : goal.returns-clause-note
returns-clause-note c q s r =
    let h = subst (λ (x : Engine). IsRunOf q x s) (sym c.self.view_is) r in
    let b = c.in_ok-bytes.ensures in
    let st = c.stopped-had_stopped.ensures in
    let f = c.in_ok-fate.ensures.fate in
    note_is q.given.config s c.args.event.now c.in_ok-step.step c.in_ok-bytes.bytes c.in_ok-fate.fate c.fate_unless-fate.result c.stopped-had_stopped.result c.in_ok-step.ensures (b q s h) (st q s r) c.fate_unless-fate.ensures (f q s r)
