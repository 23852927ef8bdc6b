use Rattle.std.proofs.Common.{◌≡◌, sym, ◌∙◌, subst}
use Rattle.ch_protocol.specs.Machine.{State}
use Rattle.ch_schedule.specs.Event.{event_of}
use Rattle.ch_engine.specs.Stands.{Stands}
use Rattle.ch_stands.proofs.Restarting.{step_stopped, step_open}
use Rattle.ch_engine.proofs.Restarting.{counted}
use Rattle.ch_engine.proofs.engine.Engine.step.Goals as goal

pub returns-then-stopped-clause-ok : goal.returns-then-stopped-clause-ok
returns-then-stopped-clause-ok c g s p i h =
    let f = c.stopped.ensures in
    subst (λ (t : State). Stands g c.args.self.now t) (step_stopped g.config s (event_of c.args.event.now) (sym (f g s h) ∙ c.if-stopped.true)) h

pub returns-clause-ok : goal.returns-clause-ok
returns-clause-ok c g s p i h =
    let f = c.stopped.ensures in
    let a = c.in_ok-note.ensures.ok in
    let k = c.change_pass.ensures.stands in
    subst (λ (t : State). Stands g c.change_pass.new.self t) (step_open g.config s (event_of c.args.event.now) (sym (f g s h) ∙ c.if-stopped.false))
    (k g _ (counted g c.act.new.self _ c.saturating_add-self.result (a g s p i h) c.saturating_add-self.ensures))
