use Rattle.std.proofs.Common.{suc, refl, ◌∙◌}
use Rattle.ch_protocol.specs.Machine.{size}
use Rattle.std.proofs.lemmas.Result.{on_ok_weaker, on_err_weaker}
use Rattle.ch_protocol.specs.Drain.{resend_events}
use Rattle.ch_protocol.specs.DrainEvents.{send_events, turn_events}
use Rattle.ch_run.proofs.Leading.{then_makes, then_leads}
use Rattle.ch_run.proofs.run.Run.turn.Goals as goal

pub returns-clause-ok : goal.returns-clause-ok
returns-clause-ok c =
    let w = c.args.worker in
    on_ok_weaker c.sends.result (λ f. then_makes (c.args.self.now, c.args.notes.now) (c.resends.new.self, c.resends.new.notes) (c.sends.new.self, c.sends.new.notes) (λ d s. resend_events s w) (λ d s. send_events d w (suc (size d w)) s) (λ d s. turn_events d w s) c.in_ok-resends.ensures.ok f (λ d s. refl)) c.sends.ensures.ok

pub returns-clause-err : goal.returns-clause-err
returns-clause-err c =
    let w = c.args.worker in
    on_err_weaker c.sends.result (λ f. then_leads (c.args.self.now, c.args.notes.now) (c.resends.new.self, c.resends.new.notes) (c.sends.new.self, c.sends.new.notes) (λ d s. resend_events s w) c.in_ok-resends.ensures.ok f) c.sends.ensures.err

pub returns-clause-team : goal.returns-clause-team
returns-clause-team c = c.sends.ensures.team ∙ c.in_ok-resends.ensures.team
