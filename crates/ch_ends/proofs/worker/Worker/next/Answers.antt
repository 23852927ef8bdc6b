use Rattle.std.proofs.Common.{ap, sym, ◌∙◌}
use Rattle.ch_protocol.specs.Sender.{may_send}
use Rattle.ch_ends.specs.Worker.{Progress, acked_of}
use Rattle.ch_ends.proofs.Windows.{sent_tidy}
use Rattle.ch_ends.proofs.worker.Worker.next.Goals as goal

pub invariant_of-self : goal.invariant_of-self
invariant_of-self c =
    let x = c.self.inside in
    sent_tidy x.rows x.window x.next x.least x.acked c.self.invariant
    (ap (λ (w : Progress). may_send w.rows w.window w.next (acked_of w)) c.self.view_is ∙ (sym c.may_send.ensures ∙ c.if-may_send.true))
