use Rattle.std.proofs.Common.{◌≡◌, ◌&&◌, eqb, eq-eqb, Bool, true, ap, sym, ◌∙◌, arith}
use Rattle.ch_protocol.specs.Sender.{may_send}
use Rattle.ch_ends.specs.Worker.{Progress, acked_of}
use Rattle.ch_ends.proofs.Windows.{may_send-row, may_send-fin}
use Rattle.ch_ends.proofs.worker.Worker.may_send.Goals as goal

pub returns-then-self : goal.returns-then-self
returns-then-self c =
    let x = c.self.inside in
    sym (may_send-row x.rows x.window x.next x.least x.acked c.self.invariant (omega arith)) ∙ ap (λ (w : Progress). may_send w.rows w.window w.next (acked_of w)) c.self.view_is

pub returns-then-self-2 : goal.returns-then-self-2
returns-then-self-2 c =
    let x = c.self.inside in
    let e : eqb x.next x.rows ≡ true = eq-eqb x.next x.rows (omega arith) in
    sym (ap (λ (b : Bool). b && eqb x.least x.rows) e)
    ∙ (sym (may_send-fin x.rows x.window x.next x.least x.acked c.self.invariant (omega arith)) ∙ ap (λ (w : Progress). may_send w.rows w.window w.next (acked_of w)) c.self.view_is)
