use Rattle.std.proofs.Common.{ap, sym, ◌∙◌}
use Rattle.ch_protocol.specs.Sender.{least_open, cut_to_least}
use Rattle.ch_ends.specs.Worker.{Progress, acked_of}
use Rattle.ch_ends.proofs.Windows.{tidy_least, cut_is}
use Rattle.ch_ends.proofs.worker.Worker.restart.Goals as goal

pub returns-clause-least : goal.returns-clause-least
returns-clause-least c =
    let x = c.self.inside in
    sym (tidy_least x.rows x.window x.next x.least x.acked c.self.invariant) ∙ ap (λ (w : Progress). least_open w.rows (acked_of w)) c.self.view_is

pub returns-clause-after : goal.returns-clause-after
returns-clause-after c =
    let x = c.self.inside in
    record {
      rows_is = ap (λ (w : Progress). w.rows) c.self.view_is;
      window_is = ap (λ (w : Progress). w.window) c.self.view_is;
      pass_is = ap (λ (w : Progress). w.pass) c.self.view_is;
      epoch_is = λ i. c.args.epoch;
      next_is = ap (λ (w : Progress). w.next) c.self.view_is;
      acked_is = λ k. cut_is x.rows x.window x.next x.least x.acked c.self.invariant c.unset_between.new.bits c.unset_between.ensures.below c.unset_between.ensures.between c.unset_between.ensures.above k
          ∙ ap (λ (w : Progress). cut_to_least w.rows (acked_of w) k) c.self.view_is;
    }
