use Rattle.std.proofs.Common.{◌≡◌, ap, sym, ◌∙◌, subst, arith}
use Rattle.std.specs.Prelude.{slice_get}
use Rattle.ch_protocol.specs.Machine.{State, learn_at}
use Rattle.ch_schedule.specs.declared.step.How.{How}
use Rattle.ch_protocol.specs.declared.fate.NoteFate.TheVariants.{Lost}
use Rattle.ch_schedule.specs.Event.{how_of}
use Rattle.ch_protocol.specs.Fates.{back_fate}
use Rattle.ch_engine.specs.Stands.{Stands}
use Rattle.ch_engine.proofs.Learning.{taken, kept, lost_back, lost_back_note}
use Rattle.ch_engine.proofs.engine.Engine.back.Goals as goal

pub returns-in-Take-clause-stands : goal.returns-in-Take-clause-stands
returns-in-Take-clause-stands c g s p i h =
    let f = c.learn_at.ensures.stands in
    subst (λ (k : How). Stands g c.learn_at.new.self (learn_at s c.args.place (how_of k) (slice_get s.back c.args.place))) (sym c.in-Take.is)
    (subst (λ (t : State). Stands g c.learn_at.new.self t) (taken g.config s c.args.place (slice_get s.back c.args.place)) (f g s p i h))

pub returns-in-Keep-clause-stands : goal.returns-in-Keep-clause-stands
returns-in-Keep-clause-stands c g s p i h =
    let f = c.learn_at-in-Keep.ensures.stands in
    subst (λ (k : How). Stands g c.learn_at-in-Keep.new.self (learn_at s c.args.place (how_of k) (slice_get s.back c.args.place))) (sym c.in-Keep.is)
    (subst (λ (t : State). Stands g c.learn_at-in-Keep.new.self t) (kept g.config s c.args.place (slice_get s.back c.args.place)) (f g s p i h))

pub returns-in-Lose-clause-stands : goal.returns-in-Lose-clause-stands
returns-in-Lose-clause-stands c g s p i h =
    subst (λ (k : How). Stands g (record c.args.self.now { back = c.lose.new.self }) (learn_at s c.args.place (how_of k) (slice_get s.back c.args.place))) (sym c.in-Lose.is)
    (lost_back g c.args.self.now s c.args.place c.lose.new.self h (omega (arith, c.if-place-len.false, c.len.ensures)) c.lose.ensures)

pub returns-in-Lose-clause-note : goal.returns-in-Lose-clause-note
returns-in-Lose-clause-note c g s p i h =
    subst (λ (k : How). Lost ≡ back_fate s (how_of k) (slice_get s.back c.args.place)) (sym c.in-Lose.is)
    (lost_back_note g c.args.self.now s c.args.place h (omega (arith, c.if-place-len.false, c.len.ensures)))
