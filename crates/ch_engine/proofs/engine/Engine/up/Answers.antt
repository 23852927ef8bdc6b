use Rattle.std.proofs.Common.{◌≡◌, ap, sym, ◌∙◌, subst, arith}
use Rattle.std.specs.Prelude.{OnOk, slice_get}
use Rattle.std.proofs.lemmas.Result.{on_ok_weaker}
use Rattle.ch_protocol.specs.Machine.{Config, State, effect, meet_at}
use Rattle.ch_protocol.specs.Machine.Event.{Up}
use Rattle.ch_schedule.specs.declared.step.How.{How}
use Rattle.ch_protocol.specs.declared.fate.NoteFate.TheVariants.{Lost}
use Rattle.ch_schedule.specs.Event.{how_of}
use Rattle.ch_protocol.specs.Fates.{up_fate}
use Rattle.ch_engine.specs.Stands.{Stands, Follows}
use Rattle.ch_engine.proofs.Meeting.{takes, keeps, lost_up, lost_note}
use Rattle.ch_engine.proofs.engine.Engine.up.Goals as goal

pub returns-in-Take-clause-ok : goal.returns-in-Take-clause-ok
returns-in-Take-clause-ok c =
    subst (λ (k : How). OnOk c.meet_at.result (Follows c.args.self.now c.meet_at.new.self (λ c' s. effect c' s (Up c.args.place (how_of k))))) (sym c.in-Take.is)
    (on_ok_weaker c.meet_at.result (λ f g s p i h. subst (λ (t : State). Stands g c.meet_at.new.self t) (takes g.config s c.args.place (slice_get s.up c.args.place)) (f g s p i h)) c.meet_at.ensures.ok)

pub returns-in-Keep-clause-ok : goal.returns-in-Keep-clause-ok
returns-in-Keep-clause-ok c =
    subst (λ (k : How). OnOk c.meet_at-in-Keep.result (Follows c.args.self.now c.meet_at-in-Keep.new.self (λ c' s. effect c' s (Up c.args.place (how_of k))))) (sym c.in-Keep.is)
    (on_ok_weaker c.meet_at-in-Keep.result (λ f g s p i h. subst (λ (t : State). Stands g c.meet_at-in-Keep.new.self t) (keeps g.config s c.args.place (slice_get s.up c.args.place)) (f g s p i h)) c.meet_at-in-Keep.ensures.ok)

pub returns-in-Lose-clause-ok : goal.returns-in-Lose-clause-ok
returns-in-Lose-clause-ok c g s p i h =
    subst (λ (k : How). Stands g (record c.args.self.now { up = c.lose.new.self }) (meet_at g.config s c.args.place (how_of k) (slice_get s.up c.args.place))) (sym c.in-Lose.is)
    (lost_up g c.args.self.now s c.args.place c.lose.new.self h (omega (arith, c.if-place-len.false, c.len.ensures)) c.lose.ensures)

pub returns-in-Lose-clause-note : goal.returns-in-Lose-clause-note
returns-in-Lose-clause-note c g s p i h =
    subst (λ (k : How). Lost ≡ up_fate g.config s (how_of k) (slice_get s.up c.args.place)) (sym c.in-Lose.is)
    (lost_note g c.args.self.now s c.args.place h (omega (arith, c.if-place-len.false, c.len.ensures)))
