use Rattle.std.proofs.Common.{◌≡◌, ap, sym, ◌∙◌, subst, arith}
use Rattle.std.specs.Prelude.{OnOk, slice_get}
use Rattle.std.proofs.lemmas.Result.{on_ok_weaker}
use Rattle.ch_protocol.specs.Machine.{Config, State, effect, receive_at}
use Rattle.ch_protocol.specs.Machine.Event.{Down}
use Rattle.ch_schedule.specs.declared.step.How.{How}
use Rattle.ch_protocol.specs.declared.fate.NoteFate.TheVariants.{Lost}
use Rattle.ch_schedule.specs.Event.{how_of}
use Rattle.ch_protocol.specs.Fates.{down_fate}
use Rattle.ch_engine.specs.Stands.{Stands, Follows}
use Rattle.ch_engine.proofs.Receiving.{took, kept, lost_down, lost_down_note}
use Rattle.ch_engine.proofs.engine.Engine.down.Goals as goal

pub returns-in-Take-clause-ok : goal.returns-in-Take-clause-ok
returns-in-Take-clause-ok c =
    subst (λ (k : How). OnOk c.receive_at.result (Follows c.args.self.now c.receive_at.new.self (λ c' s. effect c' s (Down c.args.place (how_of k))))) (sym c.in-Take.is)
    (on_ok_weaker c.receive_at.result (λ f g s p i h. subst (λ (t : State). Stands g c.receive_at.new.self t) (took g.config s c.args.place (slice_get s.down c.args.place)) (f g s p i h)) c.receive_at.ensures.ok)

pub returns-in-Keep-clause-ok : goal.returns-in-Keep-clause-ok
returns-in-Keep-clause-ok c =
    subst (λ (k : How). OnOk c.receive_at-in-Keep.result (Follows c.args.self.now c.receive_at-in-Keep.new.self (λ c' s. effect c' s (Down c.args.place (how_of k))))) (sym c.in-Keep.is)
    (on_ok_weaker c.receive_at-in-Keep.result (λ f g s p i h. subst (λ (t : State). Stands g c.receive_at-in-Keep.new.self t) (kept g.config s c.args.place (slice_get s.down c.args.place)) (f g s p i h)) c.receive_at-in-Keep.ensures.ok)

pub returns-in-Lose-clause-ok : goal.returns-in-Lose-clause-ok
returns-in-Lose-clause-ok c g s p i h =
    subst (λ (k : How). Stands g (record c.args.self.now { down = c.lose.new.self }) (receive_at s c.args.place (how_of k) (slice_get s.down c.args.place))) (sym c.in-Lose.is)
    (lost_down g c.args.self.now s c.args.place c.lose.new.self h (omega (arith, c.if-place-len.false, c.len.ensures)) c.lose.ensures)

pub returns-in-Lose-clause-note : goal.returns-in-Lose-clause-note
returns-in-Lose-clause-note c g s p i h =
    subst (λ (k : How). Lost ≡ down_fate s (how_of k) (slice_get s.down c.args.place)) (sym c.in-Lose.is)
    (lost_down_note g c.args.self.now s c.args.place h (omega (arith, c.if-place-len.false, c.len.ensures)))
