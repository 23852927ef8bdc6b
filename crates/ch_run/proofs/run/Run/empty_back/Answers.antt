use Rattle.std.proofs.Common.{◌≡◌, ◌+◌, ◌-◌, suc, [], ◌∷◌, length, ap, sym, ◌∙◌, arith}
use Rattle.ch_protocol.specs.Machine.Event.{Back}
use Rattle.ch_protocol.specs.Machine.How.{Take}
use Rattle.ch_engine.specs.declared.engine.Engine.{Engine}
use Rattle.ch_protocol.specs.DrainEvents.{back_events}
use Rattle.ch_stands.proofs.Lists.{length-map}
use Rattle.ch_ends.specs.Packets.{ack_bytes}
use Rattle.ch_run.proofs.Leading.{way_init, way_more, way_end, way_fails, makes_same, backs_more, backs_over, backs_stop, on_err}
use Rattle.ch_run.proofs.run.Run.empty_back.Goals as goal

pub loop-done-init : goal.loop-done-init
loop-done-init c = way_init (c.args.self.now, c.args.notes.now) (λ d t. back_events d (c.len-count.result - 0) t) (λ d s. back_events d c.len-count.result s) (λ d s. let e : c.len-count.result - 0 ≡ c.len-count.result = omega arith in ap (λ n. back_events d n s) e)

pub loop-done-preserved : goal.loop-done-preserved
loop-done-preserved c =
    let left : c.len-count.result - c.loop-done.done ≡ suc (c.len-count.result - (c.loop-done.done + 1)) = omega (arith, c.loop-done-test.true) in
    let st = c.stopped.ensures in
    way_more (c.args.self.now, c.args.notes.now) (c.loop-done.self, c.loop-done.notes) (c.make.new.self, c.make.new.notes) (λ d t. Back 0 Take ∷ []) (λ d t. back_events d (c.len-count.result - c.loop-done.done) t) (λ d t. back_events d (c.len-count.result - (c.loop-done.done + 1)) t) (λ d s. back_events d c.len-count.result s)
    c.loop-done.invariant c.in_ok-make.ensures.ok (λ q t r. backs_more q.given.config _ _ t left (sym (st q t r) ∙ c.if-stopped.false))

pub returns-in_err-make-clause-err : goal.returns-in_err-make-clause-err
returns-in_err-make-clause-err c = on_err c.from_residual.result (way_fails (c.args.self.now, c.args.notes.now) (c.loop-done.self, c.loop-done.notes) (c.make.new.self, c.make.new.notes) (λ d t. back_events d (c.len-count.result - c.loop-done.done) t) (λ d s. back_events d c.len-count.result s) c.loop-done.invariant c.in_err-make.ensures.err)

pub returns-then-stopped-clause-ok : goal.returns-then-stopped-clause-ok
returns-then-stopped-clause-ok c =
    let st = c.stopped.ensures in
    makes_same (c.args.self.now, c.args.notes.now) (c.loop-done.self, c.loop-done.notes) (λ d s. back_events d c.len-count.result s) (λ d s. back_events d (length s.back) s)
    (way_end (c.args.self.now, c.args.notes.now) (c.loop-done.self, c.loop-done.notes) (λ d t. back_events d (c.len-count.result - c.loop-done.done) t) (λ d s. back_events d c.len-count.result s) c.loop-done.invariant (λ q t r. backs_stop q.given.config _ t (sym (st q t r) ∙ c.if-stopped.true)))
    (λ q s r. let n : c.len-count.result ≡ length s.back = omega (arith, c.len-count.ensures, ap (λ l. length l) r.stands.back, ap (λ (x : Engine). length x.back.packets) c.self.view_is, length-map ack_bytes s.back) in ap (λ n. back_events q.given.config n s) n)

pub returns-clause-ok : goal.returns-clause-ok
returns-clause-ok c =
    let none : c.len-count.result - c.loop-done.done ≡ 0 = omega (arith, c.loop-done-test.false) in
    makes_same (c.args.self.now, c.args.notes.now) (c.loop-done.self, c.loop-done.notes) (λ d s. back_events d c.len-count.result s) (λ d s. back_events d (length s.back) s)
    (way_end (c.args.self.now, c.args.notes.now) (c.loop-done.self, c.loop-done.notes) (λ d t. back_events d (c.len-count.result - c.loop-done.done) t) (λ d s. back_events d c.len-count.result s) c.loop-done.invariant (λ q t r. backs_over q.given.config _ t none))
    (λ q s r. let n : c.len-count.result ≡ length s.back = omega (arith, c.len-count.ensures, ap (λ l. length l) r.stands.back, ap (λ (x : Engine). length x.back.packets) c.self.view_is, length-map ack_bytes s.back) in ap (λ n. back_events q.given.config n s) n)
