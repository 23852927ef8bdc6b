use Rattle.std.proofs.Common.{◌≡◌, ◌+◌, ◌-◌, suc, ap, sym, ◌∙◌, arith}
use Rattle.ch_protocol.specs.DrainEvents.{rounds_events}
use Rattle.ch_run.specs.Making.{round_of}
use Rattle.ch_run.proofs.Leading.{way_init, way_more, way_end, way_fails, rounds_more, rounds_over, rounds_stop, on_err}
use Rattle.ch_run.proofs.run.Run.rounds.Goals as goal

pub loop-done-init : goal.loop-done-init
loop-done-init c = way_init (c.args.self.now, c.args.notes.now) (λ d t. rounds_events d (c.args.most - 0) t) (λ d s. rounds_events d c.args.most s) (λ d s. let e : c.args.most - 0 ≡ c.args.most = omega arith in ap (λ k. rounds_events d k s) e)

pub loop-done-preserved : goal.loop-done-preserved
loop-done-preserved c =
    let left : c.args.most - c.loop-done.done ≡ suc (c.args.most - (c.loop-done.done + 1)) = omega (arith, c.loop-done-test.true) in
    let st = c.stopped.ensures in
    way_more (c.args.self.now, c.args.notes.now) (c.loop-done.self, c.loop-done.notes) (c.round.new.self, c.round.new.notes) (λ d t. round_of d t) (λ d t. rounds_events d (c.args.most - c.loop-done.done) t) (λ d t. rounds_events d (c.args.most - (c.loop-done.done + 1)) t) (λ d s. rounds_events d c.args.most s)
    c.loop-done.invariant c.in_ok-round.ensures.ok (λ q t r. rounds_more q.given.config _ _ t left (sym (st q t r) ∙ c.if-stopped.false))

pub returns-in_err-round-clause-err : goal.returns-in_err-round-clause-err
returns-in_err-round-clause-err c = on_err c.from_residual.result (way_fails (c.args.self.now, c.args.notes.now) (c.loop-done.self, c.loop-done.notes) (c.round.new.self, c.round.new.notes) (λ d t. rounds_events d (c.args.most - c.loop-done.done) t) (λ d s. rounds_events d c.args.most s) c.loop-done.invariant c.in_err-round.ensures.err)

pub returns-then-stopped-clause-ok : goal.returns-then-stopped-clause-ok
returns-then-stopped-clause-ok c =
    let st = c.stopped.ensures in
    way_end (c.args.self.now, c.args.notes.now) (c.loop-done.self, c.loop-done.notes) (λ d t. rounds_events d (c.args.most - c.loop-done.done) t) (λ d s. rounds_events d c.args.most s) c.loop-done.invariant (λ q t r. rounds_stop q.given.config _ t (sym (st q t r) ∙ c.if-stopped.true))

pub returns-clause-ok : goal.returns-clause-ok
returns-clause-ok c =
    let none : c.args.most - c.loop-done.done ≡ 0 = omega (arith, c.loop-done-test.false) in
    way_end (c.args.self.now, c.args.notes.now) (c.loop-done.self, c.loop-done.notes) (λ d t. rounds_events d (c.args.most - c.loop-done.done) t) (λ d s. rounds_events d c.args.most s) c.loop-done.invariant (λ q t r. rounds_over q.given.config _ t none)
