use Rattle.std.proofs.Common.{◌≡◌, ◌+◌, ◌-◌, suc, length, refl, ap, ◌∙◌, arith}
use Rattle.ch_protocol.specs.Machine.{workers}
use Rattle.ch_engine.specs.declared.engine.Engine.{Engine}
use Rattle.ch_protocol.specs.DrainEvents.{turn_events, turns_events}
use Rattle.ch_run.proofs.Leading.{way_init, way_more, way_end, way_fails, makes_same, turns_more, turns_over, on_err}
use Rattle.ch_run.proofs.run.Run.turns.Goals as goal

pub loop-worker-init : goal.loop-worker-init
loop-worker-init c = record {
  team = refl;
  on = way_init (c.args.self.now, c.args.notes.now) (λ d t. turns_events d 0 (c.len-count.result - 0) t) (λ d s. turns_events d 0 c.len-count.result s) (λ d s. let e : c.len-count.result - 0 ≡ c.len-count.result = omega arith in ap (λ k. turns_events d 0 k s) e);
}

pub loop-worker-preserved : goal.loop-worker-preserved
loop-worker-preserved c =
    let w = c.loop-worker.worker in
    let left : c.len-count.result - w ≡ suc (c.len-count.result - (w + 1)) = omega (arith, c.loop-worker-test.true) in
    record {
      team = c.in_ok-turn.ensures.team ∙ c.loop-worker.invariant.team;
      on = way_more (c.args.self.now, c.args.notes.now) (c.loop-worker.self, c.loop-worker.notes) (c.turn.new.self, c.turn.new.notes) (λ d t. turn_events d w t) (λ d t. turns_events d c.loop-worker.worker (c.len-count.result - c.loop-worker.worker) t) (λ d t. turns_events d (c.loop-worker.worker + 1) (c.len-count.result - (c.loop-worker.worker + 1)) t) (λ d s. turns_events d 0 c.len-count.result s)
          c.loop-worker.invariant.on c.in_ok-turn.ensures.ok (λ q t r. turns_more q.given.config w _ _ t left);
    }

pub returns-in_err-turn-clause-err : goal.returns-in_err-turn-clause-err
returns-in_err-turn-clause-err c = on_err c.from_residual.result (way_fails (c.args.self.now, c.args.notes.now) (c.loop-worker.self, c.loop-worker.notes) (c.turn.new.self, c.turn.new.notes) (λ d t. turns_events d c.loop-worker.worker (c.len-count.result - c.loop-worker.worker) t) (λ d s. turns_events d 0 c.len-count.result s) c.loop-worker.invariant.on c.in_err-turn.ensures.err)

pub returns-clause-ok : goal.returns-clause-ok
returns-clause-ok c =
    let none : c.len-count.result - c.loop-worker.worker ≡ 0 = omega (arith, c.loop-worker-test.false) in
    makes_same (c.args.self.now, c.args.notes.now) (c.loop-worker.self, c.loop-worker.notes) (λ d s. turns_events d 0 c.len-count.result s) (λ d s. turns_events d 0 (workers d) s)
    (way_end (c.args.self.now, c.args.notes.now) (c.loop-worker.self, c.loop-worker.notes) (λ d t. turns_events d c.loop-worker.worker (c.len-count.result - c.loop-worker.worker) t) (λ d s. turns_events d 0 c.len-count.result s) c.loop-worker.invariant.on (λ q t r. turns_over q.given.config c.loop-worker.worker _ t none))
    (λ q s r. let all : c.len-count.result ≡ workers q.given.config = omega (arith, c.len-count.ensures, c.self.inside.engine.workers.ok.0, ap (λ (x : Engine). length x.workers.items) c.self.view_is, r.stands.workers_are.many) in ap (λ k. turns_events q.given.config 0 k s) all)
