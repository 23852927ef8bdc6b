use Rattle.std.proofs.Common.{◌<◌, ◌∙◌, ◌∷◌, ◌++◌, [], ap, sym, arith, length}
use Rattle.ch_run.proofs.Reporting.{done_is, flows_below, flows_more, flows_skip}
use Rattle.ch_run.proofs.outcome.open_flows.Goals as goal
use Rattle.ch_run.proofs.outcome.open_flows.Goals.{then-not-confirmed+in_ok-flow+in_ok-push, else-not-confirmed}

pub loop-worker-preserved : goal.loop-worker-preserved
loop-worker-preserved c q s r =
    let x = c.args.engine.now in
    let n = c.loop-worker.worker in
    let lt : n < length x.workers.items = omega (arith, c.loop-worker-test.true, c.len-worker-end.ensures, x.workers.ok.0) in
    let done = sym (done_is q x s n c.index.result.now r lt c.index.ensures) ∙ sym c.confirmed.ensures in
    let before = c.loop-worker.invariant in
    elim c.if-not-confirmed.branch [
      | then-not-confirmed+in_ok-flow+in_ok-push w ↦
          let f = w.in_ok-flow.ensures in
          ap (λ (v : _). v.items) w.flows-is
          ∙ (w.in_ok-push.ensures.items ∙ (ap (λ fs. fs ++ w.in_ok-flow.flow ∷ []) (before q s r) ∙ (ap (λ g. flows_below q.given.config s n ++ g ∷ []) (f q s r) ∙ sym (flows_more q.given.config s n (done ∙ w.if-not-confirmed.true)))))
      | else-not-confirmed w ↦ ap (λ (v : _). v.items) w.flows-is ∙ (before q s r ∙ sym (flows_skip q.given.config s n (done ∙ w.if-not-confirmed.false)))
    ]
