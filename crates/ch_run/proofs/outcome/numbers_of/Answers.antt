use Rattle.std.proofs.Common.{◌<◌, ◌∙◌, ◌∷◌, ◌++◌, [], ap, sym, arith, length}
use Rattle.ch_ends.specs.Worker.{acked_of}
use Rattle.ch_protocol.specs.Sender.{open_numbers}
use Rattle.ch_run.proofs.Reporting.{take_more, take_there}
use Rattle.ch_run.proofs.outcome.numbers_of.Goals as goal
use Rattle.ch_run.proofs.outcome.numbers_of.Goals.{in-Some+in_ok-push, in_default}

pub loop-place-preserved : goal.loop-place-preserved
loop-place-preserved c =
    let all = open_numbers c.args.worker.now.next (acked_of c.args.worker.now) in
    let k = c.loop-place.place in
    let lt : k < length all = omega (arith, c.loop-place-test.true, c.unacknowledged-place-end.ensures) in
    elim c.match-again.branch [
      | in-Some+in_ok-push w ↦
          ap (λ (v : _). v.items) w.numbers-is
          ∙ (w.in_ok-push.ensures.items ∙ (ap (λ ns. ns ++ w.in-Some.number ∷ []) c.loop-place.invariant ∙ sym (take_more all k w.in-Some.number w.in-Some.ensures)))
      | in_default w ↦ absurd (take_there all k lt w.in_default.ensures)
    ]
