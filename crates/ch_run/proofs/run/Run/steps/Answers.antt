use Rattle.std.proofs.Common.{arith, subst}
use Rattle.ch_protocol.specs.Machine.{step}
use Rattle.ch_schedule.specs.Event.{event_of}
use Rattle.ch_schedule.specs.declared.step.Step.{Step}
use Rattle.ch_run.specs.Runs.{LeadsTo}
use Rattle.ch_run.proofs.Followed.{more_followed}
use Rattle.ch_run.proofs.run.Run.steps.Goals as goal

pub loop-step-preserved : goal.loop-step-preserved
loop-step-preserved c =
    let y = c.loop-step.self in
    let z = c.step.new.self in
    let d = c.step-item.result in
    record {
      epoch = omega (arith, c.loop-step.invariant.epoch, c.step.ensures.epoch);
      on = more_followed c.args.self.now y z c.args.steps.now c.loop-step.step-index d c.loop-step-test.true c.loop-step.invariant.on (subst (λ (x : Step). LeadsTo y z (λ d s. step d s (event_of x))) c.step-item.is c.in_ok-step.ensures.ok);
    }
