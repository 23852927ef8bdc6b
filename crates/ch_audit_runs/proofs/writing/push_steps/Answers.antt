use Rattle.std.proofs.Common.{◌≡◌, ◌++◌, ◌∷◌, [], arith, subst, take}
use Rattle.ch_protocol.specs.Machine.{State, run, step}
use Rattle.ch_schedule.specs.Event.{event_of, events_of}
use Rattle.ch_schedule.specs.declared.step.Step.{Step}
use Rattle.ch_trace_lines.specs.Spelling.{lines_text}
use Rattle.ch_trace_lines.specs.Trace.{lines_from}
use Rattle.ch_audit_runs.proofs.Texts.{step_run, step_written}
use Rattle.ch_audit_runs.proofs.writing.push_steps.Goals as goal

pub loop-step-preserved : goal.loop-step-preserved
loop-step-preserved g c =
    let inv = c.loop-step.invariant in
    let made = c.in_ok-push_step.ensures in
    let steps = c.args.steps.now in
    let n = c.loop-step.step-index in
    let x = c.step-item.result in
    let lt = c.loop-step-test.true in
    record {
      valid = made.valid;
      epoch = omega (arith, inv.epoch, made.epoch);
      run = λ d s h.
          let t = run d (events_of (take n steps)) s in
          let there = inv.run d s h in
          let next = made.run d t there in
          subst (λ (u : State). g.R.Noting.stands c.push_step.new.run d u) (step_run d s steps n x lt)
          (subst (λ (y : Step). g.R.Noting.stands c.push_step.new.run d (step d t (event_of y))) c.step-item.is next);
      text = λ d s h.
          let t = run d (events_of (take n steps)) s in
          let there = inv.run d s h in
          let more = made.text d t there in
          step_written d s steps n x c.args.text.now.items c.loop-step.text.items c.push_step.new.text.items lt (inv.text d s h)
          (subst (λ (y : Step). c.push_step.new.text.items ≡ c.loop-step.text.items ++ lines_text (lines_from d t (y ∷ []))) c.step-item.is more);
    }
