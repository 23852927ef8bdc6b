use Rattle.std.proofs.Common.{◌++◌, ◌∙◌, List, ℕ, codes, ap}
use Rattle.ch_generated.specs.ScheduleText.{schedule_text}
use Rattle.ch_generated.proofs.Texts.{steps_end, steps_more}
use Rattle.ch_generated.proofs.schedule_text.schedule_text.Goals as goal

pub loop-step-preserved : goal.loop-step-preserved
loop-step-preserved c =
    steps_more c.args.workers c.loop-step._step c.loop-step.generator _ c.loop-step.text.items _ _ c.loop-step-test.true c.in_ok-push_step.ensures.line c.in_ok-push_step.ensures.after c.loop-step.invariant

pub returns : goal.returns
unfolding schedule_text
returns c =
    c.from_vec.ensures ∙ c.in_ok-push_bytes.ensures
    ∙ ap (λ (t : List ℕ). t ++ codes "drain\n") (steps_end c.args.workers c.loop-step._step c.loop-step.generator c.loop-step.text.items _ c.loop-step-test.false c.loop-step.invariant)
