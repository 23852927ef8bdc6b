use Rattle.std.proofs.Common.{◌≡◌, ◌∙◌, ap, sym}
use Rattle.std.proofs.lemmas.Result.{IfOk-weaker}
use Rattle.ch_command.specs.declared.outcome.Outcome.{Outcome}
use Rattle.ch_protocol.specs.Outcome.{outcome}
use Rattle.ch_run.specs.Outcomes.{outcome_seen}
use Rattle.ch_run.specs.declared.outcome.Outcome.TheVariants as seen
use Rattle.cheetah_run.proofs.Ends.{done_said, open_said}
use Rattle.cheetah_run.proofs.running.say.Goals as goal
use Rattle.cheetah_run.specs.Saying.{said_in}

pub returns-in-Done : goal.returns-in-Done
returns-in-Done c q s r =
    IfOk-weaker c.say_done.result _ (λ (said : Outcome). said ≡ said_in q s)
    (λ said h. h ∙ done_said q s (outcome q.given.config s) c.in_ok-text-in-Done.field-0 c.in-Done.counts (sym c.in-Done.is ∙ c.in_ok-outcome.ensures q s r) (c.in_ok-text-in-Done.ensures q s r))
    c.say_done.ensures

pub returns : goal.returns
returns c q s r =
    let e : seen.Open c.as_slice.result.now ≡ outcome_seen (outcome q.given.config s) = ap seen.Open c.as_slice.ensures ∙ (sym c.in-Open.is ∙ c.in_ok-outcome.ensures q s r) in
    IfOk-weaker c.say_open.result _ (λ (said : Outcome). said ≡ said_in q s)
    (λ said h. h ∙ open_said q s (outcome q.given.config s) c.as_slice.result.now c.in_ok-answer_len-in-Open.field-0 e (c.in_ok-answer_len-in-Open.ensures q s r))
    c.say_open.ensures
