use Rattle.std.proofs.Common.{◌≡◌, ◌∙◌, ◌++◌, List, [], ap, rules, subst}
use Rattle.ch_protocol.specs.Machine.{run, start}
use Rattle.ch_schedule.specs.Event.{events_of}
use Rattle.ch_schedule.specs.declared.step.Step.{Step}
use Rattle.ch_trace_lines.specs.Spelling.{lines_text}
use Rattle.ch_trace_lines.specs.Trace.{lines_from}
use Rattle.ch_audit_runs.proofs.Texts.{whole_trace}
use Rattle.ch_audit_runs.proofs.writing.write.Goals as goal

pub returns : goal.returns
returns g c d h some =
    let schedule = c.args.schedule.now in
    let t = run d (events_of schedule.steps) (start d) in
    let made = c.in_ok-push_steps.ensures in
    let rest = c.in_ok-push_rest.ensures in
    let nil : c.new-text.result.items ≡ [] = search rules in
    let went = made.run d (start d) h in
    let there = subst (λ (xs : List Step). g.R.Noting.stands c.push_steps.new.run d (run d (events_of xs) (start d))) c.as_slice.ensures went in
    let wrote = made.text d (start d) h in
    let first = wrote ∙ (ap (λ o. o ++ lines_text (lines_from d (start d) c.as_slice.result.now)) nil ∙ ap (λ (xs : List Step). [] ++ lines_text (lines_from d (start d) xs)) c.as_slice.ensures) in
    let behind = rest.run d t there in
    let said = c.ending.ensures in
    c.from_vec.ensures
    ∙ whole_trace d schedule c.push_steps.new.text.items c.push_rest.new.text.items c.push_ending.new.text.items c.ending.result first (rest.text d t there some) (said d _ behind) c.in_ok-push_ending.ensures
