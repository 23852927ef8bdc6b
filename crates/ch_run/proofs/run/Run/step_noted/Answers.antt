use Rattle.std.proofs.Common.{◌∙◌}
use Rattle.std.proofs.lemmas.Result.{IfOk-weaker}
use Rattle.ch_run.proofs.Tracing.{open_note}
use Rattle.ch_run.proofs.run.Run.step_noted.Goals as goal

pub returns-clause-note : goal.returns-clause-note
returns-clause-note c q s r =
    let f = c.note.ensures.note in
    let going = c.requires.going in
    IfOk-weaker c.note.result _ _ (λ n e. e ∙ open_note q.given.config s c.args.event.now (going q s r)) (f q s r)
