use Rattle.std.proofs.Common.{◌∙◌}
use Rattle.std.proofs.lemmas.Result.{IfOk-weaker}
use Rattle.ch_finish.proofs.fold.Fold.answer.Goals as goal

pub returns-clause-rows : goal.returns-clause-rows
returns-clause-rows c = λ rows s. IfOk-weaker c.answer_of_lines.result _ _ (λ a made. made ∙ c.in_ok-lines.ensures rows s) c.answer_of_lines.ensures.rows
