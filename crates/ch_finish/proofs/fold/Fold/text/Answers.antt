use Rattle.std.proofs.Common.{◌∙◌, ap, List}
use Rattle.std.proofs.lemmas.Result.{IfOk-weaker}
use Rattle.ch_cells.specs.declared.Cell.{Cell}
use Rattle.ch_print.specs.AnswerText.{text_of}
use Rattle.ch_finish.proofs.fold.Fold.text.Goals as goal

pub returns : goal.returns
returns c = λ rows s.
    IfOk-weaker c.text_of_lines.result _ _
    (λ text made. made ∙ ap (λ (shown : List (List Cell)). text_of (record { header = c.args.query.now.header; rows = shown })) (c.in_ok-lines.ensures rows s))
    c.text_of_lines.ensures
