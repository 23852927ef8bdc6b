use Rattle.std.proofs.Common.{◌∙◌, ap, sym, length, List}
use Rattle.std.proofs.lemmas.List.{length-map}
use Rattle.ch_cells.specs.declared.Cell.{Cell}
use Rattle.ch_fold_lines.specs.AnswerLines.{lines_in}
use Rattle.ch_fold_lines.specs.Shown.{printed_kinds, shown_line}
use Rattle.ch_finish.proofs.fold.Fold.answer_len.Goals as goal

pub returns : goal.returns
returns c = λ rows s.
    c.len.ensures ∙ (sym (length-map (lines_in c.in_ok-lines.lines) (shown_line c.args.ranks.now (printed_kinds c.args.query.now))) ∙ ap (λ (shown : List (List Cell)). length shown) (c.in_ok-lines.ensures rows s))
