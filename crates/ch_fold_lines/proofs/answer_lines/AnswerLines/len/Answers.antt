use Rattle.std.proofs.Common.{◌∙◌, ap, sym, length}
use Rattle.std.specs.Ordering.{int_cmp}
use Rattle.std.specs.Cmp.Lexicographic.{slice_cmp}
use Rattle.ch_fold_lines.specs.AnswerLines.{lines_in}
use Rattle.ch_fold_lines.specs.declared.answer_lines.AnswerLines.{AnswerLines}
use Rattle.ch_fold_lines.proofs.TextLaws.{ordered_length}
use Rattle.ch_fold_lines.proofs.answer_lines.AnswerLines.len.Goals as goal

pub returns-in-Kept : goal.returns-in-Kept
returns-in-Kept c = c.len.ensures ∙ (sym (ordered_length (slice_cmp int_cmp) c.in-Kept.rows.now.rows) ∙ ap (λ (l : AnswerLines). length (lines_in l)) (sym c.in-Kept.is))

pub returns-in-Made : goal.returns-in-Made
returns-in-Made c = c.len-in-Made.ensures ∙ (sym (ordered_length (slice_cmp int_cmp) c.in-Made.rows.rows) ∙ ap (λ (l : AnswerLines). length (lines_in l)) (sym c.in-Made.is))
