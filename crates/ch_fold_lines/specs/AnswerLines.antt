-- The lines of an answer, in their order.
use Rattle.std.specs.Prelude.{◌≡◌, ℕ, List, map, ℤ}
use Rattle.std.specs.Ordering.{int_cmp}
use Rattle.std.specs.Cmp.Lexicographic.{slice_cmp}
use Rattle.csv.specs.Writing.{default_writer, row_text}
use Rattle.ch_cells.specs.declared.Kind.{Kind}
use Rattle.ch_cover.specs.Rows.{Row}
use Rattle.ch_lists.specs.Ordered.{ordered}
use Rattle.ch_pred.specs.declared.bound.Bound.{Bound}
use Rattle.ch_print.specs.AnswerText.{cell_text}
use Rattle.ch_fold_lines.specs.Rows.{answer_read}
use Rattle.ch_fold_lines.specs.Shown.{printed_kinds, shown_line}
use Rattle.ch_fold_lines.specs.declared.answer_lines.AnswerLines.{AnswerLines}
use Rattle.ch_fold_lines.specs.declared.answer_lines.AnswerLines.TheVariants as of

abbrev pub lines_in : AnswerLines → List (List ℤ)
lines_in (of.Kept rows) = ordered (slice_cmp int_cmp) rows.now.rows
lines_in (of.Made rows) = ordered (slice_cmp int_cmp) rows.rows
lines_in (of.InOrder lines) = map (λ line. line.now) lines.items

-- the lines show the answer over rows
abbrev pub TellAnswer : List (List ℕ) → Bound → List Row → AnswerLines → Type 0
TellAnswer texts b rows lines = map (shown_line texts (printed_kinds b)) (lines_in lines) ≡ answer_read texts b rows

-- the text of a line
abbrev pub line_text : List (List ℕ) → List Kind → List ℤ → List ℕ
line_text texts kinds words = row_text default_writer (map cell_text (shown_line texts kinds words))
