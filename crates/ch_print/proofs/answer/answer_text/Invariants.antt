use Rattle.std.proofs.Common.{[], map, take, ◌++◌}
use Rattle.std.specs.Prelude.{flat_map}
use Rattle.csv.specs.Writing.{default_writer, row_text}
use Rattle.ch_print.specs.AnswerText.{cell_text}
use Rattle.ch_print.specs.Written.{HasWritten}
use Rattle.ch_print.proofs.answer.answer_text.Given as goal

-- written are the header and the rows so far
abbrev pub invariant-loop-row : goal.invariant-loop-row
invariant-loop-row l = HasWritten l.text (row_text default_writer l.answer.header ++ flat_map (λ row. row_text default_writer (map cell_text row)) (take l.row-index l.row-items)) []
