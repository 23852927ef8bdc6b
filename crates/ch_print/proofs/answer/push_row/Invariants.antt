use Rattle.std.proofs.Common.{ℕ, List, [], map, take}
use Rattle.ch_print.specs.AnswerText.{cell_text}
use Rattle.ch_print.specs.Written.{HasWritten}
use Rattle.ch_print.proofs.answer.push_row.Given as goal

-- the line has the texts of the cells so far
abbrev pub invariant-loop-cell : goal.invariant-loop-cell
invariant-loop-cell l = (written : List ℕ) → HasWritten l.fn.text written [] → HasWritten l.text written (map cell_text (take l.cell-index l.cell-items))
