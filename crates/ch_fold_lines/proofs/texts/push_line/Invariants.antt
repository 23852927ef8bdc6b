use Rattle.std.proofs.Common.{ℕ, List, [], map, take}
use Rattle.ch_print.specs.AnswerText.{cell_text}
use Rattle.ch_print.specs.Written.{HasWritten}
use Rattle.ch_fold_lines.specs.Shown.{shown_line}
use Rattle.ch_fold_lines.proofs.texts.push_line.Given as goal

abbrev pub invariant-loop-i : goal.invariant-loop-i
invariant-loop-i l = (bytes : List ℕ) → HasWritten l.fn.text bytes [] → HasWritten l.text bytes (map cell_text (shown_line l.ranks l.kinds (take l.i l.words)))
