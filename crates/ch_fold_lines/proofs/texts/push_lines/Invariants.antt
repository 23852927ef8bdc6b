use Rattle.std.proofs.Common.{ℕ, List, [], ◌++◌, take, flat_map}
use Rattle.ch_print.specs.Written.{HasWritten}
use Rattle.ch_fold_lines.specs.AnswerLines.{line_text}
use Rattle.ch_fold_lines.proofs.texts.push_lines.Given as goal

abbrev pub invariant-loop-at : goal.invariant-loop-at
invariant-loop-at l = (bytes : List ℕ) → HasWritten l.fn.text bytes [] → HasWritten l.text (bytes ++ flat_map (line_text l.ranks l.kinds) (take l.at l.lines)) []
