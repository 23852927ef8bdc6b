use Rattle.std.proofs.Common.{ℕ, List, [], ◌++◌, map, take, flat_map}
use Rattle.ch_print.specs.Written.{HasWritten}
use Rattle.ch_fold_lines.specs.AnswerLines.{line_text}
use Rattle.ch_fold_lines.proofs.texts.push_slices.Given as goal

abbrev pub invariant-loop-line : goal.invariant-loop-line
invariant-loop-line l = (bytes : List ℕ) → HasWritten l.fn.text bytes [] → HasWritten l.text (bytes ++ flat_map (line_text l.ranks l.kinds) (map (λ r. r.now) (take l.line-index l.lines))) []
