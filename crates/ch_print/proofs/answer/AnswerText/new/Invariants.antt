use Rattle.std.proofs.Common.{[], take}
use Rattle.ch_print.specs.Written.{HasWritten}
use Rattle.ch_print.proofs.answer.AnswerText.new.Given as goal

-- the line has the names so far
abbrev pub invariant-loop-name : goal.invariant-loop-name
invariant-loop-name l = HasWritten l.text [] (take l.name-index l.name-items)
