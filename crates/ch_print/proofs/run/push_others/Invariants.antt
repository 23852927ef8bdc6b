use Rattle.std.proofs.Common.{◌≡◌, ◌++◌, drop}
use Rattle.ch_print.specs.RunTexts.{behind_commas}
use Rattle.ch_print.proofs.run.push_others.Given as goal

abbrev pub invariant-loop-number : goal.invariant-loop-number
invariant-loop-number l = l.text.items ++ behind_commas (drop l.number-index l.numbers) ≡ l.fn.text.items ++ behind_commas l.numbers
