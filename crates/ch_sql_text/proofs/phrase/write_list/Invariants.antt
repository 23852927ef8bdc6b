use Rattle.std.proofs.Common.{◌≡◌, drop, map, false}
use Rattle.ch_sql_grammar.specs.declared.terminal.Mark.TheVariants as mark
use Rattle.ch_sql_text.specs.Printed.{marked_off}
use Rattle.ch_sql_text.specs.Writing.{puts}
use Rattle.ch_sql_text.proofs.phrase.write_list.Given as goal

-- the phrases left are still to be written
abbrev pub invariant-loop-phrase : goal.invariant-loop-phrase
invariant-loop-phrase g l = puts l.writer (marked_off l.behind_one mark.Comma (map g.P.Phrase.tokens (drop l.phrase-index l.phrases))) ≡ puts l.initial.writer (marked_off false mark.Comma (map g.P.Phrase.tokens l.phrases))
