use Rattle.std.proofs.Common.{◌≡◌, drop}
use Rattle.ch_asked.specs.Texts.{tables_texts}
use Rattle.ch_tables.specs.Texts.{with_texts}
use Rattle.ch_asked.proofs.texts.with_tables.Given as goal

-- those of the tables left are still to be added
abbrev pub invariant-loop-number : goal.invariant-loop-number
invariant-loop-number l = with_texts l.gathered.texts (tables_texts l.tables (drop l.number-index l.numbers)) ≡ with_texts l.fn.gathered.texts (tables_texts l.tables l.numbers)
