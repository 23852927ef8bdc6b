use Rattle.ch_tables.proofs.WordLemmas.{with_texts-spelled}
use Rattle.ch_tables.proofs.column.words_of.Goals as goal

pub returns-in-Some-clause-texts : goal.returns-in-Some-clause-texts
returns-in-Some-clause-texts c = with_texts-spelled c.args.texts.now c.args.column.now c.in-Some.numbers.items (rw c.in-Some.is at c.in_ok-numbers.ensures)
