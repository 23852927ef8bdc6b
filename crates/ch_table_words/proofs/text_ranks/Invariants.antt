use Rattle.std.proofs.Common.{◌≡◌, take}
use Rattle.ch_tables.specs.Texts.{texts_of}
use Rattle.ch_table_words.specs.RowWords.{ranks_of}
use Rattle.ch_table_words.proofs.text_ranks.Given as goal

-- the ranks of the texts so far
abbrev pub invariant-loop-at : goal.invariant-loop-at
invariant-loop-at l = l.places ≡ ranks_of l.ranks (take l.at (texts_of l.table))
