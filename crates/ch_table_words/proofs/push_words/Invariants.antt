use Rattle.std.proofs.Common.{◌≡◌, ◌++◌, [], take}
use Rattle.std.specs.Prelude.{slice_index_or}
use Rattle.ch_table_words.specs.RowWords.{row_words}
use Rattle.ch_table_words.proofs.push_words.Given as goal

-- the words of the columns so far
abbrev pub invariant-loop-col : goal.invariant-loop-col
invariant-loop-col l = l.words.items ≡ l.fn.words.items ++ row_words l.ranks (take l.col-index l.cols) (slice_index_or (slice_index_or l.table.parts l.part []) l.row [])
