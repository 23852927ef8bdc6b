use Rattle.std.proofs.Common.{◌≡◌, ◌≤◌, ◌+◌, length, take}
use Rattle.ch_tables.specs.Texts.{texts_of, with_texts}
use Rattle.ch_table_words.proofs.dictionary.add_texts.Given as goal

-- the texts so far are added
abbrev pub invariant-loop-at : goal.invariant-loop-at
invariant-loop-at l = record {
  added : l.builder ≡ with_texts l.fn.builder (take l.at (texts_of l.table));
  few : length l.builder ≤ length l.fn.builder + l.at;
}
