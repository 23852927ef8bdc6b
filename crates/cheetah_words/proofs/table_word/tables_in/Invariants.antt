use Rattle.std.proofs.Common.{◌≡◌, ◌≤◌, ◌++◌, drop, length, map}
use Rattle.cheetah_words.specs.Tables.{bad_from, part_word, parts_in}
use Rattle.cheetah_words.proofs.table_word.tables_in.Given as goal

-- the words left decide, and name the rest of the parts
abbrev pub invariant-loop-at : goal.invariant-loop-at
invariant-loop-at l = record {
  many : length l.tables ≤ l.at;
  bad : bad_from l.at (drop l.at (map (λ s. s.now) l.words)) ≡ bad_from 0 (map (λ s. s.now) l.words);
  parts : map part_word l.tables ++ parts_in (drop l.at (map (λ s. s.now) l.words)) ≡ parts_in (map (λ s. s.now) l.words);
}
