-- The words of a row, by the ranks of a dictionary's texts.
use Rattle.std.specs.Prelude.{ℕ, List, map, slice_index_or, ℤ, pos}
use Rattle.ch_cells.specs.declared.Cell.{Cell}
use Rattle.ch_cells.specs.declared.Cell.TheVariants as cell
use Rattle.ch_ranks.specs.Dictionary.{rank_in}
use Rattle.ch_words.specs.Ranks.{word_of}

-- the rank of each text
abbrev pub ranks_of : List (List ℕ) → List (List ℕ) → List ℤ
ranks_of dictionary texts = map (λ text. pos (rank_in dictionary text)) texts

-- the words of a row's cells in some columns
abbrev pub row_words : List (List ℕ) → List ℕ → List Cell → List ℤ
row_words dictionary cols row = map (λ at. word_of dictionary (slice_index_or row at (cell.Number (pos 0)))) cols
