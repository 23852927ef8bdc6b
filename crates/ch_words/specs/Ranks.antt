-- Texts as ranks in a dictionary.
use Rattle.std.specs.Prelude.{ℕ, zero, suc, List, [], ◌∷◌, ◌++◌, replicate, ℤ, pos, negsuc}
use Rattle.ch_cells.specs.declared.Cell.{Cell}
use Rattle.ch_cells.specs.declared.Cell.TheVariants as cell
use Rattle.ch_cells.specs.declared.Kind.{Kind}
use Rattle.ch_cells.specs.declared.Kind.TheVariants as kind
use Rattle.ch_ranks.specs.Dictionary.{rank_in}
use Rattle.ch_words.specs.Words.{Reading}

-- The text of a rank. Beyond the dictionary, where no row has a word, the texts go on ascending
abbrev pub text_at : List ℕ → List (List ℕ) → ℕ → List ℕ
text_at last [] r = last ++ replicate (suc r) 0
text_at last (t ∷ ts) zero = t
text_at last (t ∷ ts) (suc r) = text_at t ts r

-- the cell that a word of a Text column stands for; a negative word, which no row has, stands for a number
abbrev pub text_cell : List (List ℕ) → ℤ → Cell
text_cell texts (pos r) = cell.Text (text_at [] texts r)
text_cell texts (negsuc n) = cell.Number (negsuc n)

abbrev pub column_cell : List (List ℕ) → Kind → ℤ → Cell
column_cell texts kind.Number w = cell.Number w
column_cell texts kind.Text w = text_cell texts w
column_cell texts kind.Void w = cell.Number w

-- the reading of words by a dictionary and the kinds of the columns
abbrev pub read_by : List (List ℕ) → (ℕ → ℕ → Kind) → Reading
read_by texts kinds side at = column_cell texts (kinds side at)

-- the word of a cell
abbrev pub word_of : List (List ℕ) → Cell → ℤ
word_of texts (cell.Number n) = n
word_of texts (cell.Text t) = pos (rank_in texts t)
