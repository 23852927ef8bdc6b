-- Words that a dictionary can read.
use Rattle.std.specs.Prelude.{◌≡◌, ℕ, List, length, ℤ, pos, ◌≤ℤ◌, ◌<ℤ◌}
use Rattle.ch_cells.specs.declared.Kind.{Kind}
use Rattle.ch_cells.specs.declared.Kind.TheVariants as kind
use Rattle.ch_pred.specs.Sound.{IsCarried}
use Rattle.ch_pred.specs.Values.{View}
use Rattle.ch_pred.specs.declared.bound.Bound.{Bound}
use Rattle.ch_words.specs.Readings.{rows_have}
use Rattle.ch_words.specs.Packets.{kinds_read}

-- a word of a Text column is a rank of the dictionary
abbrev pub FitsWord : List (List ℕ) → Kind → ℤ → Type 0
FitsWord texts k w = k ≡ kind.Text → (pos 0 ≤ℤ w) × (w <ℤ pos (length texts))

-- so is each word of a row, or of a pair of rows, in the columns that a query can name of it
abbrev pub WordsFit : List (List ℕ) → Bound → View ℤ → Type 0
WordsFit texts b words = (side at : ℕ) → rows_have b.shape (IsCarried b) side at → FitsWord texts (kinds_read b b.shape side at) (words side at)
