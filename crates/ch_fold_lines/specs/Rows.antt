-- The rows that a master folds, and the answer over them.
use Rattle.std.specs.Prelude.{◌≡◌, ℕ, List, map, filter, length, ℤ, pos}
use Rattle.ch_cells.specs.declared.Cell.{Cell}
use Rattle.ch_lists.specs.Members.{Each}
use Rattle.ch_cover.specs.Rows.{Row}
use Rattle.ch_pred.specs.Meaning.{line}
use Rattle.ch_pred.specs.Sound.{IsCarried, carried_of, place_in}
use Rattle.ch_pred.specs.Values.{View}
use Rattle.ch_pred.specs.declared.bound.Bound.{Bound}
use Rattle.ch_pred.specs.declared.bound.Printed.{Printed}
use Rattle.ch_pred.specs.declared.bound.Printed.TheVariants as printed
use Rattle.ch_words.specs.Packets.{kinds_read}
use Rattle.ch_words.specs.Ranks.{read_by}
use Rattle.ch_words.specs.Rows.{answer_over, side_seen, words_seen}
use Rattle.ch_words.specs.Words.{Reading, asked_of_words, read_answer}
use Rattle.ch_word_cells.specs.Fits.{FitsWord}

-- how the words of a query are read
abbrev pub reading : List (List ℕ) → Bound → Reading
reading texts b = read_by texts (kinds_read b b.shape)

-- the words of a row of a side: one for each carried column, and a rank for each that is read as a text
pub record RowFits (texts : List (List ℕ)) (b : Bound) (side : ℕ) (ws : List ℤ) : Type 0 where
  pub width : length ws ≡ length (carried_of b side)
  pub words : (at : ℕ) → IsCarried b side at → FitsWord texts (kinds_read b b.shape side at) (words_seen b ws side at)

abbrev pub RowsFit : List (List ℕ) → Bound → List Row → Type 0
RowsFit texts b rows = Each (λ r. RowFits texts b r.side r.words) rows

-- the answer over rows, read
abbrev pub answer_read : List (List ℕ) → Bound → List Row → List (List Cell)
answer_read texts b rows = read_answer (reading texts b) b (answer_over (reading texts b) b rows)

-- the rows of the first table that hold
abbrev pub held : List (List ℕ) → Bound → List Row → List (View ℤ)
held texts b rows = filter (asked_of_words (reading texts b) b).holds (side_seen b 0 rows)

-- what they print, where nothing but columns is printed
abbrev pub held_lines : List (List ℕ) → Bound → List Row → List (List ℤ)
held_lines texts b rows = map (line b.printed (pos 0)) (held texts b rows)

-- where a printed word stands in a row of the first table; past the row for what isn't a column
abbrev pub printed_place : Bound → Printed → ℕ
printed_place b (printed.Column c) = place_in (carried_of b c.side) c.at
printed_place b printed.Best = length (carried_of b 0)
