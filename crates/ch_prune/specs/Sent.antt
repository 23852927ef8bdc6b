-- The rows that workers send of a query.
use Rattle.std.specs.Prelude.{◌==◌, Bool, true, ◌&&◌, length, ℤ, pos, nat_le, nat_abs, int_le, Some, None}
use Rattle.std.specs.List.{list_all}
use Rattle.ch_cells.specs.Number.{greatest_magnitude}
use Rattle.ch_cover.specs.Rows.{Row}
use Rattle.ch_pred.specs.Meaning.{at}
use Rattle.ch_pred.specs.declared.bound.Bound.{Bound}
use Rattle.ch_pred.specs.declared.bound.Shape.{Shape}
use Rattle.ch_pred.specs.declared.bound.Shape.TheVariants as shape
use Rattle.ch_pred.specs.Sound.{carried_of}
use Rattle.ch_words.specs.Rows.{Gate, is_gated, row_seen}

-- a word is in the cell range; a text's rank is too
abbrev pub is_cell_word : ℤ → Bool
is_cell_word v = nat_le (nat_abs v) greatest_magnitude

-- a summed word isn't negative
abbrev pub is_countable : Bound → Row → Shape → Bool
is_countable b r shape.Filter = true
is_countable b r shape.Distinct = true
is_countable b r (shape.Top by descending limit) = true
is_countable b r (shape.Group keys max value) = true
is_countable b r (shape.Having keys None above) = true
is_countable b r (shape.Having keys (Some value) above) = int_le (pos 0) (at (row_seen b r) value)
is_countable b r (shape.Join left right) = true
is_countable b r (shape.Skyline dims) = true
is_countable b r (shape.Semi key within) = true

-- a row of a table of the query: its bit is its gate, it has a word in the cell range for each carried column, and a
-- summed one isn't negative
abbrev pub is_sent : Gate → Bound → Row → Bool
is_sent gate b r = is_gated gate b r && ((length r.words == length (carried_of b r.side)) && (list_all is_cell_word r.words && is_countable b r b.shape))
