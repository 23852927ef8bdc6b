-- The order of rows.
use Rattle.std.specs.Prelude.{List}
use Rattle.std.specs.declared.cmp.Ordering.{Ordering}
use Rattle.std.specs.Cmp.Lexicographic.{slice_cmp}
use Rattle.ch_lists.specs.Ordered.{ordered}
use Rattle.ch_cells.specs.Cell.{cell_cmp}
use Rattle.ch_cells.specs.declared.cell.Cell.{Cell}

-- from left to right; a row that another one begins with is smaller
abbrev pub row_cmp : List Cell → List Cell → Ordering
row_cmp = slice_cmp cell_cmp

-- the rows in ascending order, repeats kept
abbrev pub ascending : List (List Cell) → List (List Cell)
ascending = ordered row_cmp
