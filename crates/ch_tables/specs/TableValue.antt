-- A table as contracts see it.
use Rattle.std.specs.Prelude.{ℕ, List}
use Rattle.ch_cells.specs.declared.cell.Cell.{Cell}
use Rattle.ch_cells.specs.declared.cell.Kind.{Kind}

pub record TableValue : Type 0 where
  -- the table's name
  pub name : List ℕ
  -- the names of the columns
  pub header : List (List ℕ)
  -- the kind of each column
  pub kinds : List Kind
  -- the rows of each part, each row with a cell for each column
  pub parts : List (List (List Cell))
