-- When the fold of a filter stands for a list of rows.
use Rattle.std.specs.Prelude.{◌≡◌, ℕ, List, map, length}
use Rattle.ch_cover.specs.Rows.{Row}
use Rattle.ch_pred.specs.declared.bound.Bound.{Bound}
use Rattle.ch_pred.specs.declared.bound.Shape.TheVariants as shape
use Rattle.ch_fold_lines.specs.Rows.{RowsFit, held_lines, printed_place}
use Rattle.ch_fold_lines.specs.declared.filter.FilterFold.{FilterFold}

pub record StandsForFilter (texts : List (List ℕ)) (b : Bound) (fold : FilterFold) (rows : List Row) : Type 0 where
  pub shape : b.shape ≡ shape.Filter
  pub places : fold.places ≡ map (printed_place b) b.printed
  -- what the rows that hold print, in their order
  pub lines : fold.lines ≡ record { width = length b.printed; rows = held_lines texts b rows }
  pub fits : RowsFit texts b rows
