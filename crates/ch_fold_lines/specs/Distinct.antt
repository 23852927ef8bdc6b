-- When the fold of a DISTINCT stands for a list of rows.
use Rattle.std.specs.Prelude.{◌≡◌, ℕ, List, map}
use Rattle.std.specs.Ordering.{int_cmp}
use Rattle.std.specs.Cmp.Lexicographic.{slice_cmp}
use Rattle.ch_lists.specs.Ordered.{once, SameBag}
use Rattle.ch_cover.specs.Rows.{Row}
use Rattle.ch_pred.specs.declared.bound.Bound.{Bound}
use Rattle.ch_pred.specs.declared.bound.Shape.TheVariants as shape
use Rattle.ch_fold_lines.specs.Rows.{RowsFit, held_lines, printed_place}
use Rattle.ch_fold_lines.specs.declared.distinct.DistinctFold.{DistinctFold}

pub record StandsForDistinct (texts : List (List ℕ)) (b : Bound) (fold : DistinctFold) (rows : List Row) : Type 0 where
  pub shape : b.shape ≡ shape.Distinct
  pub places : fold.places ≡ map (printed_place b) b.printed
  -- the different lines that the rows that hold print, in whatever order
  pub lines : SameBag fold.lines (once (slice_cmp int_cmp) (held_lines texts b rows))
  pub fits : RowsFit texts b rows
