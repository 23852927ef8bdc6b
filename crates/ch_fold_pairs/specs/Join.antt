-- When the fold of a join stands for a list of rows.
use Rattle.std.specs.Prelude.{◌≡◌, ℕ, suc, List, length}
use Rattle.ch_cover.specs.Rows.{Row}
use Rattle.ch_pred.specs.Sound.{carried_of}
use Rattle.ch_pred.specs.declared.bound.Bound.{Bound}
use Rattle.ch_pred.specs.declared.bound.Shape.TheVariants as shape
use Rattle.ch_pred.specs.declared.pred.Col.{Col}
use Rattle.ch_fold_lines.specs.Rows.{RowsFit}
use Rattle.ch_fold_pairs.specs.Places.{keyed_places, place_of}
use Rattle.ch_fold_pairs.specs.Pairs.{keyed, words_of}
use Rattle.ch_fold_pairs.specs.declared.join.JoinFold.{JoinFold}

pub record StandsForJoin (texts : List (List ℕ)) (b : Bound) (fold : JoinFold) (rows : List Row) : Type 0 where
  pub left_col : Col
  pub right_col : Col
  pub shape : b.shape ≡ shape.Join left_col right_col
  pub left_places : fold.left_places ≡ keyed_places b left_col (length (carried_of b 0))
  pub right_places : fold.right_places ≡ keyed_places b right_col (length (carried_of b 1))
  -- the rows of each table with their keys in front, in their order
  pub left : fold.left ≡ record { width = suc (length (carried_of b 0)); rows = keyed (place_of b left_col) (words_of 0 rows) }
  pub right : fold.right ≡ record { width = suc (length (carried_of b 1)); rows = keyed (place_of b right_col) (words_of 1 rows) }
  pub fits : RowsFit texts b rows
