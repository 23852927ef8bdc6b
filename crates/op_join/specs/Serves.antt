-- The queries that a join's operator serves.
use Rattle.std.specs.Prelude.{◌≡◌}
use Rattle.ch_pred.specs.declared.bound.Bound.{Bound}
use Rattle.ch_pred.specs.declared.bound.Shape.TheVariants as shape
use Rattle.ch_pred.specs.declared.pred.Col.{Col}
use Rattle.ch_words.specs.Rows.{Gate, GateFits}
use Rattle.ch_words.specs.Words.{Reading, asked_of_words}
use Rattle.op_moves.specs.Columns.{StandsAt}
use Rattle.op_bloom.specs.declared.sizes.Sizes.{Sizes}

-- a join whose key columns stand at its places, that of each side at the side's; each row of a pair that holds has its bit set
pub record JoinServes (d : Sizes) (r : Reading) (b : Bound) (gate : Gate) : Type 0 where
  pub left : Col
  pub right : Col
  pub own : b.shape ≡ shape.Join left right
  pub left_side : left.side ≡ 0
  pub right_side : right.side ≡ 1
  pub fits : GateFits gate (asked_of_words r b) b.shape
  pub left_place : StandsAt b left d.left
  pub right_place : StandsAt b right d.right
