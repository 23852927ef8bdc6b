-- The queries that a semi-join's operator serves.
use Rattle.std.specs.Prelude.{◌≡◌}
use Rattle.ch_pred.specs.declared.bound.Bound.{Bound}
use Rattle.ch_pred.specs.declared.bound.Shape.TheVariants as shape
use Rattle.ch_pred.specs.declared.pred.Col.{Col}
use Rattle.ch_words.specs.Rows.{Gate, GateFits}
use Rattle.ch_words.specs.Words.{Reading, asked_of_words}
use Rattle.op_moves.specs.Columns.{StandsAt}
use Rattle.op_semi.specs.declared.sizes.Sizes.{Sizes}

-- a semi-join whose key columns stand at its places; exactly the outer rows that hold and all inner rows have their bit set
pub record SemiServes (d : Sizes) (r : Reading) (b : Bound) (gate : Gate) : Type 0 where
  pub key : Col
  pub within : Col
  pub own : b.shape ≡ shape.Semi key within
  pub fits : GateFits gate (asked_of_words r b) b.shape
  pub key_place : StandsAt b key d.bloom.left
  pub inner_place : StandsAt b within d.bloom.right
