-- The queries that a Group serves.
use Rattle.std.specs.Prelude.{◌≡◌, List}
use Rattle.ch_pred.specs.declared.bound.Bound.{Bound}
use Rattle.ch_pred.specs.declared.bound.Shape.TheVariants as shape
use Rattle.ch_pred.specs.declared.pred.Col.{Col}
use Rattle.ch_words.specs.Rows.{Gate, GateFits}
use Rattle.ch_words.specs.Words.{Reading, asked_of_words}
use Rattle.op_moves.specs.Columns.{AreRead, StandsAt}
use Rattle.op_group.specs.Sizes.{Sizes}

-- a GROUP BY of its direction whose key columns and value stand at its places, where a row's bit is whether it holds
pub record GroupServes (s : Sizes) (d : Reading) (b : Bound) (gate : Gate) : Type 0 where
  pub keys : List Col
  pub value : Col
  pub own : b.shape ≡ shape.Group keys s.is_max value
  pub fits : GateFits gate (asked_of_words d b) b.shape
  pub read : AreRead b keys s.key
  pub stands : StandsAt b value s.value
