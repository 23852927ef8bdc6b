-- The queries that ORDER BY with LIMIT serves.
use Rattle.std.specs.Prelude.{◌≡◌}
use Rattle.ch_pred.specs.declared.bound.Bound.{Bound}
use Rattle.ch_pred.specs.declared.bound.Shape.TheVariants as shape
use Rattle.ch_pred.specs.declared.pred.Col.{Col}
use Rattle.ch_words.specs.Rows.{Gate, GateFits}
use Rattle.ch_words.specs.Words.{Reading, asked_of_words}
use Rattle.op_moves.specs.Columns.{StandsAt}
use Rattle.op_topn.specs.declared.sizes.Sizes.{Sizes}

-- a query of its direction and limit, whose ordered column stands at its place, and where a row's bit is whether it holds
pub record TopServes (s : Sizes) (d : Reading) (b : Bound) (gate : Gate) : Type 0 where
  pub by : Col
  pub own : b.shape ≡ shape.Top by s.descending s.limit
  pub fits : GateFits gate (asked_of_words d b) b.shape
  pub place : StandsAt b by s.value
