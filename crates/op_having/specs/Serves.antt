-- The queries that a Having operator serves.
use Rattle.std.specs.Prelude.{◌≡◌, ℕ, List, Option, Some, None}
use Rattle.ch_pred.specs.declared.bound.Bound.{Bound}
use Rattle.ch_pred.specs.declared.bound.Shape.TheVariants as shape
use Rattle.ch_pred.specs.declared.pred.Col.{Col}
use Rattle.ch_words.specs.Rows.{Gate, GateFits}
use Rattle.ch_words.specs.Words.{Reading, asked_of_words}
use Rattle.op_moves.specs.Columns.{AreOnly, AreRead, StandsAt}
use Rattle.op_having.specs.declared.sizes.Sizes.{Sizes}

-- the place of what is summed is that of the summed column
abbrev pub IsSumPlace : Bound → Option ℕ → Option Col → Type 0
IsSumPlace b None None = Unit {0}
IsSumPlace b None (Some c) = ⊥
IsSumPlace b (Some w) None = ⊥
IsSumPlace b (Some w) (Some c) = StandsAt b c w

-- a query of its own `above`, whose key columns stand at its key places and nothing else, and whose summed column at its own
pub record HavingServes (d : Sizes) (r : Reading) (b : Bound) (gate : Gate) : Type 0 where
  pub keys : List Col
  pub sum : Option Col
  pub own : b.shape ≡ shape.Having keys sum d.above
  pub fits : GateFits gate (asked_of_words r b) b.shape
  pub read : AreRead b keys d.keys
  pub only : AreOnly b keys d.keys
  pub sum_place : IsSumPlace b d.value sum
