-- The queries that SKYLINE OF serves.
use Rattle.std.specs.Prelude.{◌≡◌, ℕ, Bool, List, [], ◌∷◌}
use Rattle.ch_pred.specs.declared.bound.Bound.{Bound}
use Rattle.ch_pred.specs.declared.bound.Dim.{Dim}
use Rattle.ch_pred.specs.declared.bound.Shape.TheVariants as shape
use Rattle.ch_words.specs.Rows.{Gate, GateFits}
use Rattle.ch_words.specs.Words.{Reading, asked_of_words}
use Rattle.op_moves.specs.Columns.{StandsAt}
use Rattle.op_skyline.specs.declared.sizes.Sizes.{Sizes}

-- the columns of the dimensions stand at the places, each in its direction
abbrev pub DimsStandAt : Bound → List Dim → List ℕ → List Bool → Type 0
DimsStandAt b [] [] [] = Unit {0}
DimsStandAt b [] [] (m ∷ max) = ⊥
DimsStandAt b [] (p ∷ places) max = ⊥
DimsStandAt b (k ∷ dims) [] max = ⊥
DimsStandAt b (k ∷ dims) (p ∷ places) [] = ⊥
DimsStandAt b (k ∷ dims) (p ∷ places) (m ∷ max) = StandsAt b k.col p × (m ≡ k.max) × DimsStandAt b dims places max

-- a query of dimensions at its places, where a row's bit is whether it holds
pub record SkylineServes (s : Sizes) (d : Reading) (b : Bound) (gate : Gate) : Type 0 where
  pub dims : List Dim
  pub own : b.shape ≡ shape.Skyline dims
  pub fits : GateFits gate (asked_of_words d b) b.shape
  pub stand : DimsStandAt b dims s.places s.max
