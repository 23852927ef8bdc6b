-- When the fold of a query with groups stands for a list of rows.
use Rattle.std.specs.Prelude.{◌≡◌, ℕ, Bool, List, map, ℤ}
use Rattle.ch_cover.specs.Rows.{Row}
use Rattle.ch_pred.specs.Meaning.{at, at_each, best_of}
use Rattle.ch_pred.specs.Values.{View, words}
use Rattle.ch_pred.specs.declared.bound.Bound.{Bound}
use Rattle.ch_pred.specs.declared.bound.Shape.TheVariants as shape
use Rattle.ch_pred.specs.declared.pred.Col.{Col}
use Rattle.ch_fold_lines.specs.Rows.{RowsFit, held}
use Rattle.ch_fold_groups.specs.Kept.{KeepsGroups}
use Rattle.ch_fold_groups.specs.Lines.{group_place, place_of}
use Rattle.ch_fold_groups.specs.declared.group.GroupFold.{GroupFold}

-- the key of each row, with its value
abbrev pub valued_keys : List Col → Col → List (View ℤ) → List (List ℤ × ℤ)
valued_keys keys value rows = map (λ r. (at_each r keys, at r value)) rows

pub record StandsForGroup (texts : List (List ℕ)) (b : Bound) (fold : GroupFold) (rows : List Row) : Type 0 where
  pub keys : List Col
  pub max : Bool
  pub value : Col
  pub shape : b.shape ≡ shape.Group keys max value
  pub direction : fold.max ≡ max
  pub key_places : fold.key_places ≡ map (place_of b) keys
  pub value_place : fold.value_place ≡ place_of b value
  pub printed_places : fold.printed_places ≡ map (group_place keys) b.printed
  -- the best value of each key of the rows that hold
  pub bests : KeepsGroups (best_of words max) (valued_keys keys value (held texts b rows)) fold.bests
  pub fits : RowsFit texts b rows
