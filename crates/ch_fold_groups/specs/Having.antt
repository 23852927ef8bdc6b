-- When the fold of a query with sums stands for a list of rows.
use Rattle.std.specs.Prelude.{◌≡◌, ℕ, List, Option, option_map, map, ℤ}
use Rattle.ch_lists.specs.Members.{Each}
use Rattle.ch_cover.specs.Rows.{Row}
use Rattle.ch_pred.specs.Meaning.{amount, at_each, total}
use Rattle.ch_pred.specs.Values.{View, words}
use Rattle.ch_pred.specs.declared.bound.Bound.{Bound}
use Rattle.ch_pred.specs.declared.bound.Shape.TheVariants as shape
use Rattle.ch_pred.specs.declared.pred.Col.{Col}
use Rattle.ch_fold_lines.specs.Rows.{RowsFit, held}
use Rattle.ch_fold_groups.specs.Kept.{IsWord, KeepsGroups}
use Rattle.ch_fold_groups.specs.Lines.{group_place, place_of}
use Rattle.ch_fold_groups.specs.declared.having.HavingFold.{HavingFold}

-- the key of each row, with what it adds to the sum of its key
abbrev pub summed_keys : List Col → Option Col → List (View ℤ) → List (List ℤ × ℤ)
summed_keys keys sum rows = map (λ r. (at_each r keys, amount words sum r)) rows

pub record StandsForHaving (texts : List (List ℕ)) (b : Bound) (fold : HavingFold) (rows : List Row) : Type 0 where
  pub keys : List Col
  pub sum : Option Col
  pub above : ℤ
  pub shape : b.shape ≡ shape.Having keys sum above
  pub limit : fold.above ≡ above
  pub key_places : fold.key_places ≡ map (place_of b) keys
  pub value_place : fold.value_place ≡ option_map (place_of b) sum
  pub printed_places : fold.printed_places ≡ map (group_place keys) b.printed
  -- the exact sum of each key of the rows that hold
  pub sums : KeepsGroups total (summed_keys keys sum (held texts b rows)) fold.sums
  pub are_words : Each (λ g. IsWord g.1) (summed_keys keys sum (held texts b rows))
  pub fits : RowsFit texts b rows
