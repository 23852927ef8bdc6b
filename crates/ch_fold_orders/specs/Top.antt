-- When the fold of a TOP stands for a list of rows.
use Rattle.std.specs.Prelude.{◌≡◌, ℕ, Bool, true, false, List, ◌∷◌, map, take, ℤ, pos, negsuc, ◌-ℤ◌}
use Rattle.std.specs.Ordering.{int_cmp}
use Rattle.std.specs.Cmp.Lexicographic.{slice_cmp}
use Rattle.ch_lists.specs.Ordered.{ordered}
use Rattle.ch_cover.specs.Rows.{Row}
use Rattle.ch_pred.specs.Meaning.{at, line}
use Rattle.ch_pred.specs.Sound.{carried_of, place_in}
use Rattle.ch_pred.specs.Values.{View}
use Rattle.ch_pred.specs.declared.bound.Bound.{Bound}
use Rattle.ch_pred.specs.declared.bound.Shape.TheVariants as shape
use Rattle.ch_pred.specs.declared.pred.Col.{Col}
use Rattle.ch_fold_lines.specs.Rows.{RowsFit, held, printed_place}
use Rattle.ch_fold_orders.specs.declared.top.TopFold.{TopFold}

-- a word that ascends where the value descends
abbrev pub turned : Bool → ℤ → ℤ
turned true w = negsuc 0 -ℤ w
turned false w = w

-- what is kept of a row: its value, turned if the order descends, and then what it prints
abbrev pub entry : Bound → Col → Bool → View ℤ → List ℤ
entry b by descending v = turned descending (at v by) ∷ line b.printed (pos 0) v

pub record StandsForTop (texts : List (List ℕ)) (b : Bound) (fold : TopFold) (rows : List Row) : Type 0 where
  pub by : Col
  pub descending : Bool
  pub limit : ℕ
  pub shape : b.shape ≡ shape.Top by descending limit
  pub by_place : fold.by ≡ place_in (carried_of b by.side) by.at
  pub direction : fold.descending ≡ descending
  pub bound : fold.firsts.limit ≡ limit
  pub places : fold.places ≡ map (printed_place b) b.printed
  -- the first entries of the rows that hold, in whatever order
  pub entries : ordered (slice_cmp int_cmp) fold.firsts.rows ≡ take limit (ordered (slice_cmp int_cmp) (map (entry b by descending) (held texts b rows)))
  pub fits : RowsFit texts b rows
