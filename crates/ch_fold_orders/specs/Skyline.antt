-- When the fold of a skyline stands for a list of rows.
use Rattle.std.specs.Prelude.{◌≡◌, ℕ, not, List, map, filter, length, ℤ}
use Rattle.ch_lists.specs.Members.{Each}
use Rattle.std.specs.List.{list_any}
use Rattle.std.specs.Ordering.{int_cmp}
use Rattle.ch_cover.specs.Rows.{Row}
use Rattle.ch_pred.specs.Meaning.{dominates}
use Rattle.ch_pred.specs.Sound.{carried_of, place_in}
use Rattle.ch_pred.specs.Values.{View}
use Rattle.ch_pred.specs.declared.bound.Bound.{Bound}
use Rattle.ch_pred.specs.declared.bound.Dim.{Dim}
use Rattle.ch_pred.specs.declared.bound.Shape.TheVariants as shape
use Rattle.ch_words.specs.Rows.{words_seen}
use Rattle.ch_fold_lines.specs.Rows.{RowsFit, held, printed_place}
use Rattle.ch_fold_orders.specs.declared.front.Axis.{Axis}
use Rattle.ch_fold_orders.specs.declared.skyline.SkylineFold.{SkylineFold}

abbrev pub axis_of : Bound → Dim → Axis
axis_of b d = record { place = place_in (carried_of b d.col.side) d.col.at; max = d.max }

-- the rows that none dominates
abbrev pub undominated : List Dim → List (View ℤ) → List (View ℤ)
undominated dims rows = filter (λ r. not (list_any (λ s. dominates int_cmp dims s r) rows)) rows

pub record StandsForSkyline (texts : List (List ℕ)) (b : Bound) (fold : SkylineFold) (rows : List Row) : Type 0 where
  pub dims : List Dim
  pub shape : b.shape ≡ shape.Skyline dims
  pub axes : fold.axes ≡ map (axis_of b) dims
  pub places : fold.places ≡ map (printed_place b) b.printed
  -- the words of those rows that hold and that none dominates, in their order
  pub points : map (words_seen b) fold.front ≡ undominated dims (held texts b rows)
  pub widths : Each (λ ws. length ws ≡ length (carried_of b 0)) fold.front
  pub fits : RowsFit texts b rows
