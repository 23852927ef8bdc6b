-- When the fold of a semi-join stands for a list of rows.
use Rattle.std.specs.Prelude.{◌≡◌, ℕ, suc, List, [], ◌∷◌, ◌++◌, map, length, ℤ, pos}
use Rattle.std.specs.Ordering.{int_cmp}
use Rattle.ch_lists.specs.Ordered.{once, SameBag}
use Rattle.ch_cover.specs.Rows.{Row}
use Rattle.ch_pred.specs.Meaning.{at, line}
use Rattle.ch_pred.specs.Values.{View}
use Rattle.ch_pred.specs.declared.bound.Bound.{Bound}
use Rattle.ch_pred.specs.declared.bound.Printed.{Printed}
use Rattle.ch_pred.specs.declared.bound.Shape.TheVariants as shape
use Rattle.ch_pred.specs.declared.pred.Col.{Col}
use Rattle.ch_words.specs.Rows.{side_seen}
use Rattle.ch_fold_lines.specs.Rows.{RowsFit, held, printed_place}
use Rattle.ch_fold_pairs.specs.Places.{place_of}
use Rattle.ch_fold_pairs.specs.declared.semi.SemiFold.{SemiFold}

-- what a row prints, with its key behind it
abbrev pub line_with_key : List Printed → Col → View ℤ → List ℤ
line_with_key items key row = line items (pos 0) row ++ at row key ∷ []

pub record StandsForSemi (texts : List (List ℕ)) (b : Bound) (fold : SemiFold) (rows : List Row) : Type 0 where
  pub key : Col
  pub within : Col
  pub shape : b.shape ≡ shape.Semi key within
  pub places : fold.places ≡ map (printed_place b) b.printed ++ place_of b key ∷ []
  pub inner_place : fold.inner_place ≡ place_of b within
  pub width : fold.width ≡ length b.printed
  -- the outer rows that hold, in their order
  pub outer : fold.outer ≡ record { width = suc (length b.printed); rows = map (line_with_key b.printed key) (held texts b rows) }
  -- the different inner keys, in whatever order
  pub inner : SameBag fold.inner (once int_cmp (map (λ r. at r within) (side_seen b 1 rows)))
  pub fits : RowsFit texts b rows
