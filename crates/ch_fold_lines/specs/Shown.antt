-- The cells that words are shown as: those that they stand for, where they fit.
use Rattle.std.specs.Prelude.{ℕ, List, [], ◌∷◌, map, Option, Some, None, slice_get, ℤ, pos, negsuc}
use Rattle.ch_cells.specs.declared.Cell.{Cell}
use Rattle.ch_cells.specs.declared.Cell.TheVariants as cell
use Rattle.ch_cells.specs.declared.Kind.{Kind}
use Rattle.ch_cells.specs.declared.Kind.TheVariants as kind
use Rattle.ch_pred.specs.declared.bound.Bound.{Bound}
use Rattle.ch_pred.specs.declared.bound.Printed.{Printed}
use Rattle.ch_pred.specs.declared.bound.Printed.TheVariants as printed
use Rattle.ch_pred.specs.declared.bound.Shape.{Shape}
use Rattle.ch_pred.specs.declared.bound.Shape.TheVariants as shape
use Rattle.ch_words.specs.Packets.{kinds_read}

-- a text, or the number where there is none
abbrev pub shown_text : Option (List ℕ) → ℤ → Cell
shown_text (Some t) w = cell.Text t
shown_text None w = cell.Number w

abbrev pub shown_rank : List (List ℕ) → ℤ → Cell
shown_rank texts (pos r) = shown_text (slice_get texts r) (pos r)
shown_rank texts (negsuc n) = cell.Number (negsuc n)

abbrev pub shown_cell : List (List ℕ) → Kind → ℤ → Cell
shown_cell texts kind.Number w = cell.Number w
shown_cell texts kind.Text w = shown_rank texts w
shown_cell texts kind.Void w = cell.Number w

-- a word past the kinds is a number
abbrev pub shown_line : List (List ℕ) → List Kind → List ℤ → List Cell
shown_line texts ks [] = []
shown_line texts [] (w ∷ ws) = cell.Number w ∷ shown_line texts [] ws
shown_line texts (k ∷ ks) (w ∷ ws) = shown_cell texts k w ∷ shown_line texts ks ws

-- the kind by which the best value of a group is read
abbrev pub best_kind : Bound → Shape → Kind
best_kind b shape.Filter = kind.Number
best_kind b shape.Distinct = kind.Number
best_kind b (shape.Top by descending limit) = kind.Number
best_kind b (shape.Group keys max value) = kinds_read b b.shape value.side value.at
best_kind b (shape.Having keys sum above) = kind.Number
best_kind b (shape.Join left right) = kind.Number
best_kind b (shape.Skyline dims) = kind.Number
best_kind b (shape.Semi key inner) = kind.Number

-- the kinds by which printed words are read
abbrev pub printed_kind : Bound → Printed → Kind
printed_kind b (printed.Column c) = kinds_read b b.shape c.side c.at
printed_kind b printed.Best = best_kind b b.shape

abbrev pub printed_kinds : Bound → List Kind
printed_kinds b = map (printed_kind b) b.printed
