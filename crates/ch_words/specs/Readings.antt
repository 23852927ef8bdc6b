-- What a sound query and a reading of its words meet.
use Rattle.std.specs.Prelude.{◌≡◌, ℕ, ℤ, List, [], ◌∷◌, ◌⊎◌, Some, None}
use Rattle.std.specs.Ordering.{int_cmp}
use Rattle.std.specs.List.{AllZip}
use Rattle.ch_cells.specs.declared.Cell.{Cell}
use Rattle.ch_cells.specs.Cell.{cell_cmp}
use Rattle.ch_pred.specs.Values.{View, number_in}
use Rattle.ch_pred.specs.Plain.{plain_of}
use Rattle.ch_pred.specs.Names.{Names, NamesPrinted}
use Rattle.ch_pred.specs.declared.bound.Bound.{Bound}
use Rattle.ch_pred.specs.declared.bound.Dim.{Dim}
use Rattle.ch_pred.specs.declared.bound.Printed.{Printed}
use Rattle.ch_pred.specs.declared.bound.Shape.{Shape}
use Rattle.ch_pred.specs.declared.bound.Shape.TheVariants as shape
use Rattle.ch_pred.specs.declared.pred.Col.{Col}
use Rattle.ch_words.specs.Words.{Reading, reads}

-- the columns of a list are there
abbrev pub AllCols : (ℕ → ℕ → Type 0) → List Col → Type 0
AllCols has [] = Unit {0}
AllCols has (c ∷ cs) = has c.side c.at × AllCols has cs

abbrev pub AllDims : (ℕ → ℕ → Type 0) → List Dim → Type 0
AllDims has [] = Unit {0}
AllDims has (d ∷ ds) = has d.col.side d.col.at × AllDims has ds

abbrev pub AllPrinted : (ℕ → ℕ → Type 0) → List Printed → Type 0
AllPrinted has [] = Unit {0}
AllPrinted has (p ∷ ps) = NamesPrinted has p × AllPrinted has ps

-- the column of this side and place is one of the list
abbrev pub IsCol : List Col → ℕ → ℕ → Type 0
IsCol [] side at = ⊥
IsCol (c ∷ cs) side at = ((c.side ≡ side) × (c.at ≡ at)) ⊎ IsCol cs side at

-- The columns that a kind names are there, and Group and Having print no column but keys. `has` tells the columns of the
-- rows, or of the pairs, `inner` those of the inner table of a semi-join
abbrev pub NamesShape : (has inner : ℕ → ℕ → Type 0) → List Printed → Shape → Type 0
NamesShape has inner items shape.Filter = AllPrinted has items
NamesShape has inner items shape.Distinct = AllPrinted has items
NamesShape has inner items (shape.Top by descending limit) = AllPrinted has items × has by.side by.at
NamesShape has inner items (shape.Group keys max value) = AllPrinted (IsCol keys) items × AllCols has keys × has value.side value.at
NamesShape has inner items (shape.Having keys None above) = AllPrinted (IsCol keys) items × AllCols has keys
NamesShape has inner items (shape.Having keys (Some value) above) = AllPrinted (IsCol keys) items × AllCols has keys × has value.side value.at
NamesShape has inner items (shape.Join left right) = AllPrinted has items × has left.side left.at × has right.side right.at
NamesShape has inner items (shape.Skyline dims) = AllPrinted has items × AllDims has dims
NamesShape has inner items (shape.Semi key within) = AllPrinted has items × has key.side key.at × inner within.side within.at

-- the columns of the first table, and those of the second
abbrev pub left_of : (ℕ → ℕ → Type 0) → ℕ → ℕ → Type 0
left_of has side at = has side at × (side ≡ 0)

abbrev pub right_of : (ℕ → ℕ → Type 0) → ℕ → ℕ → Type 0
right_of has side at = has side at × (side ≡ 0 → ⊥)

-- a query names columns of the first table, and a join those of both
abbrev pub rows_have : Shape → (ℕ → ℕ → Type 0) → ℕ → ℕ → Type 0
rows_have shape.Filter has = left_of has
rows_have shape.Distinct has = left_of has
rows_have (shape.Top by descending limit) has = left_of has
rows_have (shape.Group keys max value) has = left_of has
rows_have (shape.Having keys sum above) has = left_of has
rows_have (shape.Join left right) has = has
rows_have (shape.Skyline dims) has = left_of has
rows_have (shape.Semi key within) has = left_of has

-- each column that the query names is there
pub record NamesOnly (has : ℕ → ℕ → Type 0) (b : Bound) : Type 0 where
  pub filter : Names (rows_have b.shape has) (plain_of b.filter)
  pub shape : NamesShape (rows_have b.shape has) (right_of has) b.printed b.shape

-- a summed word is its cell's number, and the words of two key columns stand for the same cells
abbrev pub FitsShape : Reading → Shape → Type 0
FitsShape d shape.Filter = Unit {0}
FitsShape d shape.Distinct = Unit {0}
FitsShape d (shape.Top by descending limit) = Unit {0}
FitsShape d (shape.Group keys max value) = Unit {0}
FitsShape d (shape.Having keys None above) = Unit {0}
FitsShape d (shape.Having keys (Some value) above) = (w : ℤ) → number_in (reads d value w) ≡ w
FitsShape d (shape.Join left right) = (w : ℤ) → reads d left w ≡ reads d right w
FitsShape d (shape.Skyline dims) = Unit {0}
FitsShape d (shape.Semi key within) = (w : ℤ) → reads d key w ≡ reads d within w

-- in each column a greater word stands for a greater cell
pub record IsReading (d : Reading) (b : Bound) : Type 0 where
  pub rises : (side at : ℕ) (x y : ℤ) → cell_cmp (d side at x) (d side at y) ≡ int_cmp x y
  pub fits : FitsShape d b.shape

-- the words of a row stand for its cells, in the columns that are there
abbrev pub StandsFor : Reading → (ℕ → ℕ → Type 0) → View Cell → View ℤ → Type 0
StandsFor d has row ws = (side at : ℕ) → has side at → row side at ≡ d side at (ws side at)

abbrev pub AllStandFor : Reading → (ℕ → ℕ → Type 0) → List (View Cell) → List (View ℤ) → Type 0
AllStandFor d has rows wss = AllZip (StandsFor d has) rows wss
