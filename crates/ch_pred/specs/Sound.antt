-- What a bound query meets that binding gives.
use Rattle.std.specs.Prelude.{◌≡◌, ◌≢◌, ◌⊎◌, ℕ, suc, ◌<◌, ◌==◌, Bool, true, false, List, [], ◌∷◌, filter, length, slice_index_or, Some, None, if◌then◌else◌}
use Rattle.ch_cells.specs.declared.Kind.{Kind}
use Rattle.ch_cells.specs.declared.Kind.TheVariants as kind
use Rattle.ch_lists.specs.Members.{In, Each}
use Rattle.ch_pred.specs.Plain.{Plain, Truth, plain_of}
use Rattle.ch_pred.specs.Gate.{IsFull}
use Rattle.ch_pred.specs.Named.{named, outer_named, printed_cols}
use Rattle.ch_pred.specs.declared.bound.Bound.{Bound}
use Rattle.ch_pred.specs.declared.bound.Printed.{Printed}
use Rattle.ch_pred.specs.declared.bound.Printed.TheVariants as printed
use Rattle.ch_pred.specs.declared.bound.Shape.{Shape}
use Rattle.ch_pred.specs.declared.bound.Shape.TheVariants as shape
use Rattle.ch_pred.specs.declared.pred.Col.{Col}

-- the kind has one table
abbrev pub has_one_table : Shape → Bool
has_one_table shape.Filter = true
has_one_table shape.Distinct = true
has_one_table (shape.Top by descending limit) = true
has_one_table (shape.Group keys max value) = true
has_one_table (shape.Having keys sum above) = true
has_one_table (shape.Join left right) = false
has_one_table (shape.Skyline dims) = true
has_one_table (shape.Semi key inner) = false

abbrev pub sides_of : Shape → ℕ
sides_of s = if has_one_table s then 1 else 2

-- a list with one entry for each side
abbrev pub IsPerSide : {X : Type 0} → Bound → List X → Type 0
IsPerSide b xs = length xs ≡ sides_of b.shape

-- the places of the columns of a side that the query carries, and their kinds
abbrev pub carried_of : Bound → ℕ → List ℕ
carried_of b side = slice_index_or b.carried side []

abbrev pub kinds_of : Bound → ℕ → List Kind
kinds_of b side = slice_index_or b.kinds side []

abbrev pub IsCarried : Bound → ℕ → ℕ → Type 0
IsCarried b side at = In at (carried_of b side)

-- where a column stands among the carried ones; past them if it isn't carried
abbrev pub place_in : List ℕ → ℕ → ℕ
place_in [] at = 0
place_in (c ∷ cs) at = if c == at then 0 else suc (place_in cs at)

abbrev pub kind_of : Bound → Col → Kind
kind_of b col = slice_index_or (kinds_of b col.side) (place_in (carried_of b col.side) col.at) kind.Void

abbrev pub IsAscending : List ℕ → Type 0
IsAscending [] = Unit {0}
IsAscending (x ∷ []) = Unit {0}
IsAscending (x ∷ y ∷ ys) = (x < y) × IsAscending (y ∷ ys)

-- In a join the left column is the first table's and the right column the second's. In a semi-join the inner column is the
-- second's, and all others are the first's
abbrev pub AreSided : Shape → List Col → Type 0
AreSided shape.Filter outer = Unit {0}
AreSided shape.Distinct outer = Unit {0}
AreSided (shape.Top by descending limit) outer = Unit {0}
AreSided (shape.Group keys max value) outer = Unit {0}
AreSided (shape.Having keys sum above) outer = Unit {0}
AreSided (shape.Join left right) outer = (left.side ≡ 0) × (right.side ≡ 1)
AreSided (shape.Skyline dims) outer = Unit {0}
AreSided (shape.Semi key inner) outer = (inner.side ≡ 1) × Each (λ c. c.side ≡ 0) outer

-- a filter is `Truth`, or has no empty list and no `Truth` within
abbrev pub IsWhole : Plain → Type 0
IsWhole p = (p ≡ Truth) ⊎ IsFull p

-- Group and Having print no column but keys
abbrev pub PrintsKeys : Shape → List Col → Type 0
PrintsKeys shape.Filter cols = Unit {0}
PrintsKeys shape.Distinct cols = Unit {0}
PrintsKeys (shape.Top by descending limit) cols = Unit {0}
PrintsKeys (shape.Group keys max value) cols = Each (λ c. In c keys) cols
PrintsKeys (shape.Having keys sum above) cols = Each (λ c. In c keys) cols
PrintsKeys (shape.Join left right) cols = Unit {0}
PrintsKeys (shape.Skyline dims) cols = Unit {0}
PrintsKeys (shape.Semi key inner) cols = Unit {0}

abbrev pub is_best : Printed → Bool
is_best (printed.Column col) = false
is_best printed.Best = true

-- how often the best value of a group is printed
abbrev pub bests_of : Shape → ℕ
bests_of shape.Filter = 0
bests_of shape.Distinct = 0
bests_of (shape.Top by descending limit) = 0
bests_of (shape.Group keys max value) = 1
bests_of (shape.Having keys sum above) = 0
bests_of (shape.Join left right) = 0
bests_of (shape.Skyline dims) = 0
bests_of (shape.Semi key inner) = 0

-- the column of a sum isn't Text
abbrev pub SumsNumbers : Bound → Shape → Type 0
SumsNumbers b shape.Filter = Unit {0}
SumsNumbers b shape.Distinct = Unit {0}
SumsNumbers b (shape.Top by descending limit) = Unit {0}
SumsNumbers b (shape.Group keys max value) = Unit {0}
SumsNumbers b (shape.Having keys None above) = Unit {0}
SumsNumbers b (shape.Having keys (Some value) above) = kind_of b value ≢ kind.Text
SumsNumbers b (shape.Join left right) = Unit {0}
SumsNumbers b (shape.Skyline dims) = Unit {0}
SumsNumbers b (shape.Semi key inner) = Unit {0}

-- two kinds whose cells can be equal: the same, or one of a column without rows
abbrev pub AreAlike : Kind → Kind → Type 0
AreAlike k l = (k ≡ l) ⊎ (k ≡ kind.Void) ⊎ (l ≡ kind.Void)

-- the key columns of a join or a semi-join are of kinds that suit each other
abbrev pub KeysAlike : Bound → Shape → Type 0
KeysAlike b shape.Filter = Unit {0}
KeysAlike b shape.Distinct = Unit {0}
KeysAlike b (shape.Top by descending limit) = Unit {0}
KeysAlike b (shape.Group keys max value) = Unit {0}
KeysAlike b (shape.Having keys sum above) = Unit {0}
KeysAlike b (shape.Join left right) = AreAlike (kind_of b left) (kind_of b right)
KeysAlike b (shape.Skyline dims) = Unit {0}
KeysAlike b (shape.Semi key inner) = AreAlike (kind_of b key) (kind_of b inner)

pub record IsSound (b : Bound) : Type 0 where
  -- it has one table, or for a join and a semi-join two
  pub tables : IsPerSide b b.tables × IsPerSide b b.carried × IsPerSide b b.kinds
  pub sides : AreSided b.shape (outer_named b)
  -- the carried columns ascend, and have one kind each
  pub carried : (side : ℕ) → IsAscending (carried_of b side) × (length (kinds_of b side) ≡ length (carried_of b side))
  -- one name for each entry that is printed
  pub header : length b.header ≡ length b.printed
  -- each column that it names is carried on its side
  pub columns : Each (λ c. IsCarried b c.side c.at) (named b)
  pub whole : IsWhole (plain_of b.filter)
  pub keys : PrintsKeys b.shape (printed_cols b.printed)
  -- the best value is printed in Group alone, and there once
  pub best : length (filter is_best b.printed) ≡ bests_of b.shape
  pub sums : SumsNumbers b b.shape
  pub alike : KeysAlike b b.shape
