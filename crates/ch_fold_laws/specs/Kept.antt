-- What is kept of the rows that came.
use Rattle.std.specs.Prelude.{Bool, List, [], ◌∷◌, ◌++◌, if◌then◌else◌, ℤ}
use Rattle.std.specs.declared.cmp.Ordering.{Ordering}
use Rattle.std.specs.Ordering.{is_lt, int_cmp}
use Rattle.ch_lists.specs.Ordered.{is_among, directed}
use Rattle.ch_pred.specs.Meaning.{values_of}

-- a new key goes to the end
abbrev pub with_key : {X : Type 0} → (X → X → Ordering) → List X → X → List X
with_key cmp keys x = if is_among cmp x keys then keys else keys ++ x ∷ []

-- the better of two values
abbrev pub better : Bool → ℤ → ℤ → ℤ
better max v w = if is_lt (directed max int_cmp v w) then v else w

-- what is made of the values of a key
abbrev pub value_of : {V : Type 0} → (List ℤ → V) → List (List ℤ × ℤ) → List ℤ → V
value_of made groups key = made (values_of int_cmp groups key)
