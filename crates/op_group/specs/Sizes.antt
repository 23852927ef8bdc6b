-- The sizes of a Group, and the places of its key and its value.
use Rattle.std.specs.Prelude.{◌≡◌, ◌≤◌, ℕ, Bool, true, List, length}
use Rattle.std.specs.List.{list_all}
use Rattle.op_moves.specs.Values.{is_place}

-- width       how many words a row is given by, with its pass, side and bit
-- rows, cols  how many hash rows there are, and how many pairs each lists at most
-- key, value  the places of the key's words, and of the value
-- is_max      MAX, and not MIN
pub record Sizes : Type 0 where
  pub width : ℕ
  pub rows : ℕ
  pub cols : ℕ
  pub key : List ℕ
  pub value : ℕ
  pub is_max : Bool

pub record IsFine (s : Sizes) : Type 0 where
  pub wide : 3 ≤ s.width
  pub narrow : s.width ≤ 20
  pub places : list_all (is_place s.width) s.key ≡ true
  pub value_place : is_place s.width s.value ≡ true
  pub few : length s.key ≤ 16
  pub some_rows : 1 ≤ s.rows
  pub some_cols : 1 ≤ s.cols
  pub few_cols : s.cols ≤ 16
