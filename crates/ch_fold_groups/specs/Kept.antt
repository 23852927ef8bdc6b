-- Keys with values, and what is kept of them.
use Rattle.std.specs.Prelude.{◌≡◌, ◌^◌, ◌-◌, List, ℤ, pos, negsuc, ◌≤ℤ◌, map}
use Rattle.std.specs.Ordering.{int_cmp}
use Rattle.ch_lists.specs.Members.{AreDifferent}
use Rattle.ch_lists.specs.Ordered.{SameBag}
use Rattle.ch_pred.specs.Meaning.{different_keys}
use Rattle.ch_fold_laws.specs.Kept.{value_of}

-- keys, each with a value
pub record Valued (V : Type 0) : Type 0 where
  pub keys : List (List ℤ)
  pub values : List V

-- the different keys of some pairs, in whatever order, each with what is made of its values
pub record KeepsGroups {V : Type 0} (made : List ℤ → V) (groups : List (List ℤ × ℤ)) (kept : Valued V) : Type 0 where
  pub different : AreDifferent kept.keys
  pub keys : SameBag kept.keys (different_keys int_cmp groups)
  pub values : kept.values ≡ map (value_of made groups) kept.keys

-- a word of 64 bits
pub record IsWord (w : ℤ) : Type 0 where
  pub low : negsuc (2 ^ 63 - 1) ≤ℤ w
  pub high : w ≤ℤ pos (2 ^ 63 - 1)
