-- Worked steps: sums by key (7: 2 and 3; 8: 5), with one row more of a key that is there or of a new one, best values and firsts.
use Rattle.std.specs.Prelude.{◌≡◌, true, false, ℤ, pos, List, [], ◌∷◌, ◌++◌, Some, map, position, slice_set, take}
use Rattle.std.specs.Ordering.{int_cmp, is_eq}
use Rattle.std.specs.Cmp.Lexicographic.{slice_cmp}
use Rattle.ch_lists.specs.Ordered.{placed, ordered}
use Rattle.ch_pred.specs.Meaning.{best_of, total, values_of}
use Rattle.ch_pred.specs.Values.{words}
use Rattle.ch_fold_laws.specs.Kept.{with_key, better, value_of}

abbrev pub seven : List ℤ
seven = pos 7 ∷ []

abbrev pub eight : List ℤ
eight = pos 8 ∷ []

abbrev pub one : List ℤ
one = pos 1 ∷ []

abbrev pub groups : List (List ℤ × ℤ)
groups = (seven, pos 2) ∷ (eight, pos 5) ∷ (seven, pos 3) ∷ []

pub record WorkedSteps : Type 0 where
  pub sums : map (value_of total groups) (seven ∷ eight ∷ []) ≡ pos 5 ∷ pos 5 ∷ []
  pub found : position (λ k. is_eq (slice_cmp int_cmp eight k)) (seven ∷ eight ∷ []) ≡ Some 1
  pub there : slice_set (pos 5 ∷ pos 5 ∷ []) 1 (total (values_of int_cmp groups eight ++ pos 4 ∷ [])) ≡ pos 5 ∷ pos 9 ∷ []
  pub there_again : map (value_of total (groups ++ (eight, pos 4) ∷ [])) (seven ∷ eight ∷ []) ≡ pos 5 ∷ pos 9 ∷ []
  pub new : map (value_of total (groups ++ (one, pos 6) ∷ [])) (seven ∷ eight ∷ one ∷ []) ≡ pos 5 ∷ pos 5 ∷ pos 6 ∷ []
  pub keys_same : with_key (slice_cmp int_cmp) (seven ∷ eight ∷ []) eight ≡ seven ∷ eight ∷ []
  pub keys_more : with_key (slice_cmp int_cmp) (seven ∷ eight ∷ []) one ≡ seven ∷ eight ∷ one ∷ []
  pub greatest : better true (best_of words true (pos 2 ∷ pos 5 ∷ pos 3 ∷ [])) (pos 4) ≡ pos 5
  pub least : better false (best_of words false (pos 2 ∷ pos 5 ∷ pos 3 ∷ [])) (pos 1) ≡ pos 1
  pub firsts : take 2 (placed int_cmp (pos 3) (take 2 (ordered int_cmp (pos 5 ∷ pos 2 ∷ pos 4 ∷ [])))) ≡ pos 2 ∷ pos 3 ∷ []
