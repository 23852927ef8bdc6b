-- Worked lists of rows, on which policy and program have the same verdicts.
use Rattle.std.specs.Prelude.{◌≡◌, ℕ, ℤ, pos, neg_ℤ, Bool, true, false, List, [], ◌∷◌, map, Some, None}
use Rattle.ch_cover.specs.Rows.{Row}
use Rattle.ch_ir.specs.Machine.{cleared, verdicts}
use Rattle.ch_verdicts.specs.Agrees.{judged}
use Rattle.ch_verdicts.specs.Handed.{handed}
use Rattle.op_topn.specs.Emitted.{arrays_of, top_program}
use Rattle.op_topn.specs.Policy.{top_policy}
use Rattle.op_topn.specs.declared.sizes.Sizes.{Sizes}

-- LIMIT 2 with one threshold, one above the least of the first two
abbrev pub two_rows : Bool → Sizes
two_rows descending = record { width = 4; steps = 1; gap = 1; value = 3; descending = descending; limit = 2 }

abbrev pub open_row : ℤ → ℕ × Row
open_row v = (1, record { side = 0; bit = true; words = v ∷ [] })

abbrev pub shut_row : ℤ → ℕ × Row
shut_row v = (1, record { side = 0; bit = false; words = v ∷ [] })

-- both have these verdicts on the rows in turn
pub record HaveVerdicts (s : Sizes) (rows : List (ℕ × Row)) (pruned : List Bool) : Type 0 where
  pub policy : judged (top_policy s) [] rows ≡ pruned
  pub program : verdicts (top_program s) (cleared (arrays_of s)) (map (λ x. handed None x.0 x.1) rows) ≡ Some pruned

abbrev pub of_numbers : List ℕ → List (ℕ × Row)
of_numbers vs = map (λ v. open_row (pos v)) vs

pub record Verdicts : Type 0 where
  -- the least of the first two is 4, so that 1 is pruned
  pub top : HaveVerdicts (two_rows true) (of_numbers (4 ∷ 9 ∷ 9 ∷ 1 ∷ 9 ∷ [])) (false ∷ false ∷ false ∷ true ∷ false ∷ [])
  -- two later values reach 5, so that the second 4 is pruned, and 5 is kept
  pub second : HaveVerdicts (two_rows true) (of_numbers (4 ∷ 9 ∷ 9 ∷ 9 ∷ 4 ∷ 5 ∷ [])) (false ∷ false ∷ false ∷ false ∷ true ∷ false ∷ [])
  -- a tie with the least is kept while too few values are above it
  pub tie : HaveVerdicts (two_rows true) (of_numbers (4 ∷ 9 ∷ 4 ∷ 9 ∷ 4 ∷ [])) (false ∷ false ∷ false ∷ false ∷ false ∷ [])
  pub negative : HaveVerdicts (two_rows true) (map (λ v. open_row (neg_ℤ (pos v))) (7 ∷ 3 ∷ 9 ∷ 5 ∷ [])) (false ∷ false ∷ true ∷ false ∷ [])
  pub ascending : HaveVerdicts (two_rows false) (of_numbers (7 ∷ 3 ∷ 9 ∷ 5 ∷ [])) (false ∷ false ∷ true ∷ false ∷ [])
  -- rows that don't pass the front are pruned and counted nowhere
  pub shut : HaveVerdicts (two_rows true) (shut_row (pos 9) ∷ open_row (pos 4) ∷ shut_row (pos 9) ∷ open_row (pos 1) ∷ open_row (pos 0) ∷ []) (true ∷ false ∷ true ∷ false ∷ true ∷ [])
