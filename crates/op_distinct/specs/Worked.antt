-- Worked verdicts: of the program from cleared registers, by the real hash, and of the policy.
use Rattle.std.specs.Prelude.{◌≡◌, ℕ, Bool, true, false, List, [], ◌∷◌, map, ℤ, pos, Option, Some}
use Rattle.ch_cover.specs.Rows.{Row}
use Rattle.ch_ir.specs.Machine.{cleared, verdicts}
use Rattle.ch_verdicts.specs.Agrees.{judged}
use Rattle.op_moves.specs.Values.{row_words}
use Rattle.op_distinct.specs.Sizes.{Sizes}
use Rattle.op_distinct.specs.Program.{arrays_of, distinct_program}
use Rattle.op_distinct.specs.Serving.{distinct_policy}

-- keys of the first column, in one hash row
abbrev pub one_row : ℕ → Sizes
one_row cols = record { width = 4; rows = 1; cols = cols; key = 3 ∷ [] }

-- keys of two columns
abbrev pub two_words : Sizes
two_words = record { width = 5; rows = 1; cols = 2; key = 3 ∷ 4 ∷ [] }

abbrev pub row : Bool → List ℤ → ℕ × Row
row bit words = (1, record { side = 0; bit = bit; words = words })

abbrev pub given : List (ℕ × Row) → Sizes → Option (List Bool)
given rows s = verdicts (distinct_program s) (cleared (arrays_of s)) (map row_words rows)

abbrev pub cached_rows : List (ℕ × Row)
cached_rows = row true (pos 5 ∷ []) ∷ row true (pos 5 ∷ []) ∷ row true (pos 7 ∷ []) ∷ row true (pos 5 ∷ []) ∷ []

abbrev pub latest_rows : List (ℕ × Row)
latest_rows = row true (pos 1 ∷ []) ∷ row true (pos 2 ∷ []) ∷ row true (pos 1 ∷ []) ∷ row true (pos 3 ∷ []) ∷ row true (pos 1 ∷ []) ∷ []

-- a row whose bit isn't set is pruned, and enters no list
abbrev pub shut_rows : List (ℕ × Row)
shut_rows = row false (pos 1 ∷ []) ∷ row true (pos 1 ∷ []) ∷ []

abbrev pub pair_rows : List (ℕ × Row)
pair_rows = row true (pos 1 ∷ pos 2 ∷ []) ∷ row true (pos 1 ∷ pos 3 ∷ []) ∷ row true (pos 1 ∷ pos 2 ∷ []) ∷ row true (pos 2 ∷ pos 3 ∷ []) ∷ row true (pos 1 ∷ pos 3 ∷ []) ∷ []

pub record Worked : Type 0 where
  pub one_cached : given cached_rows (one_row 1) ≡ Some (false ∷ true ∷ false ∷ false ∷ [])
  pub latest_first : given latest_rows (one_row 2) ≡ Some (false ∷ false ∷ true ∷ false ∷ true ∷ [])
  pub shut_first : given shut_rows (one_row 1) ≡ Some (true ∷ false ∷ [])
  pub pairs : given pair_rows two_words ≡ Some (false ∷ false ∷ true ∷ false ∷ false ∷ [])
  pub policy : judged (distinct_policy (one_row 2)) [] latest_rows ≡ false ∷ false ∷ true ∷ false ∷ true ∷ []
