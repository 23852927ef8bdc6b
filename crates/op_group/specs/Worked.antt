-- Worked verdicts: of the program from cleared registers, by the real hash, and of the policy.
use Rattle.std.specs.Prelude.{◌≡◌, ℕ, Bool, true, false, List, [], ◌∷◌, map, ℤ, pos, negsuc, Option, Some}
use Rattle.ch_cover.specs.Rows.{Row}
use Rattle.ch_ir.specs.Machine.{cleared, verdicts}
use Rattle.ch_verdicts.specs.Agrees.{judged}
use Rattle.op_moves.specs.Values.{row_words}
use Rattle.op_group.specs.Sizes.{Sizes}
use Rattle.op_group.specs.Policy.{group_policy}
use Rattle.op_group.specs.Program.{arrays_of, group_program}

-- a key of one word and its value, in one hash row
abbrev pub one_row : ℕ → Bool → Sizes
one_row cols is_max = record { width = 5; rows = 1; cols = cols; key = 3 ∷ []; value = 4; is_max = is_max }

-- a key of two words
abbrev pub two_words : Sizes
two_words = record { width = 6; rows = 1; cols = 2; key = 3 ∷ 4 ∷ []; value = 5; is_max = true }

abbrev pub row : Bool → List ℤ → ℕ × Row
row bit words = (1, record { side = 0; bit = bit; words = words })

abbrev pub pair : ℕ → ℤ → ℕ × Row
pair k v = row true (pos k ∷ v ∷ [])

abbrev pub given : List (ℕ × Row) → Sizes → Option (List Bool)
given rows s = verdicts (group_program s) (cleared (arrays_of s)) (map row_words rows)

-- a is 0 and b is 1: (a,3), (a,2), (b,1), (a,1)
abbrev pub greatest_rows : List (ℕ × Row)
greatest_rows = pair 0 (pos 3) ∷ pair 0 (pos 2) ∷ pair 1 (pos 1) ∷ pair 0 (pos 1) ∷ []

-- values below 0 and above, of one key
abbrev pub signed_rows : List (ℕ × Row)
signed_rows = pair 0 (negsuc 2) ∷ pair 0 (negsuc 4) ∷ pair 0 (negsuc 2) ∷ pair 0 (pos 1) ∷ pair 0 (negsuc 4) ∷ []

-- a row whose bit isn't set is pruned, and enters no list
abbrev pub shut_rows : List (ℕ × Row)
shut_rows = row false (pos 0 ∷ pos 9 ∷ []) ∷ pair 0 (pos 1) ∷ []

abbrev pub wide_rows : List (ℕ × Row)
wide_rows = row true (pos 1 ∷ pos 2 ∷ pos 5 ∷ []) ∷ row true (pos 1 ∷ pos 3 ∷ pos 4 ∷ []) ∷ row true (pos 1 ∷ pos 2 ∷ pos 4 ∷ []) ∷ row true (pos 1 ∷ pos 3 ∷ pos 5 ∷ []) ∷ []

pub record Worked : Type 0 where
  pub replaces : given greatest_rows (one_row 1 true) ≡ Some (false ∷ true ∷ false ∷ false ∷ [])
  pub both_listed : given greatest_rows (one_row 2 true) ≡ Some (false ∷ true ∷ false ∷ true ∷ [])
  pub greatest : given signed_rows (one_row 1 true) ≡ Some (false ∷ true ∷ true ∷ false ∷ true ∷ [])
  pub least : given signed_rows (one_row 1 false) ≡ Some (false ∷ false ∷ true ∷ true ∷ true ∷ [])
  pub shut : given shut_rows (one_row 1 true) ≡ Some (true ∷ false ∷ [])
  pub keys : given wide_rows two_words ≡ Some (false ∷ false ∷ true ∷ false ∷ [])
  pub policy : judged (group_policy (one_row 1 true)) [] greatest_rows ≡ false ∷ true ∷ false ∷ false ∷ []
