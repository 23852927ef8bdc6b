-- Worked rows of Having: keys and values, whose sum is to be above a number, and keys that are counted.
use Rattle.std.specs.Prelude.{◌≡◌, ℕ, ℤ, pos, Bool, true, false, Option, Some, None, List, [], ◌∷◌, ◌++◌, map}
use Rattle.ch_cover.specs.Rows.{Row}
use Rattle.ch_ir.specs.Machine.{cleared, verdicts}
use Rattle.ch_verdicts.specs.Agrees.{judged}
use Rattle.op_moves.specs.Values.{row_words}
use Rattle.op_having.specs.declared.sizes.Sizes.{Sizes}
use Rattle.op_having.specs.Policy.{prunes}
use Rattle.op_having.specs.Program.{program, arrays_of}

abbrev pub row : List ℤ → Row
row words = record { side = 0; bit = true; words = words }

-- a row whose gate fails
abbrev pub shut : List ℤ → Row
shut words = record { side = 0; bit = false; words = words }

-- all rows in the first pass, and again in the second
abbrev pub twice : List Row → List (ℕ × Row)
twice rows = map (λ r. (1, r)) rows ++ map (λ r. (2, r)) rows

-- the policy's verdicts, and the program's from cleared registers
abbrev pub judged_by : Sizes → List Row → List Bool
judged_by d rows = judged (prunes d) [] (twice rows)

abbrev pub run_by : Sizes → List Row → Option (List Bool)
run_by d rows = verdicts (program d) (cleared (arrays_of d)) (map row_words (twice rows))

abbrev pub Are : Sizes → List Row → List Bool → Type 0
Are d rows bs = (judged_by d rows ≡ bs) × (run_by d rows ≡ Some bs)

-- a key at place 3 and a value at place 4
abbrev pub summed : (hashes cells : ℕ) → ℤ → Sizes
summed hashes cells above = record { width = 5; hashes = hashes; cells = cells; keys = 3 ∷ []; value = Some 4; above = above }

abbrev pub counted : ℤ → Sizes
counted above = record { width = 4; hashes = 3; cells = 8; keys = 3 ∷ []; value = None; above = above }

-- the rows (a, 6), (a, 4) and (b, 1)
abbrev pub six_four_one : List Row
six_four_one = row (pos 0 ∷ pos 6 ∷ []) ∷ row (pos 0 ∷ pos 4 ∷ []) ∷ row (pos 1 ∷ pos 1 ∷ []) ∷ []

-- the same with (b, 9), whose bit isn't set
abbrev pub with_shut : List Row
with_shut = shut (pos 1 ∷ pos 9 ∷ []) ∷ six_four_one

-- four rows of the greatest cell word: their sum is 2^63 - 4, and 2^63 - 1 with three rows more
abbrev pub greatest : Row
greatest = row (pos 0 ∷ pos 2305843009213693951 ∷ [])

abbrev pub beyond : List Row
beyond = greatest ∷ greatest ∷ greatest ∷ greatest ∷ greatest ∷ greatest ∷ greatest ∷ []

abbrev pub keys : List Row
keys = row (pos 0 ∷ []) ∷ row (pos 0 ∷ []) ∷ row (pos 1 ∷ []) ∷ []

pub record WorkedRows : Type 0 where
  -- on one cell the estimate of each key is 11
  pub above_ten : Are (summed 1 1 (pos 10)) six_four_one (true ∷ true ∷ true ∷ false ∷ false ∷ false ∷ [])
  pub above_eleven : Are (summed 1 1 (pos 11)) six_four_one (true ∷ true ∷ true ∷ true ∷ true ∷ true ∷ [])
  -- a row whose gate fails counts nothing, and is pruned
  pub shut_row : Are (summed 1 1 (pos 11)) with_shut (true ∷ true ∷ true ∷ true ∷ true ∷ true ∷ true ∷ true ∷ [])
  -- on two arrays of eight cells the keys are apart: b's least sum is 1
  pub apart : Are (summed 2 8 (pos 9)) six_four_one (true ∷ true ∷ true ∷ false ∷ false ∷ true ∷ [])
  -- a sum stays at the largest word
  pub saturated : Are (summed 1 1 (pos 2305843009213693951)) beyond (true ∷ true ∷ true ∷ true ∷ true ∷ true ∷ true ∷ false ∷ false ∷ false ∷ false ∷ false ∷ false ∷ false ∷ [])
  pub counted_rows : Are (counted (pos 1)) keys (true ∷ true ∷ true ∷ false ∷ false ∷ true ∷ [])
