-- Worked rows of a join on few Bloom cells: a key at place 3 and a word that is printed.
use Rattle.std.specs.Prelude.{◌≡◌, ℕ, pos, Bool, true, false, Option, Some, List, [], ◌∷◌, ◌++◌, map}
use Rattle.ch_cover.specs.Rows.{Row}
use Rattle.ch_ir.specs.Machine.{cleared, verdicts}
use Rattle.ch_verdicts.specs.Agrees.{judged}
use Rattle.op_moves.specs.Values.{row_words}
use Rattle.op_bloom.specs.declared.sizes.Sizes.{Sizes}
use Rattle.op_bloom.specs.Program.{bloom_arrays}
use Rattle.op_join.specs.Policy.{prunes}
use Rattle.op_join.specs.Program.{program}

abbrev pub row : ℕ → (key other : ℕ) → Row
row side key other = record { side = side; bit = true; words = pos key ∷ pos other ∷ [] }

-- a row whose gate fails
abbrev pub shut : ℕ → (key other : ℕ) → Row
shut side key other = record { side = side; bit = false; words = pos key ∷ pos other ∷ [] }

-- all rows in the first pass, and again in the second
abbrev pub twice : List Row → List (ℕ × Row)
twice rows = map (λ r. (1, r)) rows ++ map (λ r. (2, r)) rows

-- the policy's verdicts, and the program's from cleared registers
abbrev pub judged_by : Sizes → List Row → List Bool
judged_by d rows = judged (prunes d) [] (twice rows)

abbrev pub run_by : Sizes → List Row → Option (List Bool)
run_by d rows = verdicts (program d) (cleared (bloom_arrays d)) (map row_words (twice rows))

abbrev pub Are : Sizes → List Row → List Bool → Type 0
Are d rows bs = (judged_by d rows ≡ bs) × (run_by d rows ≡ Some bs)

abbrev pub joined : (hashes cells : ℕ) → Sizes
joined hashes cells = record { width = 5; hashes = hashes; cells = cells; left = 3; right = 3 }

-- the keys 1, 1 and 2 of one table and 1, 1 and 3 of the other, whose bits are 0, 19 and 24
abbrev pub two_tables : List Row
two_tables = row 0 1 10 ∷ row 0 1 11 ∷ row 0 2 12 ∷ row 1 1 20 ∷ row 1 1 21 ∷ row 1 3 22 ∷ []

-- the key 2 in both tables, with the gate of one side's row failing
abbrev pub with_shut : List Row
with_shut = shut 0 2 10 ∷ row 1 2 20 ∷ []

-- the key of side 1 at another place
abbrev pub apart : Sizes
apart = record { width = 5; hashes = 2; cells = 3; left = 3; right = 4 }

abbrev pub turned : List Row
turned = row 0 1 7 ∷ row 1 8 1 ∷ row 1 1 8 ∷ []

pub record WorkedRows : Type 0 where
  pub on_one_cell : Are (joined 1 1) two_tables (true ∷ true ∷ true ∷ true ∷ true ∷ true ∷ false ∷ false ∷ true ∷ false ∷ false ∷ true ∷ [])
  pub on_two_cells : Are (joined 3 2) two_tables (true ∷ true ∷ true ∷ true ∷ true ∷ true ∷ false ∷ false ∷ true ∷ false ∷ false ∷ true ∷ [])
  -- a row whose gate fails tells the other side nothing, and is pruned
  pub shut_row : Are (joined 1 1) with_shut (true ∷ true ∷ true ∷ true ∷ [])
  pub at_places : Are apart turned (true ∷ true ∷ true ∷ false ∷ false ∷ true ∷ [])
