-- Worked rows of a semi-join on one Bloom cell: a key at place 3 and a word that is printed.
use Rattle.std.specs.Prelude.{◌≡◌, ℕ, pos, Bool, true, false, Option, Some, List, [], ◌∷◌, ◌++◌, map}
use Rattle.ch_cover.specs.Rows.{Row}
use Rattle.ch_ir.specs.Machine.{cleared, verdicts}
use Rattle.ch_verdicts.specs.Agrees.{judged}
use Rattle.op_moves.specs.Values.{row_words}
use Rattle.op_semi.specs.declared.sizes.Sizes.{Sizes}
use Rattle.op_semi.specs.Policy.{prunes}
use Rattle.op_semi.specs.Program.{arrays_of, program}

abbrev pub outer : (key other : ℕ) → Row
outer key other = record { side = 0; bit = true; words = pos key ∷ pos other ∷ [] }

abbrev pub inner : ℕ → Row
inner key = record { side = 1; bit = true; words = pos key ∷ [] }

-- an outer row that doesn't hold
abbrev pub shut : (key other : ℕ) → Row
shut key other = record { side = 0; bit = false; words = pos key ∷ pos other ∷ [] }

-- all rows in the first pass, and again in the second
abbrev pub twice : List Row → List (ℕ × Row)
twice rows = map (λ r. (1, r)) rows ++ map (λ r. (2, r)) rows

-- the policy's verdicts, and the program's from cleared registers
abbrev pub judged_by : Sizes → List Row → List Bool
judged_by d rows = judged (prunes d) [] (twice rows)

abbrev pub run_by : Sizes → List Row → Option (List Bool)
run_by d rows = verdicts (program d) (cleared (arrays_of d)) (map row_words (twice rows))

abbrev pub Are : Sizes → List Row → List Bool → Type 0
Are d rows bs = (judged_by d rows ≡ bs) × (run_by d rows ≡ Some bs)

abbrev pub listing : (rows cols : ℕ) → Sizes
listing rows cols = record { bloom = record { width = 5; hashes = 1; cells = 1; left = 3; right = 3 }; rows = rows; cols = cols }

-- the outer keys 1, 2 and 1, and the inner keys 1, 1 and 3
abbrev pub two_tables : List Row
two_tables = outer 1 10 ∷ outer 2 11 ∷ outer 1 12 ∷ inner 1 ∷ inner 1 ∷ inner 3 ∷ []

abbrev pub again : List Row
again = outer 1 10 ∷ outer 2 11 ∷ outer 3 12 ∷ inner 1 ∷ inner 2 ∷ inner 1 ∷ inner 3 ∷ inner 1 ∷ []

-- an inner key that no outer row has, and one whose outer row doesn't hold
abbrev pub unmatched : List Row
unmatched = outer 1 10 ∷ shut 2 11 ∷ inner 1 ∷ inner 3 ∷ inner 2 ∷ inner 1 ∷ []

pub record WorkedRows : Type 0 where
  pub one_key : Are (listing 1 1) two_tables (true ∷ true ∷ true ∷ true ∷ true ∷ true ∷ false ∷ true ∷ false ∷ false ∷ true ∷ true ∷ [])
  -- each outer row that may have an inner one is kept, and of two listed keys the latest used stays
  pub latest_used : Are (listing 1 2) again
      (true ∷ true ∷ true ∷ true ∷ true ∷ true ∷ true ∷ true ∷ false ∷ false ∷ false ∷ false ∷ false ∷ true ∷ false ∷ true ∷ [])
  -- inner rows that failed the Bloom test don't change the lists
  pub failed : Are (listing 1 1) unmatched (true ∷ true ∷ true ∷ true ∷ true ∷ true ∷ false ∷ true ∷ false ∷ true ∷ true ∷ true ∷ [])
  pub hash_rows : Are (listing 2 1) two_tables (true ∷ true ∷ true ∷ true ∷ true ∷ true ∷ false ∷ true ∷ false ∷ false ∷ true ∷ true ∷ [])
