-- The rows of a part, one after another.
use Rattle.std.proofs.Common.{◌≡◌, ℕ, ◌+◌, ◌≤◌, Bool, true, false, List, ◌∷◌, length, arith}
use Rattle.std.proofs.lemmas.Bool.Decides.{nat_tests}
use Rattle.ch_tables.specs.Reading.{IsReading, PartReader, Takes, records_left}
use Rattle.ch_tables.specs.Refusal.{rows_refusal}
use Rattle.ch_tables.specs.declared.error.Room.{Room}

-- what a read took
pub taken : (before : List (List (List ℕ))) (found : Bool) (fields : List (List ℕ)) (after : PartReader) → Takes before found fields after → found ≡ true
    → IsReading after × (before ≡ fields ∷ records_left after)
taken before true fields after t e = t
taken before false fields after t e = cc

-- a row that isn't refused
pub rows_refusal-step : (room : Room) (part width row rows cells : ℕ) (fields : List (List ℕ)) (more : List (List (List ℕ)))
    → length fields ≡ width → rows + 1 ≤ room.rows → cells + width ≤ room.cells
    → rows_refusal room part width row rows cells (fields ∷ more) ≡ rows_refusal room part width (row + 1) (rows + 1) (cells + width) more
rows_refusal-step room part width row rows cells fields more a b c = grind (arith, nat_tests)
