-- The registers as one list, the arrays one behind the other.
use Rattle.std.specs.Prelude.{◌≡◌, ℕ, zero, suc, ◌+◌, ◌*◌, List, [], ◌∷◌, ℤ, take, drop}
use Rattle.ch_ir.specs.declared.program.Array.{Array}
use Rattle.ch_ir.specs.Machine.{Registers}

-- so many entries of so many cells from the front of a list
abbrev pub entries_in : ℕ → ℕ → List ℤ → List (List ℤ)
entries_in zero cells flat = []
entries_in (suc n) cells flat = take cells flat ∷ entries_in n cells (drop cells flat)

-- a flat list cut up into the arrays
abbrev pub cut : List Array → List ℤ → Registers
cut [] flat = []
cut (x ∷ xs) flat = entries_in x.entries x.cells flat ∷ cut xs (drop (x.entries * x.cells) flat)

-- the cells of all arrays
abbrev pub all_cells : List Array → ℕ
all_cells [] = 0
all_cells (x ∷ xs) = x.entries * x.cells + all_cells xs

-- where each array begins, the first of them at this place
abbrev pub bases_from : ℕ → List Array → List ℕ
bases_from at [] = []
bases_from at (x ∷ xs) = at ∷ bases_from (at + x.entries * x.cells) xs

-- where an array begins
abbrev pub base_of : List Array → ℕ → ℕ
base_of [] a = 0
base_of (x ∷ xs) zero = 0
base_of (x ∷ xs) (suc a) = x.entries * x.cells + base_of xs a

-- the arrays' bases, and so many cells as they have
pub record IsLaid (arrays : List Array) (bases : List ℕ) (size : ℕ) : Type 0 where
  pub bases_are : bases ≡ bases_from 0 arrays
  pub size_is : size ≡ all_cells arrays
