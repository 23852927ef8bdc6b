-- An array by its number.
use Rattle.std.proofs.Common.{◌≡◌, ◌<◌, ◌≤◌, ℕ, zero, suc, List, [], ◌∷◌, refl, arith, length, get_or}
use Rattle.ch_ir.specs.declared.program.Array.{Array}
use Rattle.ch_ir.specs.Machine.{cells_of}
use Rattle.ch_ir.specs.Rules.{entries_of}

pub cells_at : (arrays : List Array) (a : ℕ) (d : Array) → a < length arrays → cells_of arrays a ≡ (get_or arrays a d).cells
cells_at [] a d h = absurd (omega arith)
cells_at (x ∷ xs) zero d h = refl
cells_at (x ∷ xs) (suc a) d h = cells_at xs a d (omega arith)

pub entries_at : (arrays : List Array) (a : ℕ) (d : Array) → a < length arrays → entries_of arrays a ≡ (get_or arrays a d).entries
entries_at [] a d h = absurd (omega arith)
entries_at (x ∷ xs) zero d h = refl
entries_at (x ∷ xs) (suc a) d h = entries_at xs a d (omega arith)

pub cells_past : (arrays : List Array) (a : ℕ) → length arrays ≤ a → cells_of arrays a ≡ 0
cells_past [] a h = refl
cells_past (x ∷ xs) zero h = absurd (omega arith)
cells_past (x ∷ xs) (suc a) h = cells_past xs a (omega arith)

pub entries_past : (arrays : List Array) (a : ℕ) → length arrays ≤ a → entries_of arrays a ≡ 0
entries_past [] a h = refl
entries_past (x ∷ xs) zero h = absurd (omega arith)
entries_past (x ∷ xs) (suc a) h = entries_past xs a (omega arith)
