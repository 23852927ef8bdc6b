-- What a pipeline holds.
use Rattle.std.specs.Prelude.{ℕ, List, [], ◌∷◌, max}
use Rattle.ch_ir.specs.declared.program.Array.{Array}
use Rattle.ch_ir.specs.declared.program.Program.{Program}
use Rattle.ch_ir.specs.Machine.{Registers}

pub record Installed : Type 0 where
  pub program : Program
  pub registers : Registers

-- the cells of the widest entry
abbrev pub widest : List Array → ℕ
widest [] = 0
widest (x ∷ xs) = max x.cells (widest xs)
