-- The registers of a packed program between the runs of its programs.
use Rattle.std.specs.Prelude.{◌≡◌, ℕ, ◌++◌, List, length, take, drop}
use Rattle.ch_ir.specs.declared.program.Program.{Program}
use Rattle.ch_ir.specs.Machine.{Registers, cleared}
use Rattle.ch_pack_laws.specs.Packed.{all_arrays}

-- The arrays from this program's on are cleared; those of the programs before it hold anything
pub record AreClearedFrom (ps : List Program) (q : ℕ) (registers : Registers) : Type 0 where
  pub used : Registers
  pub many : length used ≡ length (all_arrays (take q ps))
  pub rest : registers ≡ used ++ cleared (all_arrays (drop q ps))
