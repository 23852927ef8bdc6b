-- What a packed program promises of the programs in it.
use Rattle.std.specs.Prelude.{◌≡◌, ℕ, List, ◌++◌, ℤ, pos, Some, length, get_or, slice_get, slice_index}
use Rattle.std.specs.Option.{option_map}
use Rattle.ch_ir.specs.declared.program.Program.{Program}
use Rattle.ch_ir.specs.Machine.{Outcome, Registers, machine}

-- what a program makes of its own registers, between those of others
abbrev pub between : Registers → Registers → Outcome → Outcome
between front rest o = record { prune = o.prune; registers = front ++ (o.registers ++ rest) }

-- On words whose selector word is the number of a program, whatever the registers, the packed verdict is that program's on
-- its own arrays and on the words, of which it reads its width; its arrays become what it makes of them, and all others stay.
pub record Packs (ps : List Program) (p : Program) (selector : ℕ) (bases : List ℕ) : Type 0 where
  pub steps : (q : ℕ) (alone : Program) → slice_get ps q ≡ Some alone → (front own rest : Registers) (row : List ℤ) → length front ≡ slice_index bases q → length own ≡ length alone.arrays
      → get_or row selector (pos 0) ≡ pos q → machine p (front ++ (own ++ rest)) row ≡ option_map (between front rest) (machine alone own row)
