-- Two small programs in one: the first counts the rows whose bit is set, and prunes all but the first of them; the second
-- prunes rows whose bit isn't set.
use Rattle.std.specs.Prelude.{◌≡◌, ℕ, Bool, true, false, List, [], ◌∷◌, ℤ, pos, Option, Some}
use Rattle.ch_ir.specs.declared.program.Operand.TheVariants.{Word, Const}
use Rattle.ch_ir.specs.declared.program.Binary.TheVariants.{Eq}
use Rattle.ch_ir.specs.declared.program.Op.TheVariants.{Two}
use Rattle.ch_ir.specs.declared.program.Test.TheVariants.{Always}
use Rattle.ch_ir.specs.declared.program.Update.TheVariants.{Keep, AddSat}
use Rattle.ch_ir.specs.declared.program.Program.{Program}
use Rattle.ch_ir.specs.Machine.{Outcome, Registers, machine}
use Rattle.ch_ir.specs.Measure.{sizes_of}
use Rattle.ch_ir.specs.Rules.{BreaksNoRule}
use Rattle.ch_pack_laws.specs.Packed.{packed}

abbrev pub counting : Program
counting = record {
  width = 4;
  arrays = record { entries = 1; cells = 1 } ∷ [];
  stages = record {
    ops = [];
    accesses = record { array = 0; index = Const (pos 0); guard = Word 2; test = Always; key = []; yes = AddSat (Const (pos 1)) ∷ []; no = Keep ∷ []; old = 4; hit = 5 } ∷ [];
  } ∷ [];
  verdict = 4;
}

abbrev pub by_bit : Program
by_bit = record { width = 3; arrays = []; stages = record { ops = Two 3 Eq (Word 2) (Const (pos 0)) ∷ []; accesses = [] } ∷ []; verdict = 3 }

abbrev pub both : Program
both = packed (counting ∷ by_bit ∷ [])

-- a row of pass 1 with one word, for the program of this number
abbrev pub row : ℕ → ℕ → List ℤ
row bit number = pos 1 ∷ pos 0 ∷ pos bit ∷ pos 9 ∷ pos number ∷ []

abbrev pub counted : ℕ → Registers
counted n = ((pos n ∷ []) ∷ []) ∷ []

abbrev pub gives : Bool → ℕ → Option Outcome
gives prune n = Some (record { prune = prune; registers = counted n })

pub record TwoPacked : Type 0 where
  pub first_row : machine both (counted 0) (row 1 0) ≡ gives false 1
  pub second_row : machine both (counted 1) (row 1 0) ≡ gives true 2
  pub shut : machine both (counted 1) (row 0 0) ≡ gives false 1
  pub set_bit : machine both (counted 1) (row 1 1) ≡ gives false 1
  pub clear_bit : machine both (counted 1) (row 0 1) ≡ gives true 1
  pub unbroken : BreaksNoRule both
  -- 5 given words, 2 chosen, 1 guard and 6 words, 1 guard and 4 words, and 3 of the joined verdict
  pub sizes : sizes_of both ≡ record { width = 5; cells = 1; words = 22; stages = 6; ops = 3 }
