-- What the verifier has checked.
use Rattle.std.specs.Prelude.{◌≡◌, ◌<◌, ◌≤◌, ℕ, ◌-◌, ◌^◌, false, List, [], ◌∷◌, ◌++◌, ℤ, Option, Some, length, map}
use Rattle.ch_ir.specs.declared.program.Program.{Program}
use Rattle.ch_ir.specs.declared.program.Access.{Access}
use Rattle.ch_ir.specs.declared.program.Stage.{Stage}
use Rattle.ch_ir.specs.Machine.{machine, Outcome, Registers}
use Rattle.ch_ir.specs.Measure.{most_ops}
use Rattle.ch_ir.specs.Rules.{BreaksNoRule, Used, none_used, with_array}
use Rattle.ch_verify.specs.Fits.{AllFits, AllStagesFit, RegistersFit}

-- The program breaks no rule, its constants and moduli are in the ranges of their types, and its numbers of stages and
-- of ops fit theirs.
pub record IsChecked (p : Program) : Type 0 where
  pub unbroken : BreaksNoRule p
  pub fits : AllStagesFit p.stages
  pub stages : length p.stages < 2 ^ 32 - 1
  pub ops : most_ops p.stages < 2 ^ 32 - 1

pub record HasValue (p : Program) (o : Option Outcome) : Type 0 where
  pub outcome : Outcome
  pub is : o ≡ Some outcome
  pub registers : RegistersFit p.arrays outcome.registers

-- on any words and any registers the machine has a value, and leaves registers of the same shape
abbrev pub AlwaysRuns : Program → Type 0
AlwaysRuns p = (registers : Registers) → RegistersFit p.arrays registers → (row : List ℤ) → AllFits row → HasValue p (machine p registers row)

-- at most one access in each stage
abbrev pub OneAccessEach : List Stage → Type 0
OneAccessEach [] = Unit {0}
OneAccessEach (t ∷ ts) = (length t.accesses ≤ 1) × OneAccessEach ts

-- the arrays that the stages access, in order
abbrev pub arrays_accessed : List Stage → List ℕ
arrays_accessed [] = []
arrays_accessed (t ∷ ts) = map (λ (x : Access). x.array) t.accesses ++ arrays_accessed ts

-- each array of the list is new: it isn't used, and doesn't stand before in the list
abbrev pub AllNew : Used → List ℕ → Type 0
AllNew used [] = Unit {0}
AllNew used (a ∷ rest) = (used a ≡ false) × AllNew (with_array used a) rest

-- each stage makes at most one access, and no two stages access one array
abbrev pub AccessesApart : Program → Type 0
AccessesApart p = OneAccessEach p.stages × AllNew none_used (arrays_accessed p.stages)
