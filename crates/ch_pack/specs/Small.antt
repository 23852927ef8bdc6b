-- Parts of a program whose moved word and array numbers fit their type.
use Rattle.std.specs.Prelude.{◌<◌, ◌≤◌, ◌+◌, ◌^◌, ℕ, List, [], ◌∷◌, length}
use Rattle.ch_ir.specs.declared.program.Op.{Op}
use Rattle.ch_ir.specs.declared.program.Access.{Access}
use Rattle.ch_ir.specs.declared.program.Operand.{Operand}
use Rattle.ch_ir.specs.declared.program.Program.{Program}
use Rattle.ch_ir.specs.declared.program.Stage.{Stage}
use Rattle.ch_ir.specs.declared.program.Update.{Update}
use Rattle.ch_ir.specs.Measure.{op_end, operand_end}
use Rattle.ch_ir.specs.Rules.{update_operand}
use Rattle.ch_pack_laws.specs.declared.Seat.{Seat}
use Rattle.ch_pack_laws.specs.Packed.{free_after, seat_of}

abbrev pub OperandsSmall : Seat → List Operand → Type 0
OperandsSmall m [] = Unit {0}
OperandsSmall m (a ∷ rest) = (operand_end a + m.shift ≤ 2 ^ 32) × OperandsSmall m rest

abbrev pub UpdatesSmall : Seat → List Update → Type 0
UpdatesSmall m [] = Unit {0}
UpdatesSmall m (u ∷ us) = OperandsSmall m (update_operand u) × UpdatesSmall m us

abbrev pub OpsSmall : Seat → List Op → Type 0
OpsSmall m [] = Unit {0}
OpsSmall m (op ∷ ops) = (op_end op + m.shift ≤ 2 ^ 32) × OpsSmall m ops

pub record AccessSmall (m : Seat) (x : Access) : Type 0 where
  pub index : operand_end x.index + m.shift ≤ 2 ^ 32
  pub guard : operand_end x.guard + m.shift ≤ 2 ^ 32
  pub key : OperandsSmall m x.key
  pub yes : UpdatesSmall m x.yes
  pub no : UpdatesSmall m x.no
  pub old : x.old + m.shift < 2 ^ 32
  pub hit : x.hit + m.shift < 2 ^ 32
  pub array : m.base + x.array < 2 ^ 32

abbrev pub AccessesSmall : Seat → List Access → Type 0
AccessesSmall m [] = Unit {0}
AccessesSmall m (x ∷ xs) = AccessSmall m x

abbrev pub StagesSmall : Seat → List Stage → Type 0
StagesSmall m [] = Unit {0}
StagesSmall m (t ∷ ts) = (OpsSmall m t.ops × AccessesSmall m t.accesses) × StagesSmall m ts

pub record ProgramSmall (free base chosen : ℕ) (p : Program) : Type 0 where
  pub stages : StagesSmall (seat_of p free base chosen) p.stages
  pub next_free : free_after free p < 2 ^ 32
  pub next_base : base + length p.arrays < 2 ^ 32
  pub next_chosen : chosen + 1 < 2 ^ 32

-- programs in turn, each in its seat
abbrev pub ProgramsSmall : ℕ → ℕ → ℕ → List Program → Type 0
ProgramsSmall free base chosen [] = Unit {0}
ProgramsSmall free base chosen (p ∷ ps) = ProgramSmall free base chosen p × ProgramsSmall (free_after free p) (base + length p.arrays) (chosen + 1) ps

-- their verdicts, and the words that join them
pub record VerdictSmall (free chosen : ℕ) (p : Program) : Type 0 where
  pub verdict : p.verdict + (free + length p.stages) < 2 ^ 32
  pub next_free : free_after free p < 2 ^ 32
  pub next_chosen : chosen + 1 < 2 ^ 32

abbrev pub VerdictsSmall : ℕ → ℕ → List Program → Type 0
VerdictsSmall free chosen [] = Unit {0}
VerdictsSmall free chosen (p ∷ ps) = VerdictSmall free chosen p × VerdictsSmall (free_after free p) (chosen + 1) ps
