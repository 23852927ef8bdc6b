-- What the pipeline makes of stages, and what keeps it in range.
use Rattle.std.specs.Prelude.{◌<◌, ◌≤◌, ℕ, List, [], ◌∷◌, ℤ, length}
use Rattle.ch_ir.specs.declared.program.Array.{Array}
use Rattle.ch_ir.specs.declared.program.Access.{Access}
use Rattle.ch_ir.specs.declared.program.Stage.{Stage}
use Rattle.ch_ir.specs.Machine.{cells_of, Registers}
use Rattle.ch_ir.specs.Rules.{entries_of}
use Rattle.ch_pipe.specs.Total.{total_ops, OpsRoom}
use Rattle.ch_pipe.specs.Entry.{total_words, total_registers, AccessRoom, AccessCan}

pub record Held : Type 0 where
  pub words : List ℤ
  pub registers : Registers

abbrev pub total_access : ℕ → Access → Held → Held
total_access cells x h = record { words = total_words cells x h.words h.registers; registers = total_registers x h.words h.registers }

abbrev pub total_accesses : List Array → List Access → Held → Held
total_accesses arrays [] h = h
total_accesses arrays (x ∷ xs) h = total_accesses arrays xs (total_access (cells_of arrays x.array) x h)

abbrev pub total_stage : List Array → Stage → Held → Held
total_stage arrays s h = total_accesses arrays s.accesses (record { words = total_ops s.ops h.words; registers = h.registers })

abbrev pub total_stages : List Array → List Stage → Held → Held
total_stages arrays [] h = h
total_stages arrays (s ∷ ss) h = total_stages arrays ss (total_stage arrays s h)

-- n words, room for the cells of an entry
abbrev pub AccessesCan : (n room : ℕ) → List Array → List Access → Held → Type 0
AccessesCan n room arrays [] h = Unit {0}
AccessesCan n room arrays (x ∷ xs) h = (x.array < length arrays) × (cells_of arrays x.array ≤ room) × AccessCan n (cells_of arrays x.array) x h.words h.registers
    × AccessesCan n room arrays xs (total_access (cells_of arrays x.array) x h)

abbrev pub StagesCan : (n room : ℕ) → List Array → List Stage → Held → Type 0
StagesCan n room arrays [] h = Unit {0}
StagesCan n room arrays (s ∷ ss) h = OpsRoom n s.ops × AccessesCan n room arrays s.accesses (record { words = total_ops s.ops h.words; registers = h.registers })
    × StagesCan n room arrays ss (total_stage arrays s h)

abbrev pub AccessesRoom : (n room : ℕ) → List Array → List Access → Type 0
AccessesRoom n room arrays [] = Unit {0}
AccessesRoom n room arrays (x ∷ xs) = (x.array < length arrays) × (0 < entries_of arrays x.array) × (cells_of arrays x.array ≤ room) × AccessRoom n (cells_of arrays x.array) x × AccessesRoom n room arrays xs

-- what `measure` and the shapes give
abbrev pub StagesRoom : (n room : ℕ) → List Array → List Stage → Type 0
StagesRoom n room arrays [] = Unit {0}
StagesRoom n room arrays (t ∷ ts) = OpsRoom n t.ops × AccessesRoom n room arrays t.accesses × StagesRoom n room arrays ts
