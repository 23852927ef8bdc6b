-- What a run is started with, and what it needs of that.
use Rattle.std.specs.Prelude.{◌≡◌, ◌≤◌, ◌<◌, ◌+◌, ◌^◌, ℕ, Bool, true, length, Option, None, All, FitsSigned}
use Rattle.std.specs.Int.{w64}
use Rattle.ch_cover.specs.Rows.{Row}
use Rattle.ch_ir.specs.declared.program.Program.{Program}
use Rattle.ch_ir.specs.Machine.{Registers, cleared}
use Rattle.ch_pred.specs.declared.bound.Bound.{Bound}
use Rattle.ch_verdicts.specs.declared.Slot.{Slot}
use Rattle.ch_verdicts.specs.Agrees.{Agrees}
use Rattle.ch_verdicts.specs.Handed.{HasPlaces, IsPass, IsSlot}
use Rattle.ch_words.specs.Rows.{Gate}
use Rattle.ch_prune.specs.Sent.{is_sent}
use Rattle.ch_plan.specs.Kinds.{kind_program}
use Rattle.ch_plan.specs.declared.kind.PlanKind.{PlanKind}
use Rattle.ch_ends.specs.Packets.{side_of}
use Rattle.ch_protocol.specs.Machine.{Config, seen, size, workers}

-- the protocol's configuration, the program with the place of its selector, the registers that the run began with, and
-- the test that its rows pass
pub record Given : Type 0 where
  pub config : Config
  pub program : Program
  pub slot : Option Slot
  pub begun : Registers
  pub is_row : Row → Bool

-- a row with its pass that the program has places for, and that passes the test
pub record Fits (g : Given) (x : ℕ × Row) : Type 0 where
  pub pass : IsPass x.0
  pub side : x.1.side ≤ 1
  pub few : length x.1.words ≤ 16
  pub places : HasPlaces g.slot g.program.width (length x.1.words)
  pub words : All (FitsSigned w64) x.1.words
  pub row : g.is_row x.1 ≡ true

-- the parts and the window of a run
pub record AreParts (c : Config) : Type 0 where
  pub many : workers c ≤ 65536
  pub window : (1 ≤ c.window) × (c.window < 2 ^ 32)
  pub sizes : (w : ℕ) → w < workers c → size c w + 1 < 2 ^ 32
  pub sides : (w : ℕ) → side_of c w ≤ 1

-- what a run may be started with
pub record IsPlanned (g : Given) : Type 0 where
  pub parts : AreParts g.config
  pub slotted : IsSlot g.slot g.program.width
  pub rows : (pass w k : ℕ) → IsPass pass → w < workers g.config → k < size g.config w → Fits g (seen g.config (record { pass = pass; worker = w; number = k }))
  pub begun : Agrees g.is_row g.program g.slot g.begun g.config.prunes
  pub cleared : Agrees g.is_row g.program g.slot (cleared g.program.arrays) g.config.prunes

-- a plan alone on its switch
abbrev pub given_of : PlanKind → Gate → Bound → Config → Given
given_of k gate b c = record { config = c; program = kind_program k; slot = None; begun = cleared (kind_program k).arrays; is_row = is_sent gate b }
