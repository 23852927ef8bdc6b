-- Runs of queries whose plans are packed, one after the other.
use Rattle.std.specs.Prelude.{◌≡◌, ℕ, true, List, [], ◌∷◌}
use Rattle.ch_engine.specs.declared.engine.Engine.{Engine}
use Rattle.ch_ir.specs.declared.profile.Profile.{Profile}
use Rattle.ch_pack.specs.Plans.{IsPacked, programs_of}
use Rattle.ch_pack.specs.declared.packing.Packed.{Packed}
use Rattle.ch_pack_runs.specs.Cleared.{AreClearedFrom}
use Rattle.ch_pipe.specs.Installed.{Installed}
use Rattle.ch_plan.specs.Kinds.{IsPlanOf}
use Rattle.ch_plan.specs.declared.planned.Planned.{Planned}
use Rattle.ch_pred.specs.declared.bound.Bound.{Bound}
use Rattle.ch_protocol.specs.Drain.{drain}
use Rattle.ch_protocol.specs.Machine.{State, stopped}
use Rattle.ch_run.specs.Runs.{Begun, IsRunOf}
use Rattle.ch_tables.specs.TableValue.{TableValue}
use Rattle.cheetah_inputs.specs.Inputs.{drain_alone}
use Rattle.cheetah_inputs.specs.declared.inputs.Inputs.{Inputs}
use Rattle.cheetah_pack_meaning.specs.Asking.{AreAsked}

-- what the command that asks this query alone reads
abbrev pub inputs_alone : Profile → List TableValue → Bound → Inputs
inputs_alone profile tables b = record { profile = profile; schedule = drain_alone; tables = tables; bound = b }

-- a query that was read, and its plan
pub record IsAskedPlan (profile : Profile) (tables : List TableValue) (b : Bound) (p : Planned) : Type 0 where
  pub asked : AreAsked (inputs_alone profile tables b)
  pub plan : IsPlanOf p.kind b profile

-- each query has its plan
abbrev pub AreAskedPlans : Profile → List TableValue → List Bound → List Planned → Type 0
AreAskedPlans profile tables [] [] = Unit {0}
AreAskedPlans profile tables (b ∷ bounds) [] = ⊥
AreAskedPlans profile tables [] (p ∷ plans) = ⊥
AreAskedPlans profile tables (b ∷ bounds) (p ∷ plans) = IsAskedPlan profile tables b p × AreAskedPlans profile tables bounds plans

-- The plans' packed program stands on the pipe, and no run has touched the arrays of the plans from this number on
pub record IsInstalled (plans : List Planned) (profile : Profile) (selector number : ℕ) (pipe : Installed) : Type 0 where
  pub it : Packed
  pub packed : IsPacked plans profile it
  pub selects : selector ≡ it.selector
  pub program_is : pipe.program ≡ it.checked
  pub untouched : AreClearedFrom (programs_of plans) number pipe.registers

-- a run that has stopped
pub record HasStopped (x : Engine) : Type 0 where
  pub begun : Begun
  pub state : State
  pub is : IsRunOf begun x state
  pub stop : stopped begun.given.config state ≡ true

-- a run that a drain stops
pub record StopsDrained (x : Engine) : Type 0 where
  pub begun : Begun
  pub state : State
  pub is : IsRunOf begun x state
  pub stop : stopped begun.given.config (drain begun.given.config state) ≡ true

-- the program and registers are those of the switch of a run that is in this state
pub record IsLeft (q : Begun) (s : State) (pipe : Installed) : Type 0 where
  pub run : Engine
  pub is : IsRunOf q run s
  pub program : pipe.program ≡ run.switch.program
  pub registers : pipe.registers ≡ run.switch.registers
