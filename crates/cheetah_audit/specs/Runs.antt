-- The run of an audit.
use Rattle.std.specs.Prelude.{◌≡◌, ℕ, if◌then◌else◌, List, [], ◌∷◌}
use Rattle.ch_cells.specs.declared.outcome.OpenFlow.{OpenFlow}
use Rattle.ch_engine.specs.declared.engine.Engine.{Engine}
use Rattle.ch_protocol.specs.Machine.{Config, State, passes}
use Rattle.ch_run.specs.Runs.{Begun, IsRunOf, IsRunning}
use Rattle.ch_run.specs.declared.outcome.Outcome.{Outcome}
use Rattle.ch_run.specs.declared.outcome.Outcome.TheVariants.{Done, Open}

-- it is a run, and this is its last pass
pub record IsValid (x : Engine) (last : ℕ) : Type 0 where
  pub running : IsRunning x
  pub last_is : last ≡ (if x.two_passes then 2 else 1)

-- a run with this configuration is in this state, and this is its last pass
pub record IsAt (x : Engine) (last : ℕ) (c : Config) (s : State) : Type 0 where
  pub begun : Begun
  pub run : IsRunOf begun x s
  pub config : begun.given.config ≡ c
  pub last_is : last ≡ passes c

abbrev pub first_pass : List OpenFlow → ℕ → ℕ
first_pass [] last = last
first_pass (flow ∷ flows) last = flow.pass

-- the pass of what a run has come to
abbrev pub pass_said : Outcome → ℕ → ℕ
pass_said (Done counts) last = last
pass_said (Open flows) last = first_pass flows last
