-- The state of the protocol that a run is in.
use Rattle.std.specs.Prelude.{◌≡◌, ℕ, false, List}
use Rattle.ch_pred.specs.declared.bound.Bound.{Bound}
use Rattle.ch_protocol.specs.Machine.{Config, State, Event, IsReached, run, stopped}
use Rattle.ch_survival.specs.Given.{Given, IsPlanned}
use Rattle.ch_engine.specs.Stands.{Stands}
use Rattle.ch_engine.specs.declared.engine.Engine.{Engine}

-- what a run was begun with: a query with its dictionary, and the protocol's configuration with the program and its registers
pub record Begun : Type 0 where
  pub texts : List (List ℕ)
  pub query : Bound
  pub given : Given

-- the run began so, and is in this state, which the protocol reaches
pub record IsRunOf (q : Begun) (x : Engine) (s : State) : Type 0 where
  pub ranks_are : x.ranks.now ≡ q.texts
  pub bound_is : x.bound.now ≡ q.query
  pub planned : IsPlanned q.given
  pub reached : IsReached q.given.config s
  pub stands : Stands q.given x s

-- each run is in some state
pub record IsRunning (x : Engine) : Type 0 where
  pub begun : Begun
  pub state : State
  pub is : IsRunOf begun x state

-- from each state that the old run is in, the new one is in what f makes of it
abbrev pub LeadsTo : Engine → Engine → (Config → State → State) → Type 0
LeadsTo old new f = (q : Begun) (s : State) → IsRunOf q old s → IsRunOf q new (f q.given.config s)

-- the new one is in what some events make of it
abbrev pub LeadsOn : Engine → Engine → Type 0
LeadsOn old new = (q : Begun) (s : State) → IsRunOf q old s → (events : List Event) × IsRunOf q new (run q.given.config events s)

-- the run hasn't stopped
abbrev pub IsGoing : Engine → Type 0
IsGoing x = (q : Begun) (s : State) → IsRunOf q x s → stopped q.given.config s ≡ false
