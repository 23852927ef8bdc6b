-- When a command must be answered.
use Rattle.std.specs.Prelude.{◌≡◌, ◌⊎◌, ℕ, true, List, None, Some, Ok}
use Rattle.ch_command.specs.Call.{Call, Failed}
use Rattle.ch_command.specs.Reading.{read_all}
use Rattle.ch_outside.specs.Shelf.{Files}
use Rattle.ch_protocol.specs.Machine.{stopped}
use Rattle.cheetah_inputs.specs.Inputs.{AreInputs, Given, given_of, names_of}
use Rattle.cheetah_inputs.specs.Limits.{limit_exceeded}
use Rattle.cheetah_inputs.specs.declared.inputs.Inputs.{Inputs}
use Rattle.cheetah_run.specs.Running.{config_of, last_state}
use Rattle.cheetah_words.specs.Words.{Asking, Request, wish_of}

-- each worker is confirmed in the last pass
abbrev pub IsConfirmed : Given → Type 0
IsConfirmed given = stopped (config_of given) (last_state given) ≡ true

-- no run is asked for, or its schedule ends in drain, or it confirms
abbrev pub IsBroughtHome : Request → Given → Type 0
IsBroughtHome request given = (request.plan ≡ true) ⊎ ((given.schedule.drain ≡ true) ⊎ IsConfirmed given)

-- the words are taken, every file is there and within its limits, every text is accepted, every need is within the profile,
-- and the schedule brings every row home
pub record IsAnswerable (words : List (List ℕ)) (files : Files) : Type 0 where
  pub request : Request
  pub contents : List (List ℕ)
  pub inputs : Inputs
  pub taken : wish_of words ≡ Asking request
  pub there : read_all files (names_of request) ≡ Ok contents
  pub accepted : AreInputs request contents inputs
  pub within : limit_exceeded (given_of inputs).query inputs.profile ≡ None
  pub home : IsBroughtHome request (given_of inputs)

-- what must be answered is, where no count of faults rose, unless memory ran out
abbrev pub IsComplete : List (List ℕ) → Call → Type 0
IsComplete words call = (files : Files) → call.told ≡ Some files → IsAnswerable words files
    → (Failed call.shelf → ⊥) → (Failed call.out.faults → ⊥) → (Failed call.err.faults → ⊥) → (call.status ≡ 0) ⊎ (call.status ≡ 7)
