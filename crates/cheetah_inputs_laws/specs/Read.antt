-- What comes behind inputs.
use Rattle.std.specs.Prelude.{◌≡◌, ◌⊎◌, ℕ, List}
use Rattle.ch_command.specs.declared.outcome.Outcome.{Outcome}
use Rattle.cheetah_inputs.specs.Inputs.{AfterGiven, AreInputs, Given, OfContents, given_of, never}
use Rattle.cheetah_inputs.specs.declared.inputs.Inputs.{Inputs}
use Rattle.cheetah_words.specs.Words.{Request}

-- the contents of a request's files give inputs, and this comes behind them
pub record IsRead (request : Request) (contents : List (List ℕ)) (next : AfterGiven) (outcome : Outcome) : Type 0 where
  pub inputs : Inputs
  pub are : AreInputs request contents inputs
  pub rest : next (given_of inputs) outcome

-- what is given is answered so
abbrev pub answering : (Given → Outcome) → AfterGiven
answering answer given outcome = outcome ≡ answer given

-- a refusal, whatever would come behind inputs; or what comes behind them
abbrev pub IsRefusedOrRead : Request → List (List ℕ) → AfterGiven → Outcome → Type 0
IsRefusedOrRead request contents next outcome = OfContents request never contents outcome ⊎ IsRead request contents next outcome
