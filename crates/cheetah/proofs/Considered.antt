-- What the command has to say, by what it asked for.
use Rattle.std.proofs.Common.{◌≡◌, List, Option, Result, Ok, Err, ℕ}
use Rattle.std.specs.Result.{IfOk}
use Rattle.ch_outside.specs.Shelf.{Files}
use Rattle.ch_command.proofs.Verdicts.{misuse_fits}
use Rattle.ch_command.specs.Call.{Faults}
use Rattle.ch_command.specs.Lines.{no_words_line}
use Rattle.ch_command.specs.Verdict.{Fits, misuse_verdict}
use Rattle.ch_command.specs.declared.verdict.Misuse.{Misuse}
use Rattle.ch_command.specs.declared.verdict.Misuse.TheVariants as misuse
use Rattle.ch_command.specs.declared.outcome.Outcome.{Outcome}
use Rattle.cheetah_inputs.proofs.Meanings.{contents_read}
use Rattle.cheetah_inputs.specs.Inputs.{AreInputs, OfContents, given_of}
use Rattle.cheetah_inputs.specs.declared.Inputs.{Inputs}
use Rattle.cheetah_words.specs.Words.{Asking, Asks, NoWords, Request, Wish, WrongTables, WrongWords}
use Rattle.cheetah.specs.Answering.{Answers}
use Rattle.cheetah.specs.Result.{command_for}

pub refused_fits : (told : Option Files) (shelf : Faults) (asked : Wish) (why : Misuse) → Asks asked (Err why) → Fits told shelf (command_for asked) (misuse_verdict why)
refused_fits told shelf NoWords (misuse.Line line) asks = misuse_fits told shelf (λ line. line ≡ no_words_line) line asks
refused_fits told shelf WrongWords (misuse.Line line) asks = misuse_fits told shelf (λ line. Unit {0}) line tt
refused_fits told shelf (WrongTables said) (misuse.Line line) asks = misuse_fits told shelf (λ line. line ≡ said) line asks
refused_fits told shelf (Asking request) (misuse.Line line) asks = absurd asks
refused_fits told shelf asked misuse.Memory asks = tt

-- what comes to something over the inputs comes to it over the contents that give them
pub over_contents : {E : Type 0} (request : Request) (contents : List (List ℕ)) (inputs : Inputs) (judged : Result Outcome E) → AreInputs request contents inputs
    → IfOk judged (λ outcome. Answers request.plan (given_of inputs) outcome) → IfOk judged (λ outcome. OfContents request (Answers request.plan) contents outcome)
over_contents request contents inputs (Ok outcome) are comes = contents_read request contents (Answers request.plan) inputs outcome are comes
over_contents request contents inputs (Err memory) are comes = tt
