-- What the audit has to say, by what it asked for.
use Rattle.std.proofs.Common.{◌≡◌, List, Result, Ok, Err, ℕ}
use Rattle.std.specs.Result.{IfOk}
use Rattle.ch_command.proofs.Verdicts.{misuse_fits}
use Rattle.ch_command.specs.Call.{Faults}
use Rattle.ch_command.specs.Verdict.{Fits, misuse_verdict}
use Rattle.ch_command.specs.declared.outcome.Outcome.{Outcome}
use Rattle.ch_command.specs.declared.verdict.Misuse.{Misuse}
use Rattle.ch_command.specs.declared.verdict.Misuse.TheVariants as misuse
use Rattle.ch_outside.specs.Shelf.{Files}
use Rattle.std.specs.Prelude.{Option}
use Rattle.cheetah_audit_meaning.specs.Meaning.{command_for}
use Rattle.cheetah_audit_words.specs.Words.{Asks, Wish, usage_line}
use Rattle.cheetah_audit_words.specs.Words.Wish.{Asking, Misused}
use Rattle.cheetah_inputs.proofs.Meanings.{contents_read}
use Rattle.cheetah_inputs.specs.Inputs.{AfterGiven, AreInputs, OfContents, given_of}
use Rattle.cheetah_inputs.specs.declared.inputs.Inputs.{Inputs}
use Rattle.cheetah_words.specs.Words.{Request}
use Rattle.cheetah_audit.specs.Result.{runs}

pub refused_fits : (told : Option Files) (shelf : Faults) (asked : Wish) (why : Misuse) → Asks asked (Err why) → Fits told shelf (command_for runs asked) (misuse_verdict why)
refused_fits told shelf Misused (misuse.Line line) asks = misuse_fits told shelf (λ line. line ≡ usage_line) line asks.1
refused_fits told shelf (Asking task request) (misuse.Line line) asks = let wrong = asks.0 in absurd cc
refused_fits told shelf asked misuse.Memory asks = tt

-- what comes to something over the inputs comes to it over the contents that give them
pub over_contents : {E : Type 0} (request : Request) (contents : List (List ℕ)) (next : AfterGiven) (inputs : Inputs) (judged : Result Outcome E) → AreInputs request contents inputs
    → IfOk judged (λ outcome. next (given_of inputs) outcome) → IfOk judged (λ outcome. OfContents request next contents outcome)
over_contents request contents next inputs (Ok outcome) are comes = contents_read request contents next inputs outcome are comes
over_contents request contents next inputs (Err memory) are comes = tt
