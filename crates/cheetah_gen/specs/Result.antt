-- What the command comes to, from its words.
use Rattle.std.specs.Prelude.{◌≡◌, ◌⊎◌, ℕ, false, List, Option, Some, None}
use Rattle.ch_command.specs.Call.{Call, Change, Faults}
use Rattle.ch_command.specs.Command.{Command, answered, misused, refused}
use Rattle.ch_command.specs.declared.outcome.Ending.{Ending}
use Rattle.ch_command.specs.declared.outcome.Ending.TheVariants.{Done, Usage, Input, Rejected, Open}
use Rattle.ch_command.specs.declared.outcome.Outcome.{Outcome}
use Rattle.ch_generated.specs.Inputs.{command_words}
use Rattle.ch_generated.specs.Request.{request_of, usage_line}
use Rattle.ch_generated.specs.declared.InputKind.{InputKind}
use Rattle.ch_generated.specs.declared.Request.{Request}
use Rattle.ch_outside.specs.Shelf.{Files}
use Rattle.cheetah.specs.Result as cheetah
use Rattle.cheetah_gen_words.specs.Files.{files_told}
use Rattle.cheetah_gen_words.specs.Summary.{summary}

-- The command within.

-- `cheetah`, with the words that ask for the query over them
abbrev pub inner_command : Request → Command
inner_command request = cheetah.command_of (command_words request.kind)

-- an answer is summed up on out, and nothing else is put there
abbrev pub summed_up : InputKind → Ending → List ℕ → List ℕ → Outcome
summed_up kind Done text counts = answered (summary kind text counts)
summed_up kind Usage text line = refused Usage line
summed_up kind Input text line = refused Input line
summed_up kind Rejected text line = refused Rejected line
summed_up kind Open text line = refused Open line

abbrev pub sum_of : InputKind → Outcome → Outcome
sum_of kind inner = summed_up kind inner.ending inner.out inner.err

-- the command within comes to something over the generated files, and this sums it up
pub record SumsUp (request : Request) (outcome : Outcome) : Type 0 where
  pub inner : Outcome
  pub comes : (inner_command request).comes_to (files_told request) inner
  pub sum : outcome ≡ sum_of request.kind inner

-- words that ask for these inputs; they name no file
abbrev pub summing : Request → Command
summing request = record { comes_to = λ files outcome. SumsUp request outcome; is_misuse = false; names = λ file. ⊥ }

abbrev pub command_for : Option Request → Command
command_for None = misused (λ line. line ≡ usage_line)
command_for (Some request) = summing request

abbrev pub command_of : List (List ℕ) → Command
command_of words = command_for (request_of words)

-- A call of a command that reads no file.

abbrev pub no_files : Files
no_files name = None

abbrev pub no_faults : Faults
no_faults = record { before = 0; now = 0 }

abbrev pub call_of : Change → Change → ℕ → Call
call_of out err status = record { told = Some no_files; shelf = no_faults; out = out; err = err; status = status }

-- its statuses: 2, 3, 4 and 5 never come
abbrev pub IsStatus : ℕ → Type 0
IsStatus status = (status ≡ 0) ⊎ ((status ≡ 1) ⊎ ((status ≡ 6) ⊎ (status ≡ 7)))
