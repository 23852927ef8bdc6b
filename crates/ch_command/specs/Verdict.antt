-- What a command has to say, and how it is said.
use Rattle.std.specs.Prelude.{◌≡◌, ◌⊎◌, ◌≤◌, ℕ, false, List, [], All, Contains, length, Option, Some, IfSome, Result, Ok, Err}
use Rattle.ch_outside.specs.Shelf.{Files}
use Rattle.ch_command.specs.Call.{Change, Failed, Faults, Gains, GainsPrefix}
use Rattle.ch_command.specs.Command.{Command, refused}
use Rattle.ch_command.specs.Lines.{memory_line, read_fault_line, write_fault_line}
use Rattle.ch_command.specs.Reading.{contents_of, most_bytes, read_all}
use Rattle.ch_command.specs.Status.{is_usage}
use Rattle.ch_command.specs.declared.outcome.Ending.TheVariants.{Usage, Input}
use Rattle.ch_command.specs.declared.outcome.Outcome.{Outcome}
use Rattle.ch_command.specs.declared.status.Status.{Status}
use Rattle.ch_command.specs.declared.status.Status.TheVariants as status
use Rattle.ch_command.specs.declared.verdict.Misuse.{Misuse}
use Rattle.ch_command.specs.declared.verdict.Misuse.TheVariants as misuse
use Rattle.ch_command.specs.declared.verdict.Verdict.{Verdict}
use Rattle.ch_command.specs.declared.verdict.Verdict.TheVariants.{Said, ReadFault, Memory}

-- an outcome, unless memory ran out
abbrev pub verdict_of : {E : Type 0} → Result Outcome E → Verdict
verdict_of (Ok outcome) = Said outcome
verdict_of (Err memory) = Memory

-- why words are refused
abbrev pub misuse_verdict : Misuse → Verdict
misuse_verdict (misuse.Line line) = Said (refused Usage line)
misuse_verdict misuse.Memory = Memory

-- What a read gives.

-- the bytes of a named file, the line that refuses it, or that the shelf failed
abbrev pub ReadsFile : Option Files → Faults → List ℕ → ℕ → Result (List ℕ) Verdict → Type 0
ReadsFile told shelf name limit (Ok bytes) = (length bytes ≤ limit) × IfSome told (λ files. contents_of name limit (files name) ≡ Ok bytes)
ReadsFile told shelf name limit (Err (Said outcome)) = (outcome ≡ refused Input outcome.err) × IfSome told (λ files. contents_of name limit (files name) ≡ Err outcome.err)
ReadsFile told shelf name limit (Err (ReadFault line)) = Failed shelf × (line ≡ read_fault_line name)
ReadsFile told shelf name limit (Err Memory) = Unit {0}

-- the bytes of files
pub record AreRead (told : Option Files) (names : List (List ℕ)) (contents : List (List ℕ)) : Type 0 where
  pub all : length contents ≡ length names
  pub small : All (λ bytes. length bytes ≤ most_bytes) contents
  pub told_so : IfSome told (λ files. read_all files names ≡ Ok contents)

-- one of these files wasn't read
pub record NamesOne (names : List (List ℕ)) (line : List ℕ) : Type 0 where
  pub file : List ℕ
  pub named : Contains names file
  pub said : line ≡ read_fault_line file

-- the same of several files, which are read in turn
abbrev pub ReadsFiles : Option Files → Faults → List (List ℕ) → Result (List (List ℕ)) Verdict → Type 0
ReadsFiles told shelf names (Ok contents) = AreRead told names contents
ReadsFiles told shelf names (Err (Said outcome)) = (outcome ≡ refused Input outcome.err) × IfSome told (λ files. read_all files names ≡ Err outcome.err)
ReadsFiles told shelf names (Err (ReadFault line)) = Failed shelf × NamesOne names line
ReadsFiles told shelf names (Err Memory) = Unit {0}

-- What a command must have to say.

-- the files that are told give this outcome
abbrev pub Gives : Option Files → Command → Outcome → Type 0
Gives told command outcome = (files : Files) → told ≡ Some files → command.comes_to files outcome

-- the words name the file that wasn't read
pub record NamesFile (command : Command) (line : List ℕ) : Type 0 where
  pub file : List ℕ
  pub named : command.names file
  pub said : line ≡ read_fault_line file

abbrev pub Fits : Option Files → Faults → Command → Verdict → Type 0
Fits told shelf command (Said outcome) = (is_usage outcome.ending ≡ command.is_misuse) × Gives told command outcome
Fits told shelf command (ReadFault line) = Failed shelf × NamesFile command line × (command.is_misuse ≡ false)
Fits told shelf command Memory = Unit {0}

-- How it is said.

-- want of memory: err says so where it takes the line
abbrev pub GivesUp : Change → Status → Type 0
GivesUp err found =
    ((found ≡ status.Memory) × (Gains err [] ⊎ Gains err memory_line))
    ⊎ ((found ≡ status.WriteFault) × Failed err.faults × GainsPrefix err memory_line)

-- a text on err, with a status; or memory ran out, or err failed
abbrev pub Says : List ℕ → Status → Change → Status → Type 0
Says text wanted err found =
    ((found ≡ wanted) × Gains err text)
    ⊎ (GivesUp err found
    ⊎ ((found ≡ status.WriteFault) × Failed err.faults × GainsPrefix err text))

-- out failed at a text: err says so where it takes the line
abbrev pub Breaks : List ℕ → Change → Change → Status → Type 0
Breaks text out err found = (found ≡ status.WriteFault) × Failed out.faults × GainsPrefix out text × GainsPrefix err write_fault_line

-- an outcome is put on out, and then on err
abbrev pub Writes : Outcome → Change → Change → Status → Type 0
Writes outcome out err found =
    (Gains out outcome.out × Says outcome.err (status.Ended outcome.ending) err found)
    ⊎ (Breaks outcome.out out err found
    ⊎ (Gains out [] × GivesUp err found))

abbrev pub Ends : Verdict → Change → Change → Status → Type 0
Ends (Said outcome) out err found = Writes outcome out err found
Ends (ReadFault line) out err found = Gains out [] × Says line status.ReadFault err found
Ends Memory out err found = Gains out [] × GivesUp err found
