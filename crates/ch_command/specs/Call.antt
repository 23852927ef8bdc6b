-- A call of a command: what it was given, what it left, and the promise that ties them.
use Rattle.std.specs.Prelude.{◌≡◌, ◌⊎◌, ℕ, true, List, [], ◌++◌, Option, Some}
use Rattle.ch_outside.specs.Faults.{Rose}
use Rattle.ch_outside.specs.Shelf.{Files}
use Rattle.ch_outside.specs.Sink.{with_more}
use Rattle.ch_command.specs.Command.{Command}
use Rattle.ch_command.specs.Lines.{memory_line, read_fault_line, write_fault_line}
use Rattle.ch_command.specs.Status.{code_of}
use Rattle.ch_command.specs.declared.outcome.Outcome.{Outcome}

-- a count of faults before a call and after it
pub record Faults : Type 0 where
  pub before : ℕ
  pub now : ℕ

-- what a sink had written before a call and after it, where it tells, and its faults
pub record Change : Type 0 where
  pub old : Option (List ℕ)
  pub new : Option (List ℕ)
  pub faults : Faults

-- both of an object, by what it tells
abbrev pub faults_of : {S : Type 0} → (S → ℕ) → S → S → Faults
faults_of faults old new = record { before = faults old; now = faults new }

abbrev pub change_of : {S : Type 0} → (S → Option (List ℕ)) → (S → ℕ) → S → S → Change
change_of written faults old new = record { old = written old; new = written new; faults = faults_of faults old new }

-- what the shelf tells, its faults, what became of both sinks, and the status
pub record Call : Type 0 where
  pub told : Option Files
  pub shelf : Faults
  pub out : Change
  pub err : Change
  pub status : ℕ

abbrev pub Failed : Faults → Type 0
Failed faults = Rose faults.before faults.now

-- these bytes were added, and no others
abbrev pub Gains : Change → List ℕ → Type 0
Gains sink bytes = sink.new ≡ with_more sink.old bytes

-- a prefix of these bytes was added
abbrev pub GainsPrefix : Change → List ℕ → Type 0
GainsPrefix sink bytes = (part : List ℕ) × (rest : List ℕ) × (part ++ rest ≡ bytes) × Gains sink part

-- status, out and err are those that the command comes to over the files
pub record IsResult (command : Command) (files : Files) (call : Call) : Type 0 where
  pub outcome : Outcome
  pub comes : command.comes_to files outcome
  pub status : call.status ≡ code_of outcome.ending
  pub out : Gains call.out outcome.out
  pub err : Gains call.err outcome.err

-- out gained what the command comes to
pub record GainsWhole (command : Command) (files : Files) (call : Call) : Type 0 where
  pub outcome : Outcome
  pub comes : command.comes_to files outcome
  pub out : Gains call.out outcome.out

-- Memory ran out. Out gained nothing or the whole, and err nothing or the line that says so
pub record RanOut (command : Command) (files : Files) (call : Call) : Type 0 where
  pub status : call.status ≡ 7
  pub out : Gains call.out [] ⊎ GainsWhole command files call
  pub err : Gains call.err [] ⊎ Gains call.err memory_line

-- The shelf failed to read a file that the words name
pub record FailedAt (command : Command) (call : Call) (file : List ℕ) : Type 0 where
  pub named : command.names file
  pub failed : Failed call.shelf
  pub out : Gains call.out []

-- which err says
pub record ReadFailed (command : Command) (call : Call) : Type 0 where
  pub status : call.status ≡ 5
  pub file : List ℕ
  pub at : FailedAt command call file
  pub err : Gains call.err (read_fault_line file)

-- Out failed. It gained a prefix of what the command comes to, and err what it took of the line that says so
pub record OutFailed (command : Command) (files : Files) (call : Call) : Type 0 where
  pub failed : Failed call.out.faults
  pub outcome : Outcome
  pub comes : command.comes_to files outcome
  pub out : GainsPrefix call.out outcome.out
  pub err : GainsPrefix call.err write_fault_line

-- Err failed at what the command comes to. Out gained the whole
pub record ErrFailed (command : Command) (files : Files) (call : Call) : Type 0 where
  pub failed : Failed call.err.faults
  pub outcome : Outcome
  pub comes : command.comes_to files outcome
  pub out : Gains call.out outcome.out
  pub err : GainsPrefix call.err outcome.err

-- Err failed at the line that says that memory ran out. Out gained nothing or the whole
pub record MemoryUnsaid (command : Command) (files : Files) (call : Call) : Type 0 where
  pub failed : Failed call.err.faults
  pub out : Gains call.out [] ⊎ GainsWhole command files call
  pub err : GainsPrefix call.err memory_line

-- Err failed at the line that says which file wasn't read
pub record FaultUnsaid (command : Command) (call : Call) : Type 0 where
  pub failed : Failed call.err.faults
  pub file : List ℕ
  pub at : FailedAt command call file
  pub err : GainsPrefix call.err (read_fault_line file)

-- A sink failed
pub record WriteFailed (command : Command) (files : Files) (call : Call) : Type 0 where
  pub status : call.status ≡ 6
  pub at : OutFailed command files call ⊎ (ErrFailed command files call ⊎ (MemoryUnsaid command files call ⊎ FaultUnsaid command call))

-- The headline, where the shelf tells its bytes.
pub record Headline (command : Command) (call : Call) (files : Files) : Type 0 where
  -- where no count of faults rose it is what the command comes to over the files, or memory ran out
  pub exact : (Failed call.shelf → ⊥) → (Failed call.out.faults → ⊥) → (Failed call.err.faults → ⊥) → IsResult command files call ⊎ RanOut command files call
  -- whatever failed, it is that, or it says what failed
  pub faulty : IsResult command files call ⊎ (RanOut command files call ⊎ (ReadFailed command call ⊎ WriteFailed command files call))

-- When a status comes, whether the shelf and the sinks tell their bytes or not.
pub record Causes (command : Command) (call : Call) : Type 0 where
  -- 1 exactly where the words are no command, while no put failed and memory is left
  pub misuse : call.status ≡ 1 → command.is_misuse ≡ true
  pub misused : command.is_misuse ≡ true → (call.status ≡ 1) ⊎ ((call.status ≡ 6) ⊎ (call.status ≡ 7))
  -- 5 and 6 only where a count of faults rose, and with 5 out gained nothing
  pub read_fault : call.status ≡ 5 → Failed call.shelf × Gains call.out []
  pub write_fault : call.status ≡ 6 → Failed call.out.faults ⊎ Failed call.err.faults

-- What a call of the command promises.
pub record Promise (command : Command) (call : Call) : Type 0 where
  pub headline : (files : Files) → call.told ≡ Some files → Headline command call files
  pub causes : Causes command call
