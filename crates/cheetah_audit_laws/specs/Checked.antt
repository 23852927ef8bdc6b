-- A run is written down, and what is written is checked.
use Rattle.std.specs.Prelude.{◌≡◌, ◌<◌, ◌⊎◌, ℕ, List, [], ◌∷◌, ◌++◌, codes, false, length, map, Some, unwrap_or}
use Rattle.ch_command.specs.Call.{Call, Failed, Gains}
use Rattle.ch_command.specs.Command.{refused}
use Rattle.ch_command.specs.Lines.{too_large_line}
use Rattle.ch_command.specs.Reading.{most_bytes, most_bytes_in_all, taken}
use Rattle.ch_command.specs.declared.outcome.Ending.TheVariants.{Done, Input}
use Rattle.ch_command.specs.declared.outcome.Outcome.{Outcome}
use Rattle.ch_lists.specs.Members.{Each, In}
use Rattle.ch_outside.specs.Shelf.{Files}
use Rattle.cheetah_audit_words.specs.Words.{profile_of}
use Rattle.cheetah_inputs.specs.Inputs.{listed, names_of}
use Rattle.cheetah_words.specs.Tables.{parts_in}
use Rattle.cheetah_words.specs.Words.{Request}

-- the words of the audit, but for the task and for the file behind the query
pub record Asked : Type 0 where
  pub program : List ℕ
  pub query : List ℕ
  pub profile : List ℕ
  pub tables : List (List ℕ)

-- the run along the schedule in this file is written
abbrev pub to_write : Asked → List ℕ → List (List ℕ)
to_write asked schedule = asked.program ∷ codes "write" ∷ asked.query ∷ schedule ∷ asked.profile ∷ asked.tables

-- the trace in this file is checked
abbrev pub to_check : Asked → List ℕ → List (List ℕ)
to_check asked trace = asked.program ∷ codes "check" ∷ asked.query ∷ trace ∷ asked.profile ∷ asked.tables

-- what both ask for, of their file
abbrev pub request_with : Asked → List ℕ → Request
request_with asked file = record { query = asked.query; profile = profile_of asked.profile; schedule = Some file; plan = false; tables = parts_in asked.tables }

-- the files of the profile and of the tables
abbrev pub other_files : Asked → List (List ℕ)
other_files asked = listed (profile_of asked.profile) ++ map (λ part. part.file) (parts_in asked.tables)

-- the file of the trace holds this text, and those of the profile and of the tables are as they were
pub record IsKept (asked : Asked) (trace text : List ℕ) (before after : Files) : Type 0 where
  pub holds : after trace ≡ Some text
  pub others : Each (λ file. after file ≡ before file) (other_files asked)

-- what the files of these names hold
abbrev pub texts_in : Files → List (List ℕ) → List (List ℕ)
texts_in files names = map (λ name. unwrap_or (files name) []) names

-- a file of a check is too large: the trace has more bytes than a file may have, or all files together have more than they may
pub record IsTooLarge (asked : Asked) (trace text : List ℕ) (files : Files) (file : List ℕ) : Type 0 where
  pub named : In file (names_of (request_with asked trace))
  pub large : (most_bytes < length text) ⊎ (most_bytes_in_all < taken (texts_in files (names_of (request_with asked trace))))

-- the trace is accepted, but for a file that is too large
abbrev pub Accepts : Asked → List ℕ → List ℕ → Files → Outcome → Type 0
Accepts asked trace text files told = (told.ending ≡ Done) ⊎ ((file : List ℕ) × IsTooLarge asked trace text files file × (told ≡ refused Input (too_large_line file)))

-- err says which file is too large, and out says nothing
pub record SaysTooLarge (asked : Asked) (trace text : List ℕ) (files : Files) (call : Call) : Type 0 where
  pub status : call.status ≡ 2
  pub file : List ℕ
  pub is : IsTooLarge asked trace text files file
  pub out : Gains call.out []
  pub err : Gains call.err (too_large_line file)

-- memory ran out, or the shelf or a sink failed
abbrev pub IsCutOff : Call → Type 0
IsCutOff call = (call.status ≡ 7) ⊎ (((call.status ≡ 5) × Failed call.shelf) ⊎ ((call.status ≡ 6) × (Failed call.out.faults ⊎ Failed call.err.faults)))

-- a call accepts the trace, but for a file that is too large, and unless it is cut off
abbrev pub CallAccepts : Asked → List ℕ → List ℕ → Files → Call → Type 0
CallAccepts asked trace text files call = (call.status ≡ 0) ⊎ (SaysTooLarge asked trace text files call ⊎ IsCutOff call)
