-- What the words of the command ask for.
use Rattle.std.specs.Prelude.{◌≡◌, ℕ, false, if◌then◌else◌, List, ◌∷◌, Option, Some, None, bytes_eq, codes, Result, Ok, Err}
use Rattle.ch_command.specs.declared.verdict.Misuse.{Misuse}
use Rattle.ch_command.specs.declared.verdict.Misuse.TheVariants as misuse
use Rattle.cheetah_words.specs.Tables.{parts_in, tables_refusal}
use Rattle.cheetah_words.specs.Words.{Request, request_of}
use Rattle.cheetah_audit_words.specs.declared.words.Errand.{Errand}
use Rattle.cheetah_audit_words.specs.declared.words.Task.{Task}
use Rattle.cheetah_audit_words.specs.declared.words.Task.TheVariants.{Write, Check}

abbrev pub usage_line : List ℕ
usage_line = codes "usage: cheetah_audit write or check, QUERY, FILE, PROFILE, NAME=FILE\n"

abbrev pub task_of : List ℕ → Option Task
task_of word = if bytes_eq word (codes "write") then Some Write else if bytes_eq word (codes "check") then Some Check else None

-- `-` is the default profile
abbrev pub profile_of : List ℕ → Option (List ℕ)
profile_of word = if bytes_eq word (codes "-") then None else Some word

pub data Wish : Type 0 where
  -- the words are no errand
  Misused : Wish
  -- a run is written or a trace is checked. The file of the schedule or the trace stands as the request's schedule
  Asking : Task → Request → Wish

-- what a task asks for, where no line refuses the table words
abbrev pub wish_with : Option Task → Option (List ℕ) → Request → Wish
wish_with None refusal request = Misused
wish_with (Some task) None request = Asking task request
wish_with (Some task) (Some line) request = Misused

-- `write QUERY SCHEDULE PROFILE NAME=FILE ..` and `check QUERY TRACE PROFILE NAME=FILE ..`, behind the program's name
abbrev pub wish_of : List (List ℕ) → Wish
wish_of (program ∷ task ∷ query ∷ file ∷ profile ∷ table ∷ tables) =
    wish_with (task_of task) (tables_refusal (table ∷ tables)) (record { query = query; profile = profile_of profile; schedule = Some file; plan = false; tables = parts_in (table ∷ tables) })
wish_of _ = Misused

-- an errand, as the code has it
abbrev pub wish_in : Errand → Wish
wish_in errand = Asking errand.task (request_of errand.asked)

-- what is asked, or the one line that refuses words
abbrev pub Asks : Wish → Result Errand Misuse → Type 0
Asks wanted (Ok errand) = wanted ≡ wish_in errand
Asks wanted (Err (misuse.Line line)) = (wanted ≡ Misused) × (line ≡ usage_line)
Asks wanted (Err misuse.Memory) = Unit {0}
