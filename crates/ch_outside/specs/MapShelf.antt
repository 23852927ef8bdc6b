-- Files in memory.
use Rattle.std.specs.Prelude.{◌≡◌, ℕ, ◌+◌, List, [], ◌∷◌, length, nat_lt, Option, Some, None, Result, Ok, Err, is_ok, IsTrue, ◌⊎◌, if◌then◌else◌, bytes_eq, string_bytes}
use Rattle.std.specs.declared.string.String.{String}
use Rattle.std.specs.declared.alloc.Global.{Global}
use Rattle.ch_outside.specs.FaultPlan.{Plan, fails_next, after_call}
use Rattle.ch_outside.specs.declared.shelf.ShelfError.{ShelfError}
use Rattle.ch_outside.specs.declared.shelf.ShelfError.TheVariants.{Missing, Failed, TooLarge, Memory}

-- the files, each as its name and its bytes, and the calls that fail
pub record FilesInMemory : Type 0 where
  pub files : List (List ℕ × List ℕ)
  pub plan : Plan

-- a file of the program as its name and its bytes
abbrev pub named : String Global × List ℕ → List ℕ × List ℕ
named file = (string_bytes file.0, file.1)

-- the bytes of the first file of this name
abbrev pub bytes_at : List (List ℕ × List ℕ) → List ℕ → Option (List ℕ)
bytes_at [] name = None
bytes_at (file ∷ files) name = if bytes_eq name file.0 then Some file.1 else bytes_at files name

-- a file's bytes, within the limit
abbrev pub within : ℕ → Option (List ℕ) → Result (List ℕ) ShelfError
within limit None = Err Missing
within limit (Some bytes) = if nat_lt limit (length bytes) then Err (TooLarge (limit + 1)) else Ok bytes

-- what the next call answers where memory is there
abbrev pub answer_of : FilesInMemory → List ℕ → ℕ → Result (List ℕ) ShelfError
answer_of shelf name limit = if fails_next shelf.plan then Err Failed else within limit (bytes_at shelf.files name)

-- that answer, or want of memory in place of a file's bytes
abbrev pub Answers : FilesInMemory → List ℕ → ℕ → Result (List ℕ) ShelfError → Type 0
Answers shelf name limit answer =
    (answer ≡ answer_of shelf name limit) ⊎ (IsTrue (is_ok (answer_of shelf name limit)) × (answer ≡ Err Memory))

-- the shelf after the next call
abbrev pub after_read : FilesInMemory → FilesInMemory
after_read shelf = record { files = shelf.files; plan = after_call shelf.plan }
