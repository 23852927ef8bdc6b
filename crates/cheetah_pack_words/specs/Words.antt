-- What the words of the command ask for.
use Rattle.std.specs.Prelude.{◌≡◌, ℕ, false, if◌then◌else◌, List, ◌∷◌, Option, Some, None, bytes_eq, codes, Result, Ok, Err}
use Rattle.ch_command.specs.declared.verdict.Misuse.{Misuse}
use Rattle.ch_command.specs.declared.verdict.Misuse.TheVariants as misuse
use Rattle.cheetah_words.specs.Tables.{parts_in, tables_refusal}
use Rattle.cheetah_words.specs.Words.{Request, request_of}
use Rattle.cheetah_words.specs.declared.words.Asked.{Asked}

abbrev pub usage_line : List ℕ
usage_line = codes "usage: cheetah_pack QUERIES PROFILE NAME=FILE\n"

-- `-` is the default profile
abbrev pub profile_of : List ℕ → Option (List ℕ)
profile_of word = if bytes_eq word (codes "-") then None else Some word

pub data Wish : Type 0 where
  -- the words are none of the command's
  Misused : Wish
  -- queries are packed. Their file stands as the request's query
  Asking : Request → Wish

-- what is asked for, where no line refuses the table words
abbrev pub wish_with : Option (List ℕ) → Request → Wish
wish_with None request = Asking request
wish_with (Some line) request = Misused

-- `QUERIES PROFILE NAME=FILE ..`, behind the program's name
abbrev pub wish_of : List (List ℕ) → Wish
wish_of (program ∷ queries ∷ profile ∷ table ∷ tables) =
    wish_with (tables_refusal (table ∷ tables)) (record { query = queries; profile = profile_of profile; schedule = None; plan = false; tables = parts_in (table ∷ tables) })
wish_of _ = Misused

-- what is asked, or the one line that refuses words
abbrev pub Asks : Wish → Result Asked Misuse → Type 0
Asks wanted (Ok asked) = wanted ≡ Asking (request_of asked)
Asks wanted (Err (misuse.Line line)) = (wanted ≡ Misused) × (line ≡ usage_line)
Asks wanted (Err misuse.Memory) = Unit {0}
