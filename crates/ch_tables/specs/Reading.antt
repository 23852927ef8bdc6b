-- A reader of a part, and the records that it has left.
use Rattle.std.specs.Prelude.{◌≡◌, ℕ, ◌+◌, ◌<◌, ◌^◌, List, [], ◌∷◌, length, Option, Some, None, IsSome, Bool, true, false}
use Rattle.std.specs.Borrow.{Bor}
use Rattle.std.specs.List.{AllByRecursion}
use Rattle.csv.specs.Reading.{Ready, default_config, reader_config, reader_state, reader_trim, records_from, source_of}
use Rattle.csv.specs.declared.parser.State.{State}
use Rattle.csv.specs.declared.reader.Reader.{Reader}
use Rattle.csv.specs.declared.reader.Trim.TheVariants as trim

-- a reader of bytes in memory
abbrev pub PartReader : Type 0
PartReader = Reader (Bor (List ℕ))

-- the bytes that it has left
abbrev pub unread : PartReader → Option (List ℕ)
unread reader = source_of (λ (s : Bor (List ℕ)). Some s.now) reader

abbrev pub records_in : State → Option (List ℕ) → List (List (List ℕ))
records_in state None = []
records_in state (Some bytes) = records_from default_config (length bytes + 1) state bytes

-- the records that it has left
abbrev pub records_left : PartReader → List (List (List ℕ))
records_left reader = records_in (reader_state reader) (unread reader)

-- it reads by csv's defaults, each record as it stands, and knows its bytes
pub record IsReading (reader : PartReader) : Type 0 where
  pub plain : reader_trim reader ≡ trim.None
  pub ready : Ready reader
  pub defaults : reader_config reader ≡ default_config
  pub known : IsSome (unread reader)

-- a read took the first of the records that were left, if there was one
abbrev pub Takes : List (List (List ℕ)) → Bool → List (List ℕ) → PartReader → Type 0
Takes before false fields after = before ≡ []
Takes before true fields after = IsReading after × (before ≡ fields ∷ records_left after)

-- each record has fewer fields than `u32` counts
abbrev pub AreShort : List (List (List ℕ)) → Type 0
AreShort records = AllByRecursion (λ fields. length fields < 2 ^ 32) records
