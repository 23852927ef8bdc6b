-- What the words of the command mean, over the files.
use Rattle.std.specs.Prelude.{◌≡◌, ℕ, List, [], ◌∷◌, ◌++◌, drop, flat_map, map, slice_get, Option, Some, None, unwrap_or, codes}
use Rattle.ch_bind.specs.Binding.{PlainBound}
use Rattle.ch_command.specs.Command.{Command, ReadThen, misused, reading, refused}
use Rattle.ch_command.specs.declared.outcome.Ending.TheVariants.{Done, Input, Rejected}
use Rattle.ch_command.specs.declared.outcome.Outcome.{Outcome}
use Rattle.ch_ir.specs.declared.profile.Profile.{Profile}
use Rattle.ch_tables.specs.TableValue.{TableValue}
use Rattle.cheetah_inputs.specs.Inputs.{Given, drain_alone, names_of, profile_or_line, profile_text, tables_or_line}
use Rattle.cheetah_run.specs.Saying.{said_by_run}
use Rattle.cheetah_words.specs.Words.{Request}
use Rattle.cheetah_pack_words.specs.Words.{Wish, usage_line, wish_of}
use Rattle.cheetah_pack_words.specs.Words.Wish.{Asking, Misused}
use Rattle.cheetah_pack_meaning.specs.Limits.{limit_line}
use Rattle.cheetah_pack_meaning.specs.Queries.{OfQueries, count_line, few_or_count, queries_of}

-- The runs.

-- what the command that asks this one query, without a schedule, is given
abbrev pub given_alone : Profile → List TableValue → PlainBound → Given
given_alone profile tables q = record { profile = profile; schedule = drain_alone; tables = tables; query = q }

-- what it writes
abbrev pub said_alone : Profile → List TableValue → PlainBound → Outcome
said_alone profile tables q = said_by_run (given_alone profile tables q)

-- an empty line stands behind each answer, and the lines on err stand in order
abbrev pub together : List Outcome → Outcome
together sayings = record { ending = Done; out = flat_map (λ said. said.out ++ codes "\n") sayings; err = flat_map (λ said. said.err) sayings }

-- the answers, unless the plans are refused
abbrev pub unless_refused : Option (List ℕ) → Outcome → Outcome
unless_refused None outcome = outcome
unless_refused (Some line) outcome = refused Rejected line

abbrev pub outcome_of : Profile → List TableValue → List PlainBound → Outcome
outcome_of profile tables qs = unless_refused (limit_line profile qs) (together (map (said_alone profile tables) qs))

-- The files: that of the queries stands first, and then those that a request without a schedule names.

abbrev pub files_of : Request → List (List ℕ)
files_of request = request.query ∷ names_of request

abbrev pub queries_text : List (List ℕ) → List ℕ
queries_text contents = unwrap_or (slice_get contents 0) []

abbrev pub others : List (List ℕ) → List (List ℕ)
others contents = drop 1 contents

-- profile, tables, the number of the queries and each of them are checked in this order, and the rest is over them
abbrev pub OfTables : List ℕ → Profile → List TableValue → Outcome → Type 0
OfTables text profile tables outcome =
    ReadThen (few_or_count (queries_of text)) (λ count. refused Input (count_line count)) (λ queries. OfQueries 0 queries tables (λ qs o. o ≡ outcome_of profile tables qs)) outcome

abbrev pub OfContents : Request → List (List ℕ) → Outcome → Type 0
OfContents request contents outcome =
    ReadThen (profile_or_line (profile_text request (others contents))) (refused Input)
    (λ profile. ReadThen (tables_or_line request (others contents)) (refused Input) (OfTables (queries_text contents) profile)) outcome

-- what words with this wish mean
abbrev pub command_for : Wish → Command
command_for Misused = misused (λ line. line ≡ usage_line)
command_for (Asking request) = reading (files_of request) (OfContents request)

abbrev pub command_of : List (List ℕ) → Command
command_of words = command_for (wish_of words)
