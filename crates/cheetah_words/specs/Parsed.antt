-- `cheetah --query TEXT [--profile FILE] [--schedule FILE] [--plan] NAME=FILE ..`, and what clap makes of words.
use Rattle.std.specs.Prelude.{◌≡◌, ◌≢◌, ℕ, Bool, true, false, List, [], Option, Some, None, bytes_eq, codes, Result, Ok, Err}
use Rattle.clap.specs.Words.{App, Kinds, Row, Rule, fault_of, found_of, matches_of, new_app, new_rule, rows_of, with_rule}
use Rattle.clap.specs.Lexer.{usize_max}
use Rattle.clap.specs.declared.builder.ArgAction.TheVariants.{SetTrue}
use Rattle.clap.specs.declared.parser.ArgMatches.{ArgMatches}
use Rattle.ch_command.specs.declared.verdict.Misuse.{Misuse}
use Rattle.ch_command.specs.declared.verdict.Misuse.TheVariants as misuse

abbrev pub query_rule : Rule
query_rule = record (new_rule (codes "query")) { long = Some (codes "query"); required = true }

abbrev pub profile_rule : Rule
profile_rule = record (new_rule (codes "profile")) { long = Some (codes "profile") }

abbrev pub schedule_rule : Rule
schedule_rule = record (new_rule (codes "schedule")) { long = Some (codes "schedule") }

-- a flag
abbrev pub plan_rule : Rule
plan_rule = record (new_rule (codes "plan")) { long = Some (codes "plan"); action = Some SetTrue }

-- the last positional, of one word or more
abbrev pub table_rule : Rule
table_rule = record (new_rule (codes "table")) { required = true; range = Some (record { start_inclusive = 1; end_inclusive = usize_max }) }

unfoldable pub cheetah_app : App
cheetah_app = with_rule (with_rule (with_rule (with_rule (with_rule (new_app (codes "cheetah")) query_rule) profile_rule) schedule_rule) plan_rule) table_rule

-- why the words are not taken; nothing where they are
unfoldable pub kinds_of : List (List ℕ) → Kinds
kinds_of words = fault_of cheetah_app words

-- what the words give to each argument
unfoldable pub given_by : List (List ℕ) → List Row
given_by words = matches_of cheetah_app words

-- a flag that is given has the value `true`
abbrev pub is_planned : Option (List ℕ) → Bool
is_planned None = false
is_planned (Some text) = bytes_eq text (codes "true")

-- words that clap reads, or the text with which it refuses them
abbrev pub Parses : List (List ℕ) → Result ArgMatches Misuse → Type 0
Parses words (Ok m) = (kinds_of words ≡ []) × (rows_of (found_of m) ≡ given_by words)
Parses words (Err (misuse.Line line)) = kinds_of words ≢ []
Parses words (Err misuse.Memory) = Unit {0}
