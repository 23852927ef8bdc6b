-- What the words of the command ask for.
use Rattle.std.specs.Prelude.{◌≡◌, ◌≢◌, ℕ, true, List, [], ◌∷◌, Option, Some, option_map, unwrap_or, codes, Result, Ok, Err}
use Rattle.clap.specs.Words.{App, Kinds, Row, Rule, fault_of, first_of, found_of, matches_of, new_app, new_rule, rows_of, with_rule}
use Rattle.clap.specs.declared.parser.ArgMatches.{ArgMatches}
use Rattle.ch_command.specs.Lines.{no_words_line}
use Rattle.ch_command.specs.declared.verdict.Misuse.{Misuse}
use Rattle.ch_command.specs.declared.verdict.Misuse.TheVariants as misuse
use Rattle.cheetah_check.specs.declared.words.Asked.{Asked}

-- `cheetah_check FILE [--profile FILE]`

abbrev pub profile_rule : Rule
profile_rule = record (new_rule (codes "profile")) { long = Some (codes "profile") }

abbrev pub program_rule : Rule
program_rule = record (new_rule (codes "program")) { required = true }

unfoldable pub check_app : App
check_app = with_rule (with_rule (new_app (codes "cheetah_check")) profile_rule) program_rule

-- why the words are not taken; nothing where they are
unfoldable pub kinds_of : List (List ℕ) → Kinds
kinds_of words = fault_of check_app words

-- what the words give to each argument
unfoldable pub given_by : List (List ℕ) → List Row
given_by words = matches_of check_app words

pub data Wish : Type 0 where
  NoWords : Wish
  -- the words are not taken
  WrongWords : Wish
  -- the files of the profile, where one is named, and of the program
  Check : (profile : Option (List ℕ)) (program : List ℕ) → Wish

-- the program's file is required, so it is always given
abbrev pub asked_by : List Row → Wish
asked_by rows = Check (first_of (codes "profile") rows) (unwrap_or (first_of (codes "program") rows) [])

abbrev pub wish_by : Kinds → List Row → Wish
wish_by [] rows = asked_by rows
wish_by (kind ∷ kinds) rows = WrongWords

abbrev pub wish_of : List (List ℕ) → Wish
wish_of [] = NoWords
wish_of (program ∷ words) = wish_by (kinds_of (program ∷ words)) (given_by (program ∷ words))

-- the words' wish, as the code has it
abbrev pub profile_name : Asked → Option (List ℕ)
profile_name asked = option_map (λ file. file.now) asked.profile

abbrev pub wish : Asked → Wish
wish asked = Check (profile_name asked) asked.program.now

-- the line that refuses words: that of no words, or any
abbrev pub RefusesWords : Wish → List ℕ → Type 0
RefusesWords NoWords line = line ≡ no_words_line
RefusesWords WrongWords line = Unit {0}
RefusesWords (Check profile program) line = ⊥

-- words that clap reads, or the text with which it refuses them
abbrev pub Parses : List (List ℕ) → Result ArgMatches Misuse → Type 0
Parses words (Ok m) = (kinds_of words ≡ []) × (rows_of (found_of m) ≡ given_by words)
Parses words (Err (misuse.Line line)) = kinds_of words ≢ []
Parses words (Err misuse.Memory) = Unit {0}

-- what is asked, or why the words are refused
abbrev pub Asks : Wish → Result Asked Misuse → Type 0
Asks wanted (Ok asked) = wanted ≡ wish asked
Asks wanted (Err (misuse.Line line)) = RefusesWords wanted line
Asks wanted (Err misuse.Memory) = Unit {0}
