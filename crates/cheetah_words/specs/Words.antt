-- What the words of the command ask for.
use Rattle.std.specs.Prelude.{◌≡◌, ℕ, Bool, List, [], ◌∷◌, map, Option, Some, None, option_map, unwrap_or, codes, Result, Ok, Err}
use Rattle.clap.specs.Words.{Kinds, Row, all_of, first_of}
use Rattle.ch_command.specs.Lines.{no_words_line}
use Rattle.ch_command.specs.declared.verdict.Misuse.{Misuse}
use Rattle.ch_command.specs.declared.verdict.Misuse.TheVariants as misuse
use Rattle.cheetah_words.specs.Parsed.{given_by, is_planned, kinds_of}
use Rattle.cheetah_words.specs.Tables.{Part, part_word, parts_in, tables_refusal}
use Rattle.cheetah_words.specs.declared.table_word.TableWord.{TableWord}
use Rattle.cheetah_words.specs.declared.words.Asked.{Asked}

-- the text of the query, the files of profile and schedule where they are named, whether the plan is printed, and the parts
-- of the tables
pub record Request : Type 0 where
  pub query : List ℕ
  pub profile : Option (List ℕ)
  pub schedule : Option (List ℕ)
  pub plan : Bool
  pub tables : List Part

pub data Wish : Type 0 where
  NoWords : Wish
  -- clap doesn't take the words
  WrongWords : Wish
  -- it does, but this line refuses the table words
  WrongTables : (line : List ℕ) → Wish
  Asking : Request → Wish

-- the words that name tables; one is required, so they are always given
abbrev pub table_words : List Row → List (List ℕ)
table_words rows = unwrap_or (all_of (codes "table") rows) []

-- the query is required too
abbrev pub request_by : List Row → Request
request_by rows = record {
  query = unwrap_or (first_of (codes "query") rows) [];
  profile = first_of (codes "profile") rows;
  schedule = first_of (codes "schedule") rows;
  plan = is_planned (first_of (codes "plan") rows);
  tables = parts_in (table_words rows);
}

abbrev pub wish_with : Option (List ℕ) → Request → Wish
wish_with (Some line) request = WrongTables line
wish_with None request = Asking request

abbrev pub wish_by : Kinds → List Row → Wish
wish_by (kind ∷ kinds) rows = WrongWords
wish_by [] rows = wish_with (tables_refusal (table_words rows)) (request_by rows)

abbrev pub wish_of : List (List ℕ) → Wish
wish_of [] = NoWords
wish_of (program ∷ words) = wish_by (kinds_of (program ∷ words)) (given_by (program ∷ words))

-- a request, as the code has it
abbrev pub request_of : Asked → Request
request_of asked = record {
  query = asked.query.now;
  profile = option_map (λ file. file.now) asked.profile;
  schedule = option_map (λ file. file.now) asked.schedule;
  plan = asked.plan;
  tables = map part_word asked.tables;
}

-- the line that refuses words: that of no words, any where clap doesn't take them, or the one on their tables
abbrev pub RefusesWords : Wish → List ℕ → Type 0
RefusesWords NoWords line = line ≡ no_words_line
RefusesWords WrongWords line = Unit {0}
RefusesWords (WrongTables said) line = line ≡ said
RefusesWords (Asking request) line = ⊥

-- the parts that words name, or the line that refuses the words
abbrev pub AsksTables : List (List ℕ) → Result (List TableWord) Misuse → Type 0
AsksTables words (Ok tables) = (tables_refusal words ≡ None) × (parts_in words ≡ map part_word tables)
AsksTables words (Err (misuse.Line line)) = tables_refusal words ≡ Some line
AsksTables words (Err misuse.Memory) = Unit {0}

-- what is asked, or why the words are refused
abbrev pub Asks : Wish → Result Asked Misuse → Type 0
Asks wanted (Ok asked) = wanted ≡ Asking (request_of asked)
Asks wanted (Err (misuse.Line line)) = RefusesWords wanted line
Asks wanted (Err misuse.Memory) = Unit {0}
