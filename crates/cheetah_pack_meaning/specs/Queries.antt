-- The queries of a file, each bound to the tables in turn.
use Rattle.std.specs.Prelude.{ℕ, ◌+◌, ◌&&◌, not, nat_lt, if◌then◌else◌, List, [], ◌∷◌, length, filter, codes, Result, Ok, Err}
use Rattle.std.specs.Fmt.{decimal}
use Rattle.std.specs.List.{concat}
use Rattle.ch_bind.specs.Binding.{PlainBound}
use Rattle.ch_command.specs.Command.{ReadThen, Refuses, Then, refused}
use Rattle.ch_command.specs.declared.outcome.Ending.TheVariants.{Input}
use Rattle.ch_command.specs.declared.outcome.Outcome.{Outcome}
use Rattle.ch_lines.specs.Lines.{lines_of}
use Rattle.ch_messages.specs.Query.{query_line}
use Rattle.ch_sql_grammar.specs.Tree.{Select}
use Rattle.ch_sql_limits.specs.Texts.{Spells}
use Rattle.ch_tables.specs.TableValue.{TableValue}
use Rattle.cheetah_inputs.specs.Messages.{bind_line}
use Rattle.cheetah_inputs.specs.Question.{AfterBound, Rejects, bound_or_refused, refused_sum, summed_or_refused}
use Rattle.cheetah_words.specs.Tables.{is_nil}

-- each line that isn't empty is a query, a comment's too
abbrev pub queries_of : List ℕ → List (List ℕ)
queries_of text = filter (λ line. not (is_nil line)) (lines_of text)

-- there are 1 to 4
abbrev pub few_or_count : List (List ℕ) → Result (List (List ℕ)) ℕ
few_or_count queries = if nat_lt 0 (length queries) && nat_lt (length queries) 5 then Ok queries else Err (length queries)

abbrev pub count_line : ℕ → List ℕ
count_line count = concat (codes "input: " ∷ decimal count ∷ codes " queries\n" ∷ [])

-- a line that is said of a query, with its number, which counts from 0
abbrev pub numbered : ℕ → List ℕ → List ℕ
numbered number line = concat (codes "query " ∷ decimal number ∷ codes ": " ∷ line ∷ [])

-- a text is read as a query, that is bound, its sums are checked, and the rest is over it; or the first of them is refused
abbrev pub OfBound : ℕ → List TableValue → AfterBound → PlainBound → Outcome → Type 0
OfBound number tables next q outcome = ReadThen (summed_or_refused q tables) (λ error. refused Input (numbered number (refused_sum q tables error))) next outcome

abbrev pub OfSelect : ℕ → List TableValue → AfterBound → Select → Outcome → Type 0
OfSelect number tables next query outcome = ReadThen (bound_or_refused query tables) (λ error. refused Input (numbered number (bind_line error))) (OfBound number tables next) outcome

abbrev pub OfQuery : ℕ → List ℕ → List TableValue → AfterBound → Outcome → Type 0
OfQuery number text tables next outcome =
    Then (Spells text) (Refuses (Rejects text) (λ error. refused Input (numbered number (query_line error)))) (OfSelect number tables next) outcome

-- what may come behind all queries
abbrev pub AfterQueries : Type 1
AfterQueries = List PlainBound → Outcome → Type 0

-- each text in turn, the first of them with this number
abbrev pub OfQueries : ℕ → List (List ℕ) → List TableValue → AfterQueries → Outcome → Type 0
OfQueries number [] tables next outcome = next [] outcome
OfQueries number (text ∷ texts) tables next outcome = OfQuery number text tables (λ q. OfQueries (number + 1) texts tables (λ qs. next (q ∷ qs))) outcome
