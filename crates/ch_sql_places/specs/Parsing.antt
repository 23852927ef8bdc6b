-- What a part of the parser owes.
use Rattle.std.specs.Prelude.{ℕ, ◌+◌, ◌≡◌, List, drop, Result, Ok, Err, Some, None, length, ◌≤◌, if◌then◌else◌}
use Rattle.ch_sql_grammar.specs.declared.terminal.Mark.TheVariants as mark
use Rattle.ch_sql_grammar.specs.declared.query.ColumnRef.{ColumnRef}
use Rattle.ch_sql_grammar.specs.declared.terminal.Terminal.{Terminal}
use Rattle.ch_sql_grammar.specs.declared.error.ParseError.{ParseError}
use Rattle.ch_sql_grammar.specs.declared.error.ParseError.TheVariants as error
use Rattle.ch_sql_grammar.specs.Tree.{Within, Select, select_of}
use Rattle.ch_sql_grammar.specs.declared.query.Query.{Query}
use Rattle.ch_sql_grammar.specs.Tokens.{literal_at, marked}
use Rattle.ch_pred.specs.declared.pred.Literal.{Literal}
use Rattle.ch_sql_places.specs.Machine.{Place, Around, have, parse_from}

-- what the tokens from the one numbered at give
unfoldable pub parse_at : List Terminal → Place → ℕ → Result Select ParseError
parse_at tokens place at = parse_from place at (drop at tokens)

abbrev pub Fails : Result Select ParseError → ParseError → Type 0
Fails from error.Memory = Unit {0}
Fails from (error.Syntax at) = from ≡ Err (error.Syntax at)
Fails from (error.TooDeep at) = from ≡ Err (error.TooDeep at)
Fails from (error.InTooLong at) = from ≡ Err (error.InTooLong at)
Fails from (error.BadLike at) = from ≡ Err (error.BadLike at)

-- A part that returns came from the one place to the next, and one that fails says why the whole fails.
abbrev pub Moves : {X : Type 0} → Result Select ParseError → (X → Result Select ParseError) → Result X ParseError → Type 0
Moves from next (Ok x) = from ≡ next x
Moves from next (Err e) = Fails from e

abbrev pub LiteralAt : List Terminal → ℕ → Result (Literal × ℕ) ParseError → Type 0
LiteralAt tokens at (Ok r) = (literal_at tokens at ≡ Some r.0) × (r.1 ≡ at + 1) × (r.1 ≤ length tokens)
LiteralAt tokens at (Err error.Memory) = Unit {0}
LiteralAt tokens at (Err (error.Syntax n)) = (literal_at tokens at ≡ None) × (n ≡ at)
LiteralAt tokens at (Err e) = ⊥

-- what the tokens behind the last literal of a list give
abbrev pub behind_list : List Terminal → Around → ColumnRef → List Literal → ℕ → Result Select ParseError
behind_list tokens around col literals at = if marked mark.RightParen tokens at then parse_at tokens (have (Within col literals) around) (at + 1) else Err (error.Syntax at)
