-- What reading a text as a query says of it.
use Rattle.std.specs.Prelude.{◌≡◌, ℕ, List, Result, Ok, Err}
use Rattle.ch_sql_tokens.specs.declared.token.Token.{Token}
use Rattle.ch_sql_tokens.specs.declared.error.LexError.{LexError}
use Rattle.ch_sql_tokens.specs.declared.error.LexError.TheVariants as lex
use Rattle.ch_sql_tokens.specs.Lexed.{IsLexed, IsLexError, IsQueryText}
use Rattle.ch_sql_grammar.specs.declared.error.ParseError.{ParseError}
use Rattle.ch_sql_grammar.specs.declared.error.ParseError.TheVariants as parse
use Rattle.ch_sql_grammar.specs.declared.query.Query.{Query}
use Rattle.ch_sql_grammar.specs.Tree.{Select, select_of}
use Rattle.ch_sql_places.specs.Refusal.{IsRefusal}
use Rattle.ch_sql_limits.specs.Texts.{seen}
use Rattle.ch_sql.specs.declared.read.QueryError.{QueryError}
use Rattle.ch_sql.specs.declared.read.QueryError.TheVariants as error

abbrev pub lex_refusal : LexError → QueryError
lex_refusal (lex.TooLong have) = error.TooLong have
lex_refusal (lex.Byte at) = error.Byte at
lex_refusal (lex.NumberRange at) = error.NumberRange at
lex_refusal lex.Memory = error.Memory

abbrev pub parse_refusal : ParseError → QueryError
parse_refusal (parse.Syntax at) = error.Syntax at
parse_refusal (parse.TooDeep at) = error.TooDeep at
parse_refusal (parse.InTooLong at) = error.InTooLong at
parse_refusal (parse.BadLike at) = error.BadLike at
parse_refusal parse.Memory = error.Memory

-- the text stands for tokens of which this refusal holds
abbrev pub Refuses : List ℕ → ParseError → Type 0
Refuses text e = (tokens : List Token) × IsQueryText text × IsLexed text tokens × IsRefusal (seen tokens) e

abbrev pub IsQueryError : List ℕ → QueryError → Type 0
IsQueryError text (error.TooLong have) = IsLexError text (lex.TooLong have)
IsQueryError text (error.Byte at) = IsLexError text (lex.Byte at)
IsQueryError text (error.NumberRange at) = IsLexError text (lex.NumberRange at)
IsQueryError text (error.Syntax at) = Refuses text (parse.Syntax at)
IsQueryError text (error.TooDeep at) = Refuses text (parse.TooDeep at)
IsQueryError text (error.InTooLong at) = Refuses text (parse.InTooLong at)
IsQueryError text (error.BadLike at) = Refuses text (parse.BadLike at)
IsQueryError text error.Memory = Unit {0}

-- the tree was read, unless memory ran out
abbrev pub ReadsTo : Select → Result Query QueryError → Type 0
ReadsTo tree (Ok q) = select_of q ≡ tree
ReadsTo tree (Err e) = e ≡ error.Memory
