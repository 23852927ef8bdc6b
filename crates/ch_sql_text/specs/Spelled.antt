-- The token that stands for a token of the grammar in a printed query.
use Rattle.std.specs.Prelude.{ℕ, Bool, ◌&&◌, is_none, List, codes, if◌then◌else◌}
use Rattle.ch_sql_tokens.specs.declared.token.Token.{Token}
use Rattle.ch_sql_tokens.specs.declared.token.Token.TheVariants as token
use Rattle.ch_sql_tokens.specs.declared.token.Symbol.TheVariants as symbol
use Rattle.ch_sql_tokens.specs.Spelling.{is_word}
use Rattle.ch_sql_grammar.specs.declared.terminal.Mark.{Mark}
use Rattle.ch_sql_grammar.specs.declared.terminal.Mark.TheVariants as mark
use Rattle.ch_sql_grammar.specs.declared.terminal.Terminal.{Terminal}
use Rattle.ch_sql_grammar.specs.declared.terminal.Terminal.TheVariants as terminal
use Rattle.ch_sql_grammar.specs.Keyword.{keyword_of}

-- a keyword is a word in capitals
unfoldable pub mark_token : Mark → Token
mark_token mark.Select = token.Word (codes "SELECT")
mark_token mark.Distinct = token.Word (codes "DISTINCT")
mark_token mark.From = token.Word (codes "FROM")
mark_token mark.Join = token.Word (codes "JOIN")
mark_token mark.On = token.Word (codes "ON")
mark_token mark.Where = token.Word (codes "WHERE")
mark_token mark.Order = token.Word (codes "ORDER")
mark_token mark.By = token.Word (codes "BY")
mark_token mark.Asc = token.Word (codes "ASC")
mark_token mark.Desc = token.Word (codes "DESC")
mark_token mark.Limit = token.Word (codes "LIMIT")
mark_token mark.Group = token.Word (codes "GROUP")
mark_token mark.Having = token.Word (codes "HAVING")
mark_token mark.Sum = token.Word (codes "SUM")
mark_token mark.Count = token.Word (codes "COUNT")
mark_token mark.Skyline = token.Word (codes "SKYLINE")
mark_token mark.Of = token.Word (codes "OF")
mark_token mark.Max = token.Word (codes "MAX")
mark_token mark.Min = token.Word (codes "MIN")
mark_token mark.And = token.Word (codes "AND")
mark_token mark.Or = token.Word (codes "OR")
mark_token mark.Not = token.Word (codes "NOT")
mark_token mark.Between = token.Word (codes "BETWEEN")
mark_token mark.In = token.Word (codes "IN")
mark_token mark.Like = token.Word (codes "LIKE")
mark_token mark.Eq = token.Symbol symbol.Eq
mark_token mark.Ne = token.Symbol symbol.Ne
mark_token mark.Lt = token.Symbol symbol.Lt
mark_token mark.Le = token.Symbol symbol.Le
mark_token mark.Gt = token.Symbol symbol.Gt
mark_token mark.Ge = token.Symbol symbol.Ge
mark_token mark.LeftParen = token.Symbol symbol.LeftParen
mark_token mark.RightParen = token.Symbol symbol.RightParen
mark_token mark.Comma = token.Symbol symbol.Comma
mark_token mark.Dot = token.Symbol symbol.Dot
mark_token mark.Star = token.Symbol symbol.Star
mark_token mark.Semicolon = token.Symbol symbol.Semicolon

-- a word that is no keyword
abbrev pub is_bare : List ℕ → Bool
is_bare name = is_word name && is_none (keyword_of name)

-- any other name stands in quotes
abbrev pub name_token : List ℕ → Token
name_token name = if is_bare name then token.Word name else token.Quoted name

abbrev pub printed_token : Terminal → Token
printed_token (terminal.Mark m) = mark_token m
printed_token (terminal.Name name) = name_token name
printed_token (terminal.Number n) = token.Number n
printed_token (terminal.Text text) = token.Text text
