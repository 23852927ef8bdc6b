-- Tokens as the grammar sees them.
use Rattle.std.specs.Prelude.{ℕ, Bool, false, List, Option, Some, None, option_and_then, slice_get, ◌==◌, ℤ}
use Rattle.ch_sql_grammar.specs.declared.terminal.Mark.{Mark}
use Rattle.ch_sql_grammar.specs.declared.terminal.Mark.TheVariants as mark
use Rattle.ch_sql_grammar.specs.declared.terminal.Terminal.{Terminal}
use Rattle.ch_sql_grammar.specs.declared.terminal.Terminal.TheVariants as terminal
use Rattle.ch_sql_tokens.specs.declared.token.Token.{Token}
use Rattle.ch_sql_tokens.specs.declared.token.Token.TheVariants as token
use Rattle.ch_sql_tokens.specs.declared.token.Symbol.{Symbol}
use Rattle.ch_sql_tokens.specs.declared.token.Symbol.TheVariants as symbol
use Rattle.ch_sql_grammar.specs.Keyword.{keyword_of}
use Rattle.ch_pred.specs.declared.pred.Literal.{Literal}
use Rattle.ch_pred.specs.declared.pred.Literal.TheVariants as literal
use Rattle.ch_pred.specs.declared.pred.Cmp.{Cmp}
use Rattle.ch_pred.specs.declared.pred.Cmp.TheVariants as cmp

-- the number of a mark in the list of marks
abbrev pub mark_number : Mark → ℕ
mark_number mark.Select = 0
mark_number mark.Distinct = 1
mark_number mark.From = 2
mark_number mark.Join = 3
mark_number mark.On = 4
mark_number mark.Where = 5
mark_number mark.Order = 6
mark_number mark.By = 7
mark_number mark.Asc = 8
mark_number mark.Desc = 9
mark_number mark.Limit = 10
mark_number mark.Group = 11
mark_number mark.Having = 12
mark_number mark.Sum = 13
mark_number mark.Count = 14
mark_number mark.Skyline = 15
mark_number mark.Of = 16
mark_number mark.Max = 17
mark_number mark.Min = 18
mark_number mark.And = 19
mark_number mark.Or = 20
mark_number mark.Not = 21
mark_number mark.Between = 22
mark_number mark.In = 23
mark_number mark.Like = 24
mark_number mark.Eq = 25
mark_number mark.Ne = 26
mark_number mark.Lt = 27
mark_number mark.Le = 28
mark_number mark.Gt = 29
mark_number mark.Ge = 30
mark_number mark.LeftParen = 31
mark_number mark.RightParen = 32
mark_number mark.Comma = 33
mark_number mark.Dot = 34
mark_number mark.Star = 35
mark_number mark.Semicolon = 36

abbrev pub has_mark : Mark → Terminal → Bool
has_mark m (terminal.Mark k) = mark_number m == mark_number k
has_mark m t = false

abbrev pub name_in : Terminal → Option (List ℕ)
name_in (terminal.Name n) = Some n
name_in t = None

abbrev pub number_in : Terminal → Option ℤ
number_in (terminal.Number n) = Some n
number_in t = None

abbrev pub literal_in : Terminal → Option Literal
literal_in (terminal.Number n) = Some (literal.Number n)
literal_in (terminal.Text t) = Some (literal.Text t)
literal_in t = None

abbrev pub text_in : Terminal → Option (List ℕ)
text_in (terminal.Text t) = Some t
text_in t = None

abbrev pub mark_cmp : Mark → Option Cmp
mark_cmp mark.Eq = Some cmp.Eq
mark_cmp mark.Ne = Some cmp.Ne
mark_cmp mark.Lt = Some cmp.Lt
mark_cmp mark.Le = Some cmp.Le
mark_cmp mark.Gt = Some cmp.Gt
mark_cmp mark.Ge = Some cmp.Ge
mark_cmp m = None

abbrev pub cmp_in : Terminal → Option Cmp
cmp_in (terminal.Mark m) = mark_cmp m
cmp_in t = None

-- what the token with this number is

abbrev pub is_there : Mark → Option Terminal → Bool
is_there m (Some t) = has_mark m t
is_there m None = false

unfoldable pub marked : Mark → List Terminal → ℕ → Bool
marked m tokens at = is_there m (slice_get tokens at)

unfoldable pub name_at : List Terminal → ℕ → Option (List ℕ)
name_at tokens at = option_and_then name_in (slice_get tokens at)

unfoldable pub literal_at : List Terminal → ℕ → Option Literal
literal_at tokens at = option_and_then literal_in (slice_get tokens at)

unfoldable pub text_at : List Terminal → ℕ → Option (List ℕ)
text_at tokens at = option_and_then text_in (slice_get tokens at)

unfoldable pub cmp_at : List Terminal → ℕ → Option Cmp
cmp_at tokens at = option_and_then cmp_in (slice_get tokens at)

abbrev pub symbol_mark : Symbol → Mark
symbol_mark symbol.Eq = mark.Eq
symbol_mark symbol.Ne = mark.Ne
symbol_mark symbol.Lt = mark.Lt
symbol_mark symbol.Le = mark.Le
symbol_mark symbol.Gt = mark.Gt
symbol_mark symbol.Ge = mark.Ge
symbol_mark symbol.LeftParen = mark.LeftParen
symbol_mark symbol.RightParen = mark.RightParen
symbol_mark symbol.Comma = mark.Comma
symbol_mark symbol.Dot = mark.Dot
symbol_mark symbol.Star = mark.Star
symbol_mark symbol.Semicolon = mark.Semicolon

abbrev pub word_terminal : Option Mark → List ℕ → Terminal
word_terminal (Some m) w = terminal.Mark m
word_terminal None w = terminal.Name w

-- a word that is no keyword is a name, as a quoted name is
abbrev pub terminal_of : Token → Terminal
terminal_of (token.Word w) = word_terminal (keyword_of w) w
terminal_of (token.Quoted name) = terminal.Name name
terminal_of (token.Number n) = terminal.Number n
terminal_of (token.Text t) = terminal.Text t
terminal_of (token.Symbol s) = terminal.Mark (symbol_mark s)
