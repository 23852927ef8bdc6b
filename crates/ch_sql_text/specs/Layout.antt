-- How printed tokens are laid out, with one space between them or none.
use Rattle.std.specs.Prelude.{ℕ, Bool, true, false, not, List, [], ◌∷◌, ◌++◌, if◌then◌else◌}
use Rattle.ch_sql_tokens.specs.Spelling.{spelling}
use Rattle.ch_sql_grammar.specs.declared.terminal.Mark.{Mark}
use Rattle.ch_sql_grammar.specs.declared.terminal.Mark.TheVariants as mark
use Rattle.ch_sql_grammar.specs.declared.terminal.Terminal.{Terminal}
use Rattle.ch_sql_grammar.specs.declared.terminal.Terminal.TheVariants as terminal
use Rattle.ch_sql_text.specs.declared.layout.Last.{Last}
use Rattle.ch_sql_text.specs.declared.layout.Last.TheVariants as last
use Rattle.ch_sql_text.specs.Spelled.{printed_token}

abbrev pub last_mark : Mark → Last
last_mark mark.LeftParen = last.Open
last_mark mark.Dot = last.Open
last_mark mark.Max = last.Call
last_mark mark.Min = last.Call
last_mark mark.Sum = last.Call
last_mark mark.Count = last.Call
last_mark m = last.Other

-- what kind of token stands last
abbrev pub last_of : Terminal → Last
last_of (terminal.Mark m) = last_mark m
last_of t = last.Other

-- no space stands before `,`, `)` and `.`, and behind MAX, MIN, SUM and COUNT none before `(`
abbrev pub joins_mark : Last → Mark → Bool
joins_mark l mark.Comma = true
joins_mark l mark.RightParen = true
joins_mark l mark.Dot = true
joins_mark last.Call mark.LeftParen = true
joins_mark l m = false

abbrev pub joins : Last → Terminal → Bool
joins l (terminal.Mark m) = joins_mark l m
joins l t = false

-- nor does one stand behind `(` and `.`, or at the front
abbrev pub is_spaced : Last → Terminal → Bool
is_spaced last.Open t = false
is_spaced l t = not (joins l t)

abbrev pub gap : Last → Terminal → List ℕ
gap l t = if is_spaced l t then 32 ∷ [] else []

-- the text of tokens behind a token of a kind
abbrev pub laid_out : Last → List Terminal → List ℕ
laid_out l [] = []
laid_out l (t ∷ ts) = gap l t ++ (spelling (printed_token t) ++ laid_out (last_of t) ts)
