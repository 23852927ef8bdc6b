-- Which query a text is.
use Rattle.std.specs.Prelude.{ℕ, List, map}
use Rattle.ch_sql_tokens.specs.declared.token.Token.{Token}
use Rattle.ch_sql_tokens.specs.Lexed.{IsLexed, IsQueryText}
use Rattle.ch_sql_grammar.specs.declared.terminal.Terminal.{Terminal}
use Rattle.ch_sql_grammar.specs.Tokens.{terminal_of}
use Rattle.ch_sql_grammar.specs.Tree.{Select}
use Rattle.ch_sql_limits.specs.Limits.{IsQueryWithin}

-- the tokens as the grammar sees them
abbrev pub seen : List Token → List Terminal
seen tokens = map terminal_of tokens

-- the text stands for tokens that derive the query within the limits
pub record Spells (text : List ℕ) (q : Select) : Type 0 where
  pub tokens : List Token
  pub short : IsQueryText text
  pub lexed : IsLexed text tokens
  pub derived : IsQueryWithin (seen tokens) q
