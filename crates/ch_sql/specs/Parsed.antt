-- What the results of `parse` say of the tokens.
use Rattle.std.specs.Prelude.{ℕ, ◌≡◌, ◌≤◌, List, length, Result, Ok, Err}
use Rattle.std.specs.List.{All}
use Rattle.ch_sql_tokens.specs.declared.token.Token.{Token}
use Rattle.ch_sql_tokens.specs.declared.scanner.TheConstants.{MAX_QUERY_BYTES}
use Rattle.ch_sql_tokens.specs.Spelling.{IsToken}
use Rattle.ch_sql_grammar.specs.declared.query.Query.{Query}
use Rattle.ch_sql_grammar.specs.declared.error.ParseError.{ParseError}
use Rattle.ch_sql_grammar.specs.declared.error.ParseError.TheVariants as error
use Rattle.ch_sql_grammar.specs.Tree.{Select, select_of}
use Rattle.ch_sql_limits.specs.Limits.{IsQueryWithin}
pub use Rattle.ch_sql_limits.specs.Texts.{seen, Spells}

-- the tree was read, unless memory ran out
abbrev pub Parses : Select → Result Query ParseError → Type 0
Parses tree (Ok q) = select_of q ≡ tree
Parses tree (Err e) = e ≡ error.Memory

-- a query that `parse` gives for no more tokens than a text may have bytes
pub record IsParsed (q : Select) : Type 0 where
  pub tokens : List Token
  pub few : length tokens ≤ MAX_QUERY_BYTES
  pub are_tokens : All IsToken tokens
  pub derived : IsQueryWithin (seen tokens) q
