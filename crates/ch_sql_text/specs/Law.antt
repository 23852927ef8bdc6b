-- Which printed tokens a text can spell.
use Rattle.std.specs.Prelude.{◌≤◌, ◌≢◌, List, [], map}
use Rattle.std.specs.Int.RustNames.{unsigned_abs}
use Rattle.ch_cells.specs.Number.{greatest_magnitude}
use Rattle.ch_sql_tokens.specs.declared.token.Token.{Token}
use Rattle.ch_sql_grammar.specs.declared.terminal.Terminal.{Terminal}
use Rattle.ch_sql_grammar.specs.declared.terminal.Terminal.TheVariants as terminal
use Rattle.ch_sql_grammar.specs.Tree.{Select}
use Rattle.ch_sql_text.specs.Spelled.{printed_token}
use Rattle.ch_sql_text.specs.Printed.{printed_tokens}

-- A name isn't empty, and a number is in the range of cells.
abbrev pub IsSpellable : Terminal → Type 0
IsSpellable (terminal.Mark m) = Unit {0}
IsSpellable (terminal.Name name) = name ≢ []
IsSpellable (terminal.Number n) = unsigned_abs n ≤ greatest_magnitude
IsSpellable (terminal.Text text) = Unit {0}

-- the tokens that stand in the query's text
abbrev pub text_tokens : Select → List Token
text_tokens q = map printed_token (printed_tokens q)
