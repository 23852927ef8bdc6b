-- What writing tokens makes of a text.
use Rattle.std.specs.Prelude.{ℕ, List, [], ◌∷◌, ◌++◌}
use Rattle.ch_sql_tokens.specs.Spelling.{spelling}
use Rattle.ch_sql_grammar.specs.declared.terminal.Terminal.{Terminal}
use Rattle.ch_sql_text.specs.declared.layout.Last.{Last}
use Rattle.ch_sql_text.specs.Spelled.{printed_token}
use Rattle.ch_sql_text.specs.Layout.{gap, last_of}

-- a text, and the kind of token that stands last in it
pub record Written : Type 0 where
  pub text : List ℕ
  pub last : Last

unfoldable pub put : Written → Terminal → Written
put w t = record { text = w.text ++ (gap w.last t ++ spelling (printed_token t)); last = last_of t }

abbrev pub puts : Written → List Terminal → Written
puts w [] = w
puts w (t ∷ ts) = puts (put w t) ts
