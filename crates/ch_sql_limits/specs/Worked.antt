-- Derivations and tokens whose depth and limits are plain to see.
use Rattle.std.specs.Prelude.{ℕ, zero, suc, pos, List, [], ◌∷◌, ◌++◌, replicate, Some, None}
use Rattle.ch_sql_grammar.specs.declared.terminal.Mark.{Mark}
use Rattle.ch_sql_grammar.specs.declared.terminal.Mark.TheVariants as mark
use Rattle.ch_sql_grammar.specs.declared.terminal.Terminal.{Terminal}
use Rattle.ch_sql_grammar.specs.declared.terminal.Terminal.TheVariants as terminal
use Rattle.ch_sql_grammar.specs.declared.query.Item.TheVariants as item
use Rattle.ch_sql_grammar.specs.declared.query.ColumnRef.{ColumnRef}
use Rattle.ch_pred.specs.declared.pred.Literal.TheVariants as literal
use Rattle.ch_sql_grammar.specs.Tree.{bare_col}
use Rattle.ch_sql_grammar.specs.Grammar as grammar
use Rattle.ch_sql_grammar.specs.Grammar.{Pred, conj, or, Conj, neg, and, Neg, not, parens, atom, Form}

-- the column `a`
abbrev pub a_col : ColumnRef
a_col = bare_col (97 ∷ [])

-- `a LIKE 'TEXT'`
abbrev pub like_text : List ℕ → Neg
like_text text = atom (grammar.like a_col text)

-- `a IN (0, .., 0)`, of n literals and one
abbrev pub zeros_and_one : ℕ → Neg
zeros_and_one n = atom (grammar.within a_col (replicate n (literal.Number (pos 0))) (literal.Number (pos 0)))

-- n times `NOT`
abbrev pub negated : ℕ → Neg → Neg
negated zero n = n
negated (suc k) n = not (negated k n)

-- `NOT (a LIKE 'x%' AND NOT a LIKE 'y%' OR a LIKE 'z%')`
abbrev pub mixed : Neg
mixed = not (parens (or (conj (and (neg (like_text (120 ∷ 37 ∷ []))) (not (like_text (121 ∷ 37 ∷ []))))) (neg (like_text (122 ∷ 37 ∷ [])))))

-- `SELECT * FROM a WHERE NEG`
abbrev pub all_where : Neg → Form
all_where n = grammar.one [] item.Star (97 ∷ []) (Some (conj (neg n))) None

-- `SELECT * FROM a WHERE`, and these tokens
abbrev pub where_these : List Terminal → List Terminal
where_these ts = terminal.Mark mark.Select ∷ terminal.Mark mark.Star ∷ terminal.Mark mark.From ∷ terminal.Name (97 ∷ []) ∷ terminal.Mark mark.Where ∷ ts

-- n times the mark
abbrev pub times : ℕ → Mark → List Terminal
times n m = replicate n (terminal.Mark m)

-- n times `NOT (`
abbrev pub in_turn : ℕ → List Terminal
in_turn zero = []
in_turn (suc k) = terminal.Mark mark.Not ∷ terminal.Mark mark.LeftParen ∷ in_turn k

-- n times `0,`
abbrev pub zeros : ℕ → List Terminal
zeros zero = []
zeros (suc k) = terminal.Number (pos 0) ∷ terminal.Mark mark.Comma ∷ zeros k

-- `a IN (0, .., 0,` of 16 literals, and this token
abbrev pub behind_sixteen : Terminal → List Terminal
behind_sixteen t = terminal.Name (97 ∷ []) ∷ terminal.Mark mark.In ∷ terminal.Mark mark.LeftParen ∷ (zeros 16 ++ (t ∷ []))

-- `a LIKE 'TEXT'`
abbrev pub like_tokens : List ℕ → List Terminal
like_tokens text = terminal.Name (97 ∷ []) ∷ terminal.Mark mark.Like ∷ terminal.Text text ∷ []
