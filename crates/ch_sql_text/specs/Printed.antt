-- The tokens that a query is printed with, and its text.
use Rattle.std.specs.Prelude.{ℕ, Bool, true, false, List, [], ◌∷◌, ◌++◌, map, Option, Some, None, if◌then◌else◌}
use Rattle.ch_pred.specs.declared.pred.Literal.{Literal}
use Rattle.ch_sql_grammar.specs.declared.terminal.Mark.{Mark}
use Rattle.ch_sql_grammar.specs.declared.terminal.Mark.TheVariants as mark
use Rattle.ch_sql_grammar.specs.declared.terminal.Terminal.{Terminal}
use Rattle.ch_sql_grammar.specs.declared.terminal.Terminal.TheVariants as terminal
use Rattle.ch_sql_grammar.specs.declared.query.Source.{Source}
use Rattle.ch_sql_grammar.specs.declared.query.Source.TheVariants as source
use Rattle.ch_sql_grammar.specs.declared.query.Tail.{Tail}
use Rattle.ch_sql_grammar.specs.declared.query.Tail.TheVariants as tail
use Rattle.ch_sql_grammar.specs.Tree.{Plain, Plains, Compare, Between, Within, Like, And, Or, Not, nil, cons, Select}
use Rattle.ch_sql_grammar.specs.Grammar.{col_tokens, literal_token, cmp_mark, side_tokens, item_tokens, dim_tokens, having_tokens}
use Rattle.ch_sql_text.specs.declared.layout.Last.TheVariants as last
pub use Rattle.ch_sql_places.specs.Machine.{is_semi}
use Rattle.ch_sql_text.specs.Layout.{laid_out}

-- the mark, if the test holds
abbrev pub when : Bool → Mark → List Terminal
when b m = if b then terminal.Mark m ∷ [] else []

-- each behind a mark, the first only if the test holds
abbrev pub marked_off : Bool → Mark → List (List Terminal) → List Terminal
marked_off b m [] = []
marked_off b m (x ∷ xs) = when b m ++ (x ++ marked_off true m xs)

-- all, with the mark between them
abbrev pub joined : Mark → List (List Terminal) → List Terminal
joined m xs = marked_off false m xs

abbrev pub in_parens : Bool → List Terminal → List Terminal
in_parens b ts = when b mark.LeftParen ++ (ts ++ when b mark.RightParen)

abbrev pub literal_tokens : Literal → List Terminal
literal_tokens v = literal_token v ∷ []

abbrev pub is_or : Plain → Bool
is_or (Or members) = true
is_or p = false

abbrev pub is_and_or : Plain → Bool
is_and_or (And members) = true
is_and_or (Or members) = true
is_and_or p = false

-- An Or stands in parentheses inside Or, And and Not, and an And inside And and Not.
abbrev mutual
  pub filter_tokens : Plain → List Terminal
  filter_tokens (Compare col c s) = col_tokens col ++ (terminal.Mark (cmp_mark c) ∷ side_tokens s)
  filter_tokens (Between col low high) = col_tokens col ++ (terminal.Mark mark.Between ∷ literal_token low ∷ terminal.Mark mark.And ∷ literal_token high ∷ [])
  filter_tokens (Within col literals) = col_tokens col ++ (terminal.Mark mark.In ∷ in_parens true (joined mark.Comma (map literal_tokens literals)))
  filter_tokens (Like col prefix) = col_tokens col ++ (terminal.Mark mark.Like ∷ terminal.Text (prefix ++ (37 ∷ [])) ∷ [])
  filter_tokens (And members) = joined mark.And (and_members members)
  filter_tokens (Or members) = joined mark.Or (or_members members)
  filter_tokens (Not inner) = terminal.Mark mark.Not ∷ in_parens (is_and_or inner) (filter_tokens inner)

  pub and_members : Plains → List (List Terminal)
  and_members nil = []
  and_members (cons p ps) = in_parens (is_and_or p) (filter_tokens p) ∷ and_members ps

  pub or_members : Plains → List (List Terminal)
  or_members nil = []
  or_members (cons p ps) = in_parens (is_or p) (filter_tokens p) ∷ or_members ps

abbrev pub source_tokens : Source → List Terminal
source_tokens (source.One table) = terminal.Mark mark.From ∷ terminal.Name table ∷ []
source_tokens (source.Join left right first_on second_on) =
    terminal.Mark mark.From ∷ terminal.Name left ∷ terminal.Mark mark.Join ∷ terminal.Name right ∷ terminal.Mark mark.On ∷ (col_tokens first_on ++ (terminal.Mark mark.Eq ∷ col_tokens second_on))
source_tokens (source.Semi outer inner key inner_key) =
    terminal.Mark mark.From ∷ terminal.Name outer ∷ terminal.Mark mark.Where ∷ (col_tokens key ++ (terminal.Mark mark.In ∷ in_parens true (terminal.Mark mark.Select ∷ (col_tokens inner_key ++ (terminal.Mark mark.From ∷ terminal.Name inner ∷ [])))))

-- the filter of a semi-join stands behind its AND, in parentheses where it is an Or
abbrev pub where_tokens : Bool → Option Plain → List Terminal
where_tokens semi None = []
where_tokens true (Some p) = terminal.Mark mark.And ∷ in_parens (is_or p) (filter_tokens p)
where_tokens false (Some p) = terminal.Mark mark.Where ∷ filter_tokens p

-- ASC is left out
abbrev pub tail_tokens : Tail → List Terminal
tail_tokens tail.Nothing = []
tail_tokens (tail.Top by descending limit) =
    terminal.Mark mark.Order ∷ terminal.Mark mark.By ∷ (col_tokens by ++ (when descending mark.Desc ++ (terminal.Mark mark.Limit ∷ terminal.Number limit ∷ [])))
tail_tokens (tail.Group keys having) = terminal.Mark mark.Group ∷ terminal.Mark mark.By ∷ (joined mark.Comma (map col_tokens keys) ++ having_tokens having)
tail_tokens (tail.Skyline dims) = terminal.Mark mark.Skyline ∷ terminal.Mark mark.Of ∷ joined mark.Comma (map dim_tokens dims)

-- the tokens that a query is printed with
unfoldable pub printed_tokens : Select → List Terminal
printed_tokens q =
    terminal.Mark mark.Select ∷ (when q.distinct mark.Distinct ++ (joined mark.Comma (map item_tokens q.items) ++ (source_tokens q.source ++ (where_tokens (is_semi q.source) q.filter ++ tail_tokens q.tail))))

-- the one text of a query
abbrev pub query_text : Select → List ℕ
query_text q = laid_out last.Open (printed_tokens q)
