-- The places of a head, and what a token does there.
use Rattle.std.specs.Prelude.{ℕ, Bool, true, false, not, ◌&&◌, List, [], ◌∷◌, ◌++◌, Option, Some, None, if◌then◌else◌}
use Rattle.ch_sql_grammar.specs.declared.terminal.Mark.{Mark}
use Rattle.ch_sql_grammar.specs.declared.terminal.Mark.TheVariants as mark
use Rattle.ch_sql_grammar.specs.declared.terminal.Terminal.{Terminal}
use Rattle.ch_sql_grammar.specs.declared.query.ColumnRef.{ColumnRef}
use Rattle.ch_sql_grammar.specs.declared.query.Item.{Item}
use Rattle.ch_sql_grammar.specs.declared.query.Item.TheVariants as item
use Rattle.ch_sql_grammar.specs.declared.query.Source.TheVariants as source
use Rattle.ch_sql_grammar.specs.declared.head.Head.{Head}
use Rattle.ch_sql_grammar.specs.declared.head.HeadTaker.{HeadTaker}
use Rattle.ch_sql_grammar.specs.declared.head.HeadTaker.TheVariants as taker
use Rattle.ch_sql_grammar.specs.declared.head.HeadPlace.{HeadPlace}
use Rattle.ch_sql_grammar.specs.declared.head.HeadPlace.TheVariants as place
use Rattle.ch_sql_grammar.specs.declared.head.HeadStep.{HeadStep}
use Rattle.ch_sql_grammar.specs.declared.head.HeadStep.TheVariants as step
use Rattle.ch_sql_grammar.specs.Tree.{bare_col, col_of}
use Rattle.ch_sql_grammar.specs.Tokens.{has_mark, name_in}

abbrev pub on_mark : Mark → Terminal → HeadPlace → HeadStep
on_mark m t next = if has_mark m t then step.On next else step.Stuck

abbrev pub on_name : Option (List ℕ) → (List ℕ → HeadPlace) → HeadStep
on_name (Some n) next = step.On (next n)
on_name None next = step.Stuck

abbrev pub one_head : Bool → List Item → List ℕ → Head
one_head distinct items table = record { distinct = distinct; items = items; source = source.One table }

abbrev pub join_head : List Item → List ℕ → List ℕ → ColumnRef → ColumnRef → Head
join_head items left right first_on second_on = record { distinct = false; items = items; source = source.Join left right first_on second_on }

abbrev pub semi_head : List Item → List ℕ → List ℕ → ColumnRef → ColumnRef → Head
semi_head items outer inner key inner_key = record { distinct = false; items = items; source = source.Semi outer inner key inner_key }

abbrev pub extreme : Bool → ColumnRef → Item
extreme max col = if max then item.Max col else item.Min col

-- the place behind a column
abbrev pub taken_by : HeadTaker → ColumnRef → HeadPlace
taken_by (taker.Item distinct items) col = place.Listing distinct (items ++ (item.Column col ∷ []))
taken_by (taker.Extreme items max) col = place.Closing items max col
taken_by (taker.FirstOn items left right) col = place.Equals items left right col
taken_by (taker.SecondOn items left right first_on) col = place.Whole (join_head items left right first_on col)
taken_by (taker.InnerKey items outer key) col = place.InnerFrom items outer key col

abbrev pub items_step_of : Bool → List Item → Terminal → HeadStep
items_step_of distinct items t =
    if has_mark mark.Star t then step.On (place.Listing distinct (items ++ (item.Star ∷ []))) else
    if has_mark mark.Max t && not distinct then step.On (place.Extreme items true) else
    if has_mark mark.Min t && not distinct then step.On (place.Extreme items false) else
    on_name (name_in t) (λ n. place.Name (taker.Item distinct items) n)

abbrev pub listing_step_of : Bool → List Item → Terminal → HeadStep
listing_step_of distinct items t = if has_mark mark.Comma t then step.On (place.Items distinct items) else on_mark mark.From t (place.From distinct items)

abbrev pub closing_step_of : List Item → Bool → ColumnRef → Terminal → HeadStep
closing_step_of items max col t = on_mark mark.RightParen t (place.Listing false (items ++ (extreme max col ∷ [])))

abbrev pub table_step_of : Bool → List Item → List ℕ → Terminal → HeadStep
table_step_of distinct items table t = if has_mark mark.Join t && not distinct then step.On (place.JoinTable items table) else step.Done (one_head distinct items table)

abbrev pub dotted_step : HeadTaker → List ℕ → List ℕ → HeadStep
dotted_step taker table n = step.On (taken_by taker (col_of table n))

abbrev pub named_step : HeadPlace → List ℕ → HeadStep
named_step (place.Taking taker) n = step.On (place.Name taker n)
named_step (place.Dot taker table) n = dotted_step taker table n
named_step (place.From distinct items) n = step.On (place.Table distinct items n)
named_step (place.JoinTable items left) n = step.On (place.On items left n)
named_step (place.InnerTable items outer key inner_key) n = step.On (place.InnerClose items outer key inner_key n)
named_step p n = step.Stuck

abbrev pub name_given : HeadPlace → Option (List ℕ) → HeadStep
name_given p (Some n) = named_step p n
name_given p None = step.Stuck

abbrev pub name_step_of : HeadPlace → Terminal → HeadStep
name_step_of p t = name_given p (name_in t)

abbrev pub mark_step_of : HeadPlace → Terminal → HeadStep
mark_step_of place.Start t = on_mark mark.Select t place.Select
mark_step_of (place.Extreme items max) t = on_mark mark.LeftParen t (place.Taking (taker.Extreme items max))
mark_step_of (place.On items left right) t = on_mark mark.On t (place.Taking (taker.FirstOn items left right))
mark_step_of (place.Equals items left right first_on) t = on_mark mark.Eq t (place.Taking (taker.SecondOn items left right first_on))
mark_step_of (place.InnerFrom items outer key inner_key) t = on_mark mark.From t (place.InnerTable items outer key inner_key)
mark_step_of (place.InnerClose items outer key inner_key inner) t = on_mark mark.RightParen t (place.Whole (semi_head items outer inner key inner_key))
mark_step_of p t = step.Stuck

-- where no column may end before the token
abbrev pub settled_of : HeadPlace → Terminal → HeadStep
settled_of place.Select t = if has_mark mark.Distinct t then step.On (place.Items true []) else items_step_of false [] t
settled_of (place.Items distinct items) t = items_step_of distinct items t
settled_of (place.Closing items max col) t = closing_step_of items max col t
settled_of (place.Listing distinct items) t = listing_step_of distinct items t
settled_of (place.Table distinct items table) t = table_step_of distinct items table t
settled_of (place.Whole head) t = step.Done head
settled_of (place.Name taker n) t = step.Stuck
settled_of (place.Taking taker) t = name_step_of (place.Taking taker) t
settled_of (place.Dot taker table) t = name_step_of (place.Dot taker table) t
settled_of (place.From distinct items) t = name_step_of (place.From distinct items) t
settled_of (place.JoinTable items left) t = name_step_of (place.JoinTable items left) t
settled_of (place.InnerTable items outer key inner_key) t = name_step_of (place.InnerTable items outer key inner_key) t
settled_of p t = mark_step_of p t

-- a column with one name ends where no dot comes
abbrev pub step_of : HeadPlace → Terminal → HeadStep
step_of (place.Name taker n) t = if has_mark mark.Dot t then step.On (place.Dot taker n) else settled_of (taken_by taker (bare_col n)) t
step_of p t = settled_of p t

-- the head, where the tokens may end

abbrev pub settled_end : HeadPlace → Option Head
settled_end (place.Table distinct items table) = Some (one_head distinct items table)
settled_end (place.Whole head) = Some head
settled_end p = None

abbrev pub end_of : HeadPlace → Option Head
end_of (place.Name taker n) = settled_end (taken_by taker (bare_col n))
end_of p = settled_end p
