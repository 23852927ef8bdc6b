-- The places of a tail, and where a token leads from there.
use Rattle.std.specs.Prelude.{ℕ, ℤ, Bool, true, false, ◌&&◌, List, [], ◌∷◌, ◌++◌, Option, Some, None, if◌then◌else◌}
use Rattle.ch_sql_grammar.specs.declared.terminal.Mark.{Mark}
use Rattle.ch_sql_grammar.specs.declared.terminal.Mark.TheVariants as mark
use Rattle.ch_sql_grammar.specs.declared.terminal.Terminal.{Terminal}
use Rattle.ch_sql_grammar.specs.declared.query.ColumnRef.{ColumnRef}
use Rattle.ch_sql_grammar.specs.declared.query.SkyDim.{SkyDim}
use Rattle.ch_sql_grammar.specs.declared.query.Agg.{Agg}
use Rattle.ch_sql_grammar.specs.declared.query.Agg.TheVariants as agg
use Rattle.ch_sql_grammar.specs.declared.query.Having.{Having}
use Rattle.ch_sql_grammar.specs.declared.query.Tail.{Tail}
use Rattle.ch_sql_grammar.specs.declared.query.Tail.TheVariants as tail
use Rattle.ch_sql_grammar.specs.declared.tail.TailTaker.{TailTaker}
use Rattle.ch_sql_grammar.specs.declared.tail.TailTaker.TheVariants as taker
use Rattle.ch_sql_grammar.specs.declared.tail.TailPlace.{TailPlace}
use Rattle.ch_sql_grammar.specs.declared.tail.TailPlace.TheVariants as place
use Rattle.ch_sql_grammar.specs.Tree.{bare_col, col_of}
use Rattle.ch_sql_grammar.specs.Tokens.{has_mark, name_in, number_in}

abbrev pub on_mark : Mark → Terminal → TailPlace → Option TailPlace
on_mark m t next = if has_mark m t then Some next else None

abbrev pub having_of : Agg → ℤ → Having
having_of a n = record { agg = a; above = n }

abbrev pub dim_of : ColumnRef → Bool → SkyDim
dim_of col max = record { col = col; max = max }

-- the place behind a column
abbrev pub taken_by : TailTaker → ColumnRef → TailPlace
taken_by taker.By col = place.Direction col
taken_by (taker.Key keys) col = place.Keys (keys ++ (col ∷ []))
taken_by (taker.Sum keys) col = place.SumClose keys col
taken_by (taker.Dim dims) col = place.DimDirection dims col

abbrev pub start_step_of : Bool → Terminal → Option TailPlace
start_step_of begins t =
    if has_mark mark.Semicolon t then Some (place.Ended tail.Nothing) else
    if has_mark mark.Order t && begins then Some place.Order else
    if has_mark mark.Group t && begins then Some place.Group else
    if has_mark mark.Skyline t && begins then Some place.Skyline else None

abbrev pub direction_step_of : ColumnRef → Terminal → Option TailPlace
direction_step_of by t =
    if has_mark mark.Asc t then Some (place.Limit by false) else
    if has_mark mark.Desc t then Some (place.Limit by true) else on_mark mark.Limit t (place.LimitNumber by false)

abbrev pub keys_step_of : List ColumnRef → Terminal → Option TailPlace
keys_step_of keys t =
    if has_mark mark.Comma t then Some (place.Taking (taker.Key keys)) else
    if has_mark mark.Having t then Some (place.Having keys) else on_mark mark.Semicolon t (place.Ended (tail.Group keys None))

abbrev pub having_step_of : List ColumnRef → Terminal → Option TailPlace
having_step_of keys t = if has_mark mark.Sum t then Some (place.SumOpen keys) else on_mark mark.Count t (place.CountOpen keys)

abbrev pub dim_step_of : List SkyDim → ColumnRef → Terminal → Option TailPlace
dim_step_of dims col t =
    if has_mark mark.Max t then Some (place.Dims (dims ++ (dim_of col true ∷ []))) else
    if has_mark mark.Min t then Some (place.Dims (dims ++ (dim_of col false ∷ []))) else None

abbrev pub dims_step_of : List SkyDim → Terminal → Option TailPlace
dims_step_of dims t = if has_mark mark.Comma t then Some (place.Taking (taker.Dim dims)) else on_mark mark.Semicolon t (place.Ended (tail.Skyline dims))

abbrev pub dotted_step : TailTaker → List ℕ → List ℕ → Option TailPlace
dotted_step taker table n = Some (taken_by taker (col_of table n))

abbrev pub named_step : TailPlace → List ℕ → Option TailPlace
named_step (place.Taking taker) n = Some (place.Name taker n)
named_step (place.Dot taker table) n = dotted_step taker table n
named_step p n = None

abbrev pub name_given : TailPlace → Option (List ℕ) → Option TailPlace
name_given p (Some n) = named_step p n
name_given p None = None

abbrev pub name_step_of : TailPlace → Terminal → Option TailPlace
name_step_of p t = name_given p (name_in t)

abbrev pub numbered_step : TailPlace → ℤ → Option TailPlace
numbered_step (place.LimitNumber by descending) n = Some (place.Whole (tail.Top by descending n))
numbered_step (place.AboveNumber keys a) n = Some (place.Whole (tail.Group keys (Some (having_of a n))))
numbered_step p n = None

abbrev pub number_given : TailPlace → Option ℤ → Option TailPlace
number_given p (Some n) = numbered_step p n
number_given p None = None

abbrev pub number_step_of : TailPlace → Terminal → Option TailPlace
number_step_of p t = number_given p (number_in t)

abbrev pub mark_step_of : TailPlace → Terminal → Option TailPlace
mark_step_of place.Order t = on_mark mark.By t (place.Taking taker.By)
mark_step_of (place.Limit by descending) t = on_mark mark.Limit t (place.LimitNumber by descending)
mark_step_of (place.SumOpen keys) t = on_mark mark.LeftParen t (place.Taking (taker.Sum keys))
mark_step_of (place.SumClose keys col) t = on_mark mark.RightParen t (place.Above keys (agg.Sum col))
mark_step_of (place.CountOpen keys) t = on_mark mark.LeftParen t (place.CountStar keys)
mark_step_of (place.CountStar keys) t = on_mark mark.Star t (place.CountClose keys)
mark_step_of (place.CountClose keys) t = on_mark mark.RightParen t (place.Above keys agg.Count)
mark_step_of (place.Above keys a) t = on_mark mark.Gt t (place.AboveNumber keys a)
mark_step_of (place.Whole whole) t = on_mark mark.Semicolon t (place.Ended whole)
mark_step_of p t = None

-- where no column may end before the token
abbrev pub settled_of : TailPlace → Terminal → Option TailPlace
settled_of (place.Start begins) t = start_step_of begins t
settled_of place.Group t = on_mark mark.By t (place.Taking (taker.Key []))
settled_of place.Skyline t = on_mark mark.Of t (place.Taking (taker.Dim []))
settled_of (place.Direction by) t = direction_step_of by t
settled_of (place.Keys keys) t = keys_step_of keys t
settled_of (place.Having keys) t = having_step_of keys t
settled_of (place.DimDirection dims col) t = dim_step_of dims col t
settled_of (place.Dims dims) t = dims_step_of dims t
settled_of (place.Name taker n) t = None
settled_of (place.Taking taker) t = name_step_of (place.Taking taker) t
settled_of (place.Dot taker table) t = name_step_of (place.Dot taker table) t
settled_of (place.LimitNumber by descending) t = number_step_of (place.LimitNumber by descending) t
settled_of (place.AboveNumber keys a) t = number_step_of (place.AboveNumber keys a) t
settled_of p t = mark_step_of p t

-- a column with one name ends where no dot comes
abbrev pub step_of : TailPlace → Terminal → Option TailPlace
step_of (place.Name taker n) t = if has_mark mark.Dot t then Some (place.Dot taker n) else settled_of (taken_by taker (bare_col n)) t
step_of p t = settled_of p t

-- the tail, where the tokens may end

abbrev pub settled_end : TailPlace → Option Tail
settled_end (place.Start begins) = Some tail.Nothing
settled_end (place.Keys keys) = Some (tail.Group keys None)
settled_end (place.Dims dims) = Some (tail.Skyline dims)
settled_end (place.Whole whole) = Some whole
settled_end (place.Ended whole) = Some whole
settled_end p = None

abbrev pub end_of : TailPlace → Option Tail
end_of (place.Name taker n) = settled_end (taken_by taker (bare_col n))
end_of p = settled_end p
