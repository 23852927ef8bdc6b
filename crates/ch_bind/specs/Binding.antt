-- The bound query that a query stands for.
use Rattle.std.specs.Prelude.{ℕ, nat_abs, Bool, true, false, ◌==◌, List, [], ◌∷◌, ◌++◌, map, flat_map, length, Option, Some, None, unwrap_or, if◌then◌else◌}
use Rattle.std.specs.List.{range_with_len}
use Rattle.ch_cells.specs.declared.cell.Kind.{Kind}
use Rattle.ch_pred.specs.Plain as bound
use Rattle.ch_pred.specs.declared.bound.Bound.{Bound}
use Rattle.ch_pred.specs.declared.bound.Dim.{Dim}
use Rattle.ch_pred.specs.declared.bound.Printed.{Printed}
use Rattle.ch_pred.specs.declared.bound.Printed.TheVariants as printed
use Rattle.ch_pred.specs.declared.bound.Shape.{Shape}
use Rattle.ch_pred.specs.declared.bound.Shape.TheVariants as shape
use Rattle.ch_pred.specs.declared.pred.Arg.{Arg}
use Rattle.ch_pred.specs.declared.pred.Arg.TheVariants as arg
use Rattle.ch_pred.specs.declared.pred.Col.{Col}
use Rattle.ch_sql_grammar.specs.declared.query.Agg.{Agg}
use Rattle.ch_sql_grammar.specs.declared.query.Agg.TheVariants as agg
use Rattle.ch_sql_grammar.specs.declared.query.ColumnRef.{ColumnRef}
use Rattle.ch_sql_grammar.specs.declared.query.Having.{Having}
use Rattle.ch_sql_grammar.specs.declared.query.Item.{Item}
use Rattle.ch_sql_grammar.specs.declared.query.Item.TheVariants as item
use Rattle.ch_sql_grammar.specs.declared.query.Side.{Side}
use Rattle.ch_sql_grammar.specs.declared.query.Side.TheVariants as side
use Rattle.ch_sql_grammar.specs.declared.query.SkyDim.{SkyDim}
use Rattle.ch_sql_grammar.specs.declared.query.Source.{Source}
use Rattle.ch_sql_grammar.specs.declared.query.Source.TheVariants as source
use Rattle.ch_sql_grammar.specs.declared.query.Tail.{Tail}
use Rattle.ch_sql_grammar.specs.declared.query.Tail.TheVariants as tail
use Rattle.ch_sql_grammar.specs.Tree.{Plain, Plains, Compare, Between, Within, Like, And, Or, Not, nil, cons, Select}
use Rattle.ch_bind.specs.Checks.{first_carried, second_carried}
use Rattle.ch_bind.specs.Scope.{col_of, kind_at, inner_col_of, names_of, number_of, scope_of}
use Rattle.ch_bind.specs.declared.scope.Candidate.{Candidate}
use Rattle.ch_bind.specs.declared.scope.Scope.{Scope}
use Rattle.ch_bind.specs.declared.shape.TableShape.{TableShape}

-- one entry for each side
abbrev pub per_side : {X : Type 0} → Source → X → X → List X
per_side (source.One table) a b = a ∷ []
per_side (source.Join left right first_on second_on) a b = a ∷ b ∷ []
per_side (source.Semi outer inner key inner_key) a b = a ∷ b ∷ []

abbrev pub tables_of : List TableShape → Source → List ℕ
tables_of shapes s = map (λ name. unwrap_or (number_of shapes name) 0) (names_of s)

abbrev pub kinds_at : Candidate → List ℕ → List Kind
kinds_at table carried = map (kind_at table) carried

abbrev pub carried_of : Scope → Select → List (List ℕ)
carried_of scope q = per_side q.source (first_carried scope q) (second_carried scope q)

abbrev pub kinds_of : Scope → Select → List (List Kind)
kinds_of scope q = per_side q.source (kinds_at scope.first (first_carried scope q)) (kinds_at scope.second (second_carried scope q))

-- the columns of a table, all of them
abbrev pub all_printed : ℕ → Candidate → List Printed
all_printed n table = map (λ at. printed.Column (record { side = n; at = at })) (range_with_len 0 (length table.header))

abbrev pub star_printed : Scope → List Printed
star_printed scope = all_printed 0 scope.first ++ (if scope.is_join then all_printed 1 scope.second else [])

abbrev pub star_names : Scope → List (List ℕ)
star_names scope = scope.first.header ++ (if scope.is_join then scope.second.header else [])

-- ')'
abbrev pub close : List ℕ
close = 41 ∷ []

-- 'MAX(' and 'MIN('
abbrev pub max_open : List ℕ
max_open = 77 ∷ 65 ∷ 88 ∷ 40 ∷ []

abbrev pub min_open : List ℕ
min_open = 77 ∷ 73 ∷ 78 ∷ 40 ∷ []

abbrev pub item_printed : Scope → Item → List Printed
item_printed scope item.Star = star_printed scope
item_printed scope (item.Column col) = printed.Column (col_of scope col) ∷ []
item_printed scope (item.Max col) = printed.Best ∷ []
item_printed scope (item.Min col) = printed.Best ∷ []

abbrev pub item_names : Scope → Item → List (List ℕ)
item_names scope item.Star = star_names scope
item_names scope (item.Column col) = col.name ∷ []
item_names scope (item.Max col) = (max_open ++ col.name ++ close) ∷ []
item_names scope (item.Min col) = (min_open ++ col.name ++ close) ∷ []

abbrev pub printed_of : Scope → List Item → List Printed
printed_of scope items = flat_map (item_printed scope) items

abbrev pub header_of : Scope → List Item → List (List ℕ)
header_of scope items = flat_map (item_names scope) items

-- a predicate with each name replaced by its column
abbrev pub arg_of : Scope → Side → Arg
arg_of scope (side.Column col) = arg.Column (col_of scope col)
arg_of scope (side.Value v) = arg.Value v

abbrev mutual
  pub pred_of : Scope → Plain → bound.Plain
  pred_of scope (Compare col cmp other) = bound.Compare (col_of scope col) cmp (arg_of scope other)
  pred_of scope (Between col low high) = bound.Between (col_of scope col) low high
  pred_of scope (Within col literals) = bound.Within (col_of scope col) literals
  pred_of scope (Like col prefix) = bound.Like (col_of scope col) prefix
  pred_of scope (And members) = bound.And (preds_of scope members)
  pred_of scope (Or members) = bound.Or (preds_of scope members)
  pred_of scope (Not inner) = bound.Not (pred_of scope inner)

  pub preds_of : Scope → Plains → bound.Plains
  preds_of scope nil = bound.nil
  preds_of scope (cons p ps) = bound.cons (pred_of scope p) (preds_of scope ps)

abbrev pub filter_of : Scope → Option Plain → bound.Plain
filter_of scope None = bound.Truth
filter_of scope (Some p) = pred_of scope p

-- the best value of a group: whether it is the greatest, and its column
abbrev pub best_of : Scope → List Item → Bool × Col
best_of scope [] = (false, record { side = 0; at = 0 })
best_of scope (item.Star ∷ items) = best_of scope items
best_of scope (item.Column col ∷ items) = best_of scope items
best_of scope (item.Max col ∷ items) = (true, col_of scope col)
best_of scope (item.Min col ∷ items) = (false, col_of scope col)

abbrev pub summed : Scope → Agg → Option Col
summed scope (agg.Sum col) = Some (col_of scope col)
summed scope agg.Count = None

abbrev pub dim_of : Scope → SkyDim → Dim
dim_of scope d = record { col = col_of scope d.col; max = d.max }

abbrev pub plain_shape : Bool → Shape
plain_shape true = shape.Distinct
plain_shape false = shape.Filter

abbrev pub group_shape : Scope → List Item → List ColumnRef → Option Having → Shape
group_shape scope items keys None = shape.Group (map (col_of scope) keys) (best_of scope items).0 (best_of scope items).1
group_shape scope items keys (Some having) = shape.Having (map (col_of scope) keys) (summed scope having.agg) having.above

-- of a query of one table
abbrev pub tail_shape : Scope → Bool → List Item → Tail → Shape
tail_shape scope distinct items tail.Nothing = plain_shape distinct
tail_shape scope distinct items (tail.Top by descending limit) = shape.Top (col_of scope by) descending (nat_abs limit)
tail_shape scope distinct items (tail.Group keys having) = group_shape scope items keys having
tail_shape scope distinct items (tail.Skyline dims) = shape.Skyline (map (dim_of scope) dims)

-- the columns of ON, the first table's first
abbrev pub join_shape : Col → Col → Shape
join_shape a b = if a.side == 0 then shape.Join a b else shape.Join b a

abbrev pub shape_of : Scope → Select → Source → Shape
shape_of scope q (source.One table) = tail_shape scope q.distinct q.items q.tail
shape_of scope q (source.Join left right first_on second_on) = join_shape (col_of scope first_on) (col_of scope second_on)
shape_of scope q (source.Semi outer inner key inner_key) = shape.Semi (col_of scope key) (inner_col_of scope inner_key)

-- a bound query whose filter is a plain tree
pub record PlainBound : Type 0 where
  pub tables : List ℕ
  pub carried : List (List ℕ)
  pub kinds : List (List Kind)
  pub header : List (List ℕ)
  pub printed : List Printed
  pub filter : bound.Plain
  pub shape : Shape

abbrev pub plain_bound : Bound → PlainBound
plain_bound b = record { tables = b.tables; carried = b.carried; kinds = b.kinds; header = b.header; printed = b.printed; filter = bound.plain_of b.filter; shape = b.shape }

abbrev pub bound_in : Scope → Select → List TableShape → PlainBound
bound_in scope q shapes = record {
  tables = tables_of shapes q.source;
  carried = carried_of scope q;
  kinds = kinds_of scope q;
  header = header_of scope q.items;
  printed = printed_of scope q.items;
  filter = filter_of scope q.filter;
  shape = shape_of scope q q.source;
}

-- what a query stands for where no check finds anything
abbrev pub bound_of : Select → List TableShape → PlainBound
bound_of q shapes = bound_in (scope_of q.source shapes) q shapes
