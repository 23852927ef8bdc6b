-- The column references of a query, in the order of its text.
use Rattle.std.specs.Prelude.{List, [], ◌∷◌, ◌++◌, map, flat_map, Option, Some, None}
use Rattle.ch_sql_grammar.specs.declared.query.ColumnRef.{ColumnRef}
use Rattle.ch_sql_grammar.specs.declared.query.Side.{Side}
use Rattle.ch_sql_grammar.specs.declared.query.Side.TheVariants as side
use Rattle.ch_sql_grammar.specs.declared.query.Item.{Item}
use Rattle.ch_sql_grammar.specs.declared.query.Item.TheVariants as item
use Rattle.ch_sql_grammar.specs.declared.query.Source.{Source}
use Rattle.ch_sql_grammar.specs.declared.query.Source.TheVariants as source
use Rattle.ch_sql_grammar.specs.declared.query.Agg.{Agg}
use Rattle.ch_sql_grammar.specs.declared.query.Agg.TheVariants as agg
use Rattle.ch_sql_grammar.specs.declared.query.Having.{Having}
use Rattle.ch_sql_grammar.specs.declared.query.SkyDim.{SkyDim}
use Rattle.ch_sql_grammar.specs.declared.query.Tail.{Tail}
use Rattle.ch_sql_grammar.specs.declared.query.Tail.TheVariants as tail
use Rattle.ch_sql_grammar.specs.Tree.{Plain, Plains, Compare, Between, Within, Like, And, Or, Not, nil, cons, Select}

abbrev pub item_columns : Item → List ColumnRef
item_columns item.Star = []
item_columns (item.Column col) = col ∷ []
item_columns (item.Max col) = col ∷ []
item_columns (item.Min col) = col ∷ []

-- the columns of ON, or the key and the inner key of a semi-join
abbrev pub source_columns : Source → List ColumnRef
source_columns (source.One table) = []
source_columns (source.Join left right first_on second_on) = first_on ∷ second_on ∷ []
source_columns (source.Semi outer inner key inner_key) = key ∷ inner_key ∷ []

abbrev pub side_columns : Side → List ColumnRef
side_columns (side.Column col) = col ∷ []
side_columns (side.Value v) = []

abbrev mutual
  pub pred_columns : Plain → List ColumnRef
  pred_columns (Compare col cmp side) = col ∷ side_columns side
  pred_columns (Between col low high) = col ∷ []
  pred_columns (Within col literals) = col ∷ []
  pred_columns (Like col prefix) = col ∷ []
  pred_columns (And members) = member_columns members
  pred_columns (Or members) = member_columns members
  pred_columns (Not inner) = pred_columns inner

  pub member_columns : Plains → List ColumnRef
  member_columns nil = []
  member_columns (cons p ps) = pred_columns p ++ member_columns ps

abbrev pub filter_columns : Option Plain → List ColumnRef
filter_columns None = []
filter_columns (Some p) = pred_columns p

abbrev pub agg_columns : Agg → List ColumnRef
agg_columns (agg.Sum col) = col ∷ []
agg_columns agg.Count = []

abbrev pub having_columns : Option Having → List ColumnRef
having_columns None = []
having_columns (Some h) = agg_columns h.agg

abbrev pub tail_columns : Tail → List ColumnRef
tail_columns tail.Nothing = []
tail_columns (tail.Top by descending limit) = by ∷ []
tail_columns (tail.Group keys having) = keys ++ having_columns having
tail_columns (tail.Skyline dims) = map (λ d. d.col) dims

abbrev pub columns_of : Select → List ColumnRef
columns_of q = flat_map item_columns q.items ++ (source_columns q.source ++ (filter_columns q.filter ++ tail_columns q.tail))
