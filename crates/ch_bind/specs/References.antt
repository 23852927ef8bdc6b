-- What stands at each column reference of a query, in the order of its text: what it stands for, and whether what begins
-- there compares kinds that don't suit each other.
use Rattle.std.specs.Prelude.{ℕ, Bool, true, false, ◌&&◌, ◌==◌, List, [], ◌∷◌, ◌++◌, map, flat_map, Option, Some, None}
use Rattle.std.specs.List.{list_any}
use Rattle.ch_cells.specs.declared.cell.Kind.{Kind}
use Rattle.ch_cells.specs.declared.cell.Kind.TheVariants as kind
use Rattle.ch_pred.specs.declared.pred.Literal.{Literal}
use Rattle.ch_pred.specs.declared.pred.Literal.TheVariants as literal
use Rattle.ch_sql_grammar.specs.declared.query.ColumnRef.{ColumnRef}
use Rattle.ch_sql_grammar.specs.declared.query.Side.{Side}
use Rattle.ch_sql_grammar.specs.declared.query.Side.TheVariants as side
use Rattle.ch_sql_grammar.specs.declared.query.Source.{Source}
use Rattle.ch_sql_grammar.specs.declared.query.Source.TheVariants as source
use Rattle.ch_sql_grammar.specs.declared.query.Agg.{Agg}
use Rattle.ch_sql_grammar.specs.declared.query.Agg.TheVariants as agg
use Rattle.ch_sql_grammar.specs.declared.query.Having.{Having}
use Rattle.ch_sql_grammar.specs.declared.query.Item.{Item}
use Rattle.ch_sql_grammar.specs.declared.query.SkyDim.{SkyDim}
use Rattle.ch_sql_grammar.specs.declared.query.Tail.{Tail}
use Rattle.ch_sql_grammar.specs.declared.query.Tail.TheVariants as tail
use Rattle.ch_sql_grammar.specs.Tree.{Plain, Plains, Compare, Between, Within, Like, And, Or, Not, nil, cons, Select}
use Rattle.ch_sql.specs.Columns.{item_columns}
use Rattle.ch_bind.specs.Scope.{col_at, found_in, found_inner, kind_of}
use Rattle.ch_bind.specs.declared.references.Reference.{Reference}
use Rattle.ch_bind.specs.declared.scope.Found.{Found}
use Rattle.ch_bind.specs.declared.scope.Found.TheVariants as found
use Rattle.ch_bind.specs.declared.scope.Scope.{Scope}

-- a number beside a text; a column without rows suits everything
abbrev pub clashes : Kind → Kind → Bool
clashes kind.Number kind.Text = true
clashes kind.Text kind.Number = true
clashes a b = false

abbrev pub literal_kind : Literal → Kind
literal_kind (literal.Number n) = kind.Number
literal_kind (literal.Text text) = kind.Text

abbrev pub found_kind : Scope → Found → Kind
found_kind scope f = kind_of scope (col_at f)

abbrev pub ref_kind : Scope → ColumnRef → Kind
ref_kind scope col = found_kind scope (found_in scope col)

abbrev pub side_kind : Scope → Side → Kind
side_kind scope (side.Column col) = ref_kind scope col
side_kind scope (side.Value v) = literal_kind v

-- a column whose place begins something that asks for kinds
abbrev pub asking : Scope → Bool → ColumnRef → Reference
asking scope clash col = record { found = found_in scope col; clash = clash }

abbrev pub mere : Scope → ColumnRef → Reference
mere scope col = asking scope false col

abbrev pub of_kind : Scope → Kind → ColumnRef → Reference
of_kind scope k col = asking scope (clashes (ref_kind scope col) k) col

abbrev pub has_clash : Kind → List Literal → Bool
has_clash k literals = list_any (λ l. clashes k (literal_kind l)) literals

abbrev pub beside_literals : Scope → ColumnRef → List Literal → Reference
beside_literals scope col literals = asking scope (has_clash (ref_kind scope col) literals) col

abbrev pub item_references : Scope → Item → List Reference
item_references scope i = map (mere scope) (item_columns i)

abbrev pub items_references : Scope → List Item → List Reference
items_references scope items = flat_map (item_references scope) items

abbrev pub side_references : Scope → Side → List Reference
side_references scope (side.Column col) = mere scope col ∷ []
side_references scope (side.Value v) = []

abbrev pub source_references : Scope → Source → List Reference
source_references scope (source.One table) = []
source_references scope (source.Join left right first_on second_on) =
    asking scope (clashes (ref_kind scope first_on) (ref_kind scope second_on)) first_on ∷ mere scope second_on ∷ []
source_references scope (source.Semi outer inner key inner_key) =
    asking scope (clashes (ref_kind scope key) (found_kind scope (found_inner scope inner_key))) key
    ∷ record { found = found_inner scope inner_key; clash = false } ∷ []

abbrev mutual
  pub pred_references : Scope → Plain → List Reference
  pred_references scope (Compare col cmp other) = of_kind scope (side_kind scope other) col ∷ side_references scope other
  pred_references scope (Between col low high) = beside_literals scope col (low ∷ high ∷ []) ∷ []
  pred_references scope (Within col literals) = beside_literals scope col literals ∷ []
  pred_references scope (Like col prefix) = of_kind scope kind.Text col ∷ []
  pred_references scope (And members) = member_references scope members
  pred_references scope (Or members) = member_references scope members
  pred_references scope (Not inner) = pred_references scope inner

  pub member_references : Scope → Plains → List Reference
  member_references scope nil = []
  member_references scope (cons p ps) = pred_references scope p ++ member_references scope ps

abbrev pub filter_references : Scope → Option Plain → List Reference
filter_references scope None = []
filter_references scope (Some p) = pred_references scope p

abbrev pub agg_references : Scope → Agg → List Reference
agg_references scope (agg.Sum col) = of_kind scope kind.Number col ∷ []
agg_references scope agg.Count = []

abbrev pub having_references : Scope → Option Having → List Reference
having_references scope None = []
having_references scope (Some h) = agg_references scope h.agg

abbrev pub dim_reference : Scope → SkyDim → Reference
dim_reference scope d = of_kind scope kind.Number d.col

abbrev pub tail_references : Scope → Tail → List Reference
tail_references scope tail.Nothing = []
tail_references scope (tail.Top by descending limit) = mere scope by ∷ []
tail_references scope (tail.Group keys having) = map (mere scope) keys ++ having_references scope having
tail_references scope (tail.Skyline dims) = map (dim_reference scope) dims

abbrev pub references_of : Scope → Select → List Reference
references_of scope q = items_references scope q.items ++ (source_references scope q.source ++ (filter_references scope q.filter ++ tail_references scope q.tail))

-- a column of a side is named
abbrev pub stands_at : ℕ → ℕ → Found → Bool
stands_at side at found.Nowhere = false
stands_at side at found.Twice = false
stands_at side at (found.At col) = col.side == side && col.at == at

abbrev pub is_named : List Reference → ℕ → ℕ → Bool
is_named refs side at = list_any (λ r. stands_at side at r.found) refs
