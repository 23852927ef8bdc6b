-- As many references as columns.
use Rattle.std.proofs.Common.{◌≡◌, ◌∙◌, ap, suc, sym, refl, ◌≤◌, ◌<◌, ◌^◌, List, [], ◌∷◌, ◌++◌, length, map, flat_map, Option, Some, None, arith, length-append}
use Rattle.std.proofs.lemmas.List.{length-map}
use Rattle.ch_sql_grammar.specs.declared.query.Agg.TheVariants as agg
use Rattle.ch_sql_grammar.specs.declared.query.Having.{Having}
use Rattle.ch_sql_grammar.specs.declared.query.Item.{Item}
use Rattle.ch_sql_grammar.specs.declared.query.Side.{Side}
use Rattle.ch_sql_grammar.specs.declared.query.Side.TheVariants as side
use Rattle.ch_sql_grammar.specs.declared.query.SkyDim.{SkyDim}
use Rattle.ch_sql_grammar.specs.declared.query.Source.{Source}
use Rattle.ch_sql_grammar.specs.declared.query.Source.TheVariants as source
use Rattle.ch_sql_grammar.specs.declared.query.Tail.{Tail}
use Rattle.ch_sql_grammar.specs.declared.query.Tail.TheVariants as tail
use Rattle.ch_sql_grammar.specs.Tree.{Plain, Plains, Compare, Between, Within, Like, And, Or, Not, nil, cons, Select}
use Rattle.ch_sql.specs.Columns as columns
use Rattle.ch_sql.specs.Parsed.{IsParsed}
use Rattle.ch_sql.proofs.Readings.{parsed_columns}
use Rattle.ch_bind.specs.References.{side_references, source_references, pred_references, member_references, filter_references, having_references, tail_references, item_references, items_references, references_of, mere, dim_reference}
use Rattle.ch_bind.specs.Checks.{dims_count}
use Rattle.ch_bind.specs.declared.scope.Scope.{Scope}

side_columned : (scope : Scope) (s : Side) → length (side_references scope s) ≡ length (columns.side_columns s)
side_columned scope (side.Column col) = refl
side_columned scope (side.Value v) = refl

source_columned : (scope : Scope) (s : Source) → length (source_references scope s) ≡ length (columns.source_columns s)
source_columned scope (source.One table) = refl
source_columned scope (source.Join left right a b) = refl
source_columned scope (source.Semi outer inner a b) = refl

mutual
  pred_columned : (scope : Scope) (p : Plain) → length (pred_references scope p) ≡ length (columns.pred_columns p)
  pred_columned scope (Compare col cmp s) = ap suc (side_columned scope s)
  pred_columned scope (Between col low high) = refl
  pred_columned scope (Within col literals) = refl
  pred_columned scope (Like col prefix) = refl
  pred_columned scope (And members) = members_columned scope members
  pred_columned scope (Or members) = members_columned scope members
  pred_columned scope (Not inner) = pred_columned scope inner

  members_columned : (scope : Scope) (ps : Plains) → length (member_references scope ps) ≡ length (columns.member_columns ps)
  members_columned scope nil = refl
  members_columned scope (cons p ps) = omega (arith, length-append (pred_references scope p) (member_references scope ps), length-append (columns.pred_columns p) (columns.member_columns ps), pred_columned scope p, members_columned scope ps)

filter_columned : (scope : Scope) (f : Option Plain) → length (filter_references scope f) ≡ length (columns.filter_columns f)
filter_columned scope None = refl
filter_columned scope (Some p) = pred_columned scope p

having_columned : (scope : Scope) (h : Option Having) → length (having_references scope h) ≡ length (columns.having_columns h)
having_columned scope None = refl
having_columned scope (Some h) = elim h.agg as (λ a. length (having_references scope (Some (record h { agg = a }))) ≡ length (columns.having_columns (Some (record h { agg = a })))) [ agg.Sum col ↦ refl | agg.Count ↦ refl ]

tail_columned : (scope : Scope) (t : Tail) → length (tail_references scope t) ≡ length (columns.tail_columns t)
tail_columned scope tail.Nothing = refl
tail_columned scope (tail.Top by descending limit) = refl
tail_columned scope (tail.Group keys having) = omega (arith, length-append (map (mere scope) keys) (having_references scope having), length-append keys (columns.having_columns having), length-map keys (mere scope), having_columned scope having)
tail_columned scope (tail.Skyline dims) = length-map dims (dim_reference scope) ∙ sym (length-map dims (λ (d : SkyDim). d.col))

items_columned : (scope : Scope) (items : List Item) → length (items_references scope items) ≡ length (flat_map columns.item_columns items)
items_columned scope [] = refl
items_columned scope (i ∷ items) = omega (arith, length-append (item_references scope i) (items_references scope items), length-append (columns.item_columns i) (flat_map columns.item_columns items), length-map (columns.item_columns i) (mere scope), items_columned scope items)

pub as_many : (scope : Scope) (q : Select) → length (references_of scope q) ≡ length (columns.columns_of q)
as_many scope q =
    let items = flat_map columns.item_columns q.items in
    omega (
      arith,
      length-append (items_references scope q.items) (source_references scope q.source ++ (filter_references scope q.filter ++ tail_references scope q.tail)),
      length-append (source_references scope q.source) (filter_references scope q.filter ++ tail_references scope q.tail),
      length-append (filter_references scope q.filter) (tail_references scope q.tail),
      length-append (flat_map columns.item_columns q.items) (columns.source_columns q.source ++ (columns.filter_columns q.filter ++ columns.tail_columns q.tail)),
      length-append (columns.source_columns q.source) (columns.filter_columns q.filter ++ columns.tail_columns q.tail),
      length-append (columns.filter_columns q.filter) (columns.tail_columns q.tail),
      items_columned scope q.items,
      source_columned scope q.source,
      filter_columned scope q.filter,
      tail_columned scope q.tail,
    )

dims_counted : (t : Tail) → dims_count t ≤ length (columns.tail_columns t)
dims_counted tail.Nothing = omega arith
dims_counted (tail.Top by descending limit) = omega arith
dims_counted (tail.Group keys having) = omega arith
dims_counted (tail.Skyline dims) = omega (arith, length-map dims (λ (d : SkyDim). d.col))

dims_within : (q : Select) → dims_count q.tail ≤ length (columns.columns_of q)
dims_within q = omega (
  arith,
  dims_counted q.tail,
  length-append (flat_map columns.item_columns q.items) (columns.source_columns q.source ++ (columns.filter_columns q.filter ++ columns.tail_columns q.tail)),
  length-append (columns.source_columns q.source) (columns.filter_columns q.filter ++ columns.tail_columns q.tail),
  length-append (columns.filter_columns q.filter) (columns.tail_columns q.tail),
)

pub parsed_dims : (q : Select) → IsParsed q → dims_count q.tail < 2 ^ 32
parsed_dims q p = let h = parsed_columns q p in omega (arith, dims_within q)

pub parsed_references : (scope : Scope) (q : Select) → IsParsed q → length (references_of scope q) < 2 ^ 32
parsed_references scope q p = let h = parsed_columns q p in omega (arith, as_many scope q)
