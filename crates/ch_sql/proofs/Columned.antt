-- The columns of a query are no more than its tokens.
use Rattle.std.proofs.Common.{◌≡◌, ◌∙◌, ap, sym, refl, subst, ℕ, suc, ◌+◌, ◌≤◌, List, [], ◌∷◌, ◌++◌, length, map, flat_map, Option, Some, None, option_map, ◌⊎◌, inl, inr, arith, length-append}
use Rattle.ch_sql_grammar.specs.declared.terminal.Mark.TheVariants as mark
use Rattle.ch_sql_grammar.specs.declared.terminal.Terminal.{Terminal}
use Rattle.ch_sql_grammar.specs.declared.terminal.Terminal.TheVariants as terminal
use Rattle.ch_sql_grammar.specs.declared.query.ColumnRef.{ColumnRef}
use Rattle.ch_sql_grammar.specs.declared.query.Side.{Side}
use Rattle.ch_sql_grammar.specs.declared.query.Side.TheVariants as side
use Rattle.ch_sql_grammar.specs.declared.query.Item.{Item}
use Rattle.ch_sql_grammar.specs.declared.query.Item.TheVariants as item
use Rattle.ch_sql_grammar.specs.declared.query.Agg.{Agg}
use Rattle.ch_sql_grammar.specs.declared.query.Agg.TheVariants as agg
use Rattle.ch_sql_grammar.specs.declared.query.Having.{Having}
use Rattle.ch_sql_grammar.specs.declared.query.SkyDim.{SkyDim}
use Rattle.ch_sql_grammar.specs.Tree.{Plain, Plains, nil, cons, plains, all_of, any_of, Select}
use Rattle.ch_sql_grammar.specs.Grammar as grammar
use Rattle.ch_sql_grammar.specs.Grammar.{Pred, conj, or, Conj, neg, and, Neg, not, parens, atom, Form, IsQuery, qualifier, col_tokens, side_tokens, atom_tokens, atom_tree, pred_tokens, conj_tokens, neg_tokens, conj_trees, neg_trees, neg_tree, pred_tree, conj_tree, each, item_tokens, where_tokens, and_tokens, agg_tokens, having_tokens, dim_tokens, ending_tokens, endings_tokens, ending_tree, endings_tree, one_tokens, distinct_tokens, join_tokens, semi_tokens, form_tokens, form_tree}
use Rattle.ch_sql.specs.Columns.{item_columns, side_columns, pred_columns, member_columns, filter_columns, agg_columns, having_columns, tail_columns, columns_of}

col_some : (col : ColumnRef) → 1 ≤ length (col_tokens col)
col_some col = omega (arith, length-append (qualifier col.table) (terminal.Name col.name ∷ []))

-- filters

columns_in : List Plain → ℕ
columns_in ps = length (member_columns (plains ps))

columns_append : (ps qs : List Plain) → columns_in (ps ++ qs) ≡ columns_in ps + columns_in qs
unfolding columns_in
columns_append [] qs = omega arith
columns_append (p ∷ ps) qs = omega (arith, columns_append ps qs, length-append (pred_columns p) (member_columns (plains (ps ++ qs))), length-append (pred_columns p) (member_columns (plains ps)))

columns_one : (p : Plain) → columns_in (p ∷ []) ≡ length (pred_columns p)
unfolding columns_in
columns_one p = omega (arith, length-append (pred_columns p) [])

any_columns : (ps : List Plain) → length (pred_columns (any_of ps)) ≡ columns_in ps
unfolding columns_in
any_columns [] = refl
any_columns (p ∷ []) = sym (columns_one p)
any_columns (p ∷ r ∷ ps) = refl

all_columns : (ps : List Plain) → length (pred_columns (all_of ps)) ≡ columns_in ps
unfolding columns_in
all_columns [] = refl
all_columns (p ∷ []) = sym (columns_one p)
all_columns (p ∷ r ∷ ps) = refl

side_few : (s : Side) → length (side_columns s) ≤ length (side_tokens s)
side_few (side.Column col) = col_some col
side_few (side.Value v) = omega arith

atom_few : (a : grammar.Atom) → length (pred_columns (atom_tree a)) ≤ length (atom_tokens a)
atom_few (grammar.compare col c s) = omega (arith, col_some col, side_few s, length-append (col_tokens col) (terminal.Mark (grammar.cmp_mark c) ∷ side_tokens s))
atom_few (grammar.between col low high) = omega (arith, col_some col, length-append (col_tokens col) (terminal.Mark mark.Between ∷ grammar.literal_token low ∷ terminal.Mark mark.And ∷ grammar.literal_token high ∷ []))
atom_few (grammar.within col front last) = omega (arith, col_some col, length-append (col_tokens col) (terminal.Mark mark.In ∷ terminal.Mark mark.LeftParen ∷ (grammar.listed_tokens front ++ (grammar.literal_token last ∷ terminal.Mark mark.RightParen ∷ []))))
atom_few (grammar.like col text) = omega (arith, col_some col, length-append (col_tokens col) (terminal.Mark mark.Like ∷ terminal.Text text ∷ []))

mutual
  pred_few : (p : Pred) → columns_in (conj_trees p) ≤ length (pred_tokens p)
  pred_few (conj c) = omega (arith, conj_few c, columns_one (all_of (neg_trees c)), all_columns (neg_trees c))
  pred_few (or p c) = omega (arith, pred_few p, conj_few c, columns_append (conj_trees p) (all_of (neg_trees c) ∷ []), columns_one (all_of (neg_trees c)), all_columns (neg_trees c), length-append (pred_tokens p) (terminal.Mark mark.Or ∷ conj_tokens c))

  conj_few : (c : Conj) → columns_in (neg_trees c) ≤ length (conj_tokens c)
  conj_few (neg n) = omega (arith, neg_few n, columns_one (neg_tree n))
  conj_few (and c n) = omega (arith, conj_few c, neg_few n, columns_append (neg_trees c) (neg_tree n ∷ []), columns_one (neg_tree n), length-append (conj_tokens c) (terminal.Mark mark.And ∷ neg_tokens n))

  neg_few : (n : Neg) → length (pred_columns (neg_tree n)) ≤ length (neg_tokens n)
  neg_few (not n) = omega (arith, neg_few n)
  neg_few (parens p) = omega (arith, pred_few p, any_columns (conj_trees p), length-append (pred_tokens p) (terminal.Mark mark.RightParen ∷ []))
  neg_few (atom a) = atom_few a

where_few : (filter : Option Pred) → length (filter_columns (option_map pred_tree filter)) ≤ length (where_tokens filter)
where_few None = omega arith
where_few (Some p) = omega (arith, pred_few p, any_columns (conj_trees p))

and_few : (filter : Option Conj) → length (filter_columns (option_map conj_tree filter)) ≤ length (and_tokens filter)
and_few None = omega arith
and_few (Some c) = omega (arith, conj_few c, all_columns (neg_trees c))

-- items

item_few : (x : Item) → length (item_columns x) ≤ length (item_tokens x)
item_few item.Star = omega arith
item_few (item.Column col) = col_some col
item_few (item.Max col) = omega arith
item_few (item.Min col) = omega arith

items_few : (front : List Item) (last : Item) → length (flat_map item_columns (front ++ (last ∷ []))) ≤ length (grammar.items_tokens front last)
items_few [] last = omega (arith, item_few last, length-append (item_columns last) [])
items_few (x ∷ xs) last = omega (
  arith,
  item_few x,
  items_few xs last,
  length-append (item_columns x) (flat_map item_columns (xs ++ (last ∷ []))),
  length-append (item_tokens x ++ (terminal.Mark mark.Comma ∷ each item_tokens xs)) (item_tokens last),
  length-append (item_tokens x) (terminal.Mark mark.Comma ∷ each item_tokens xs),
  length-append (each item_tokens xs) (item_tokens last),
)

-- tails

keys_few : (front : List ColumnRef) → length front ≤ length (each col_tokens front)
keys_few [] = omega arith
keys_few (x ∷ xs) = omega (arith, keys_few xs, length-append (col_tokens x) (terminal.Mark mark.Comma ∷ each col_tokens xs))

dims_few : (front : List SkyDim) → length front ≤ length (each dim_tokens front)
dims_few [] = omega arith
dims_few (x ∷ xs) = omega (arith, dims_few xs, length-append (dim_tokens x) (terminal.Mark mark.Comma ∷ each dim_tokens xs))

columns_count : (dims : List SkyDim) → length (map (λ (d : SkyDim). d.col) dims) ≡ length dims
columns_count [] = refl
columns_count (d ∷ dims) = ap suc (columns_count dims)

having_few : (having : Option Having) → length (having_columns having) ≤ length (having_tokens having)
having_few None = omega arith
having_few (Some h) = agg_few h.agg h
  where
    agg_few : (a : Agg) (h : Having) → length (agg_columns a) ≤ length (having_tokens (Some h))
    agg_few (agg.Sum col) h = omega arith
    agg_few agg.Count h = omega arith

ending_few : (e : grammar.Ending) → length (tail_columns (ending_tree e)) ≤ length (ending_tokens e)
ending_few (grammar.top by d n) = omega arith
ending_few (grammar.group front last having) = omega (
  arith,
  keys_few front,
  having_few having,
  col_some last,
  length-append (front ++ (last ∷ [])) (having_columns having),
  length-append front (last ∷ []),
  length-append (each col_tokens front) (col_tokens last ++ having_tokens having),
  length-append (col_tokens last) (having_tokens having),
)
ending_few (grammar.skyline front last) = omega (arith, dims_few front, columns_count (front ++ (last ∷ [])), length-append front (last ∷ []), length-append (each dim_tokens front) (dim_tokens last), length-append (col_tokens last.col) (terminal.Mark (grammar.dim_mark last.max) ∷ []))

endings_few : (e : Option grammar.Ending) → length (tail_columns (endings_tree e)) ≤ length (endings_tokens e)
endings_few None = omega arith
endings_few (Some e) = ending_few e

-- forms

heads_few : (front : List Item) (last : Item) (table : List ℕ) → length (flat_map item_columns (front ++ (last ∷ []))) + 3 ≤ length (one_tokens front last table)
heads_few front last table = omega (arith, items_few front last, length-append (grammar.items_tokens front last) (terminal.Mark mark.From ∷ terminal.Name table ∷ []))

four : (a b c d : List ColumnRef) → length (a ++ (b ++ (c ++ d))) ≡ length a + (length b + (length c + length d))
four a b c d = omega (arith, length-append a (b ++ (c ++ d)), length-append b (c ++ d), length-append c d)

form_few : (form : Form) → length (columns_of (form_tree form)) ≤ length (form_tokens form)
form_few (grammar.distinct front last table filter) = omega (
  arith,
  four (flat_map item_columns (front ++ (last ∷ []))) [] (filter_columns (option_map pred_tree filter)) [],
  heads_few front last table,
  where_few filter,
  length-append (distinct_tokens front last table) (where_tokens filter),
)
form_few (grammar.join front last left right first_on second_on filter) =
    let joined = terminal.Mark mark.Join ∷ terminal.Name right ∷ terminal.Mark mark.On ∷ (col_tokens first_on ++ (terminal.Mark mark.Eq ∷ col_tokens second_on)) in
    omega (
      arith,
      four (flat_map item_columns (front ++ (last ∷ []))) (first_on ∷ second_on ∷ []) (filter_columns (option_map pred_tree filter)) [],
      heads_few front last left,
      where_few filter,
      length-append (join_tokens front last left right first_on second_on) (where_tokens filter),
      length-append (one_tokens front last left) joined,
    )
form_few (grammar.semi front last outer key inner_key inner filter) =
    let inside = terminal.Mark mark.In ∷ terminal.Mark mark.LeftParen ∷ terminal.Mark mark.Select ∷ (col_tokens inner_key ++ (terminal.Mark mark.From ∷ terminal.Name inner ∷ terminal.Mark mark.RightParen ∷ [])) in
    omega (
      arith,
      four (flat_map item_columns (front ++ (last ∷ []))) (key ∷ inner_key ∷ []) (filter_columns (option_map conj_tree filter)) [],
      heads_few front last outer,
      and_few filter,
      length-append (semi_tokens front last outer key inner_key inner) (and_tokens filter),
      length-append (one_tokens front last outer) (terminal.Mark mark.Where ∷ (col_tokens key ++ inside)),
      length-append (col_tokens key) inside,
    )
form_few (grammar.one front last table filter ending) = omega (
  arith,
  four (flat_map item_columns (front ++ (last ∷ []))) [] (filter_columns (option_map pred_tree filter)) (tail_columns (endings_tree ending)),
  heads_few front last table,
  where_few filter,
  endings_few ending,
  length-append (one_tokens front last table) (where_tokens filter ++ endings_tokens ending),
  length-append (where_tokens filter) (endings_tokens ending),
)

spelled_few : (tokens : List Terminal) (form : Form) → (tokens ≡ form_tokens form) ⊎ (tokens ≡ form_tokens form ++ (terminal.Mark mark.Semicolon ∷ [])) → length (columns_of (form_tree form)) ≤ length tokens
spelled_few tokens form (inl e) = omega (arith, form_few form, ap length e)
spelled_few tokens form (inr e) = omega (arith, form_few form, ap length e, length-append (form_tokens form) (terminal.Mark mark.Semicolon ∷ []))

pub columns_few : (tokens : List Terminal) (q : Select) → IsQuery tokens q → length (columns_of q) ≤ length tokens
columns_few tokens q is = omega (arith, spelled_few tokens is.form is.spelled, ap (λ t. length (columns_of t)) is.stands_for)
