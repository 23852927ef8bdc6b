-- What the references of a query stand for: columns of the query's tables, each of which is carried.
use Rattle.std.proofs.Common.{◌≡◌, ◌∙◌, ap, sym, refl, subst, ℕ, zero, suc, ◌+◌, ◌<◌, ◌≤◌, Bool, true, false, cond, ◌||◌, eqb, List, [], ◌∷◌, ◌++◌, length, Option, Some, None, IfSome, ◌⊎◌, inl, inr, arith}
use Rattle.std.specs.Prelude.{bytes_eq}
use Rattle.std.specs.List.{range_with_len}
use Rattle.std.specs.Option.{option_or}
use Rattle.std.proofs.lemmas.Bool.{cases_eq, eq-eqb, and_from, or_left, or_right}
use Rattle.ch_lists.specs.Members.{In, Each}
use Rattle.ch_lists.proofs.Members.{In-filter_from}
use Rattle.ch_pred.specs.declared.pred.Col.{Col}
use Rattle.ch_sql.specs.Columns.{item_columns}
use Rattle.ch_sql_grammar.specs.declared.query.Agg.{Agg}
use Rattle.ch_sql_grammar.specs.declared.query.Agg.TheVariants as agg
use Rattle.ch_sql_grammar.specs.declared.query.ColumnRef.{ColumnRef}
use Rattle.ch_sql_grammar.specs.declared.query.Having.{Having}
use Rattle.ch_sql_grammar.specs.declared.query.Item.{Item}
use Rattle.ch_sql_grammar.specs.declared.query.Side.{Side}
use Rattle.ch_sql_grammar.specs.declared.query.Side.TheVariants as side
use Rattle.ch_sql_grammar.specs.declared.query.Source.{Source}
use Rattle.ch_sql_grammar.specs.declared.query.Source.TheVariants as source
use Rattle.ch_sql_grammar.specs.declared.query.Tail.{Tail}
use Rattle.ch_sql_grammar.specs.declared.query.Tail.TheVariants as tail
use Rattle.ch_sql_grammar.specs.Tree.{Plain, Plains, Compare, Between, Within, Like, And, Or, Not, nil, cons, Select}
use Rattle.ch_bind.specs.Checks.{column_refusal, column_error, carried_in, first_carried, second_carried, first_whole, second_whole}
use Rattle.ch_bind.specs.First.{first_from, first}
use Rattle.ch_bind.specs.References.{mere, dim_reference, side_references, source_references, pred_references, member_references, filter_references, agg_references, having_references, tail_references, item_references, items_references, references_of, is_named, stands_at}
use Rattle.ch_bind.specs.Scope.{found_among, found_in, found_inner, place_on, is_of, col_at}
use Rattle.ch_bind.specs.declared.error.BindError.{BindError}
use Rattle.ch_bind.specs.declared.references.Reference.{Reference}
use Rattle.ch_bind.specs.declared.scope.Candidate.{Candidate}
use Rattle.ch_bind.specs.declared.scope.Found.{Found}
use Rattle.ch_bind.specs.declared.scope.Found.TheVariants as found
use Rattle.ch_bind.specs.declared.scope.Scope.{Scope}
use Rattle.ch_bind.proofs.Clearing.{behind}
use Rattle.ch_bind.proofs.Members.{each_nil, each_cons, each_append, each_map, each_flat_map, any-from_In}

-- a fact of what each column of the text is found to be, but for the inner key of a semi-join
module _ (Q : Found → Type 0) (scope : Scope) (here : (col : ColumnRef) → Q (found_in scope col)) where
  abbrev Said : Reference → Type 0
  Said r = Q r.found

  one_said : (r : Reference) → Q r.found → Each Said (r ∷ [])
  one_said r h = each_cons Said r [] h (each_nil Said)

  side_said : (s : Side) → Each Said (side_references scope s)
  side_said (side.Column col) = one_said (mere scope col) (here col)
  side_said (side.Value v) = each_nil Said

  mutual
    pub pred_said : (p : Plain) → Each Said (pred_references scope p)
    pred_said (Compare col cmp s) = each_cons Said _ (side_references scope s) (here col) (side_said s)
    pred_said (Between col low high) = one_said _ (here col)
    pred_said (Within col literals) = one_said _ (here col)
    pred_said (Like col prefix) = one_said _ (here col)
    pred_said (And members) = members_said members
    pred_said (Or members) = members_said members
    pred_said (Not inner) = pred_said inner

    members_said : (ps : Plains) → Each Said (member_references scope ps)
    members_said nil = each_nil Said
    members_said (cons p ps) = each_append Said (pred_references scope p) (member_references scope ps) (pred_said p) (members_said ps)

  pub filter_said : (f : Option Plain) → Each Said (filter_references scope f)
  filter_said None = each_nil Said
  filter_said (Some p) = pred_said p

  agg_said : (a : Agg) → Each Said (agg_references scope a)
  agg_said (agg.Sum col) = one_said _ (here col)
  agg_said agg.Count = each_nil Said

  having_said : (h : Option Having) → Each Said (having_references scope h)
  having_said None = each_nil Said
  having_said (Some h) = agg_said h.agg

  tail_said : (t : Tail) → Each Said (tail_references scope t)
  tail_said tail.Nothing = each_nil Said
  tail_said (tail.Top by descending limit) = one_said _ (here by)
  tail_said (tail.Group keys having) = each_append Said _ (having_references scope having) (each_map Said (mere scope) keys (λ col i. here col)) (having_said having)
  tail_said (tail.Skyline dims) = each_map Said (dim_reference scope) dims (λ d i. here d.col)

  pub items_said : (items : List Item) → Each Said (items_references scope items)
  items_said items = each_flat_map Said (item_references scope) items (λ i m. each_map Said (mere scope) (item_columns i) (λ col k. here col))

  source_said : ((col : ColumnRef) → Q (found_inner scope col)) → (s : Source) → Each Said (source_references scope s)
  source_said inner (source.One table) = each_nil Said
  source_said inner (source.Join left right a b) = each_cons Said _ (mere scope b ∷ []) (here a) (one_said _ (here b))
  source_said inner (source.Semi outer within a b) = each_cons Said _ (record { found = found_inner scope b; clash = false } ∷ []) (here a) (one_said _ (inner b))

  pub all_said : ((col : ColumnRef) → Q (found_inner scope col)) → (q : Select) → Each Said (references_of scope q)
  all_said inner q =
      let behind_source = each_append Said (filter_references scope q.filter) (tail_references scope q.tail) (filter_said q.filter) (tail_said q.tail) in
      let behind_items = each_append Said (source_references scope q.source) (filter_references scope q.filter ++ tail_references scope q.tail) (source_said inner q.source) behind_source in
      each_append Said (items_references scope q.items) (source_references scope q.source ++ (filter_references scope q.filter ++ tail_references scope q.tail)) (items_said q.items) behind_items

-- a column that was found is one of a table's
abbrev pub IsOn : Scope → Found → Type 0
IsOn scope found.Nowhere = Unit {0}
IsOn scope found.Twice = Unit {0}
IsOn scope (found.At col) = ((col.side ≡ 0) × (col.at < length scope.first.header)) ⊎ ((col.side ≡ 1) × (col.at < length scope.second.header))

first_within : (p : List ℕ → Bool) (k : ℕ) (xs : List (List ℕ)) → IfSome (first_from p k xs) (λ at. at < k + length xs)
first_within p k [] = tt
first_within p k (x ∷ xs) = go (p x) (first_within p (k + 1) xs)
  where
    later : (o : Option ℕ) → IfSome o (λ at. at < k + 1 + length xs) → IfSome o (λ at. at < k + suc (length xs))
    later None h = tt
    later (Some at) h = omega arith

    go : (b : Bool) → IfSome (first_from p (k + 1) xs) (λ at. at < k + 1 + length xs) → IfSome (cond b (Some k) (first_from p (k + 1) xs)) (λ at. at < k + suc (length xs))
    go true h = omega arith
    go false h = later (first_from p (k + 1) xs) h

zero_before : (o : Option ℕ) (n : ℕ) → IfSome o (λ at. at < 0 + n) → IfSome o (λ at. at < n)
zero_before None n h = tt
zero_before (Some at) n h = omega arith

place_within : (table : Candidate) (col : ColumnRef) → IfSome (place_on table col) (λ at. at < length table.header)
place_within table col = go (is_of col.table table.name)
  where
    go : (b : Bool) → IfSome (cond b (first (bytes_eq col.name) table.header) None) (λ at. at < length table.header)
    go true = zero_before (first (bytes_eq col.name) table.header) (length table.header) (first_within (bytes_eq col.name) 0 table.header)
    go false = tt

among_on : (scope : Scope) (a b : Option ℕ) → IfSome a (λ at. at < length scope.first.header) → IfSome b (λ at. at < length scope.second.header) → IsOn scope (found_among a b)
among_on scope None None h k = tt
among_on scope (Some at) None h k = inl (refl, h)
among_on scope None (Some at) h k = inr (refl, k)
among_on scope (Some at) (Some other) h k = tt

found_on : (scope : Scope) (col : ColumnRef) → IsOn scope (found_in scope col)
found_on scope col = among_on scope (place_on scope.first col) _ (place_within scope.first col) (go scope.is_join)
  where
    go : (b : Bool) → IfSome (cond b (place_on scope.second col) None) (λ at. at < length scope.second.header)
    go true = place_within scope.second col
    go false = tt

inner_on : (scope : Scope) (col : ColumnRef) → IsOn scope (found_inner scope col)
inner_on scope col = among_on scope None (place_on scope.second col) tt (place_within scope.second col)

-- each reference stands for a column, where the check of columns finds nothing
found_so : (place : ℕ) (f : Found) (rest : Option BindError) → option_or (column_error place f) rest ≡ None → (c : Col) × (f ≡ found.At c)
found_so place found.Nowhere rest h = cc
found_so place found.Twice rest h = cc
found_so place (found.At c) rest h = (c, refl)

pub there : (place : ℕ) (refs : List Reference) → column_refusal place refs ≡ None → Each (λ r. (c : Col) × (r.found ≡ found.At c)) refs
there place [] h r i = absurd i
there place (r ∷ rs) h x (inl e) =
    let f = found_so place r.found (column_refusal (place + 1) rs) h in
    (f.0, ap (λ (z : Reference). z.found) e ∙ f.1)
there place (r ∷ rs) h x (inr i) = there (place + 1) rs (behind (column_error place r.found) (column_refusal (place + 1) rs) h) x i

pub in_range : (a n k : ℕ) → a ≤ k → k < a + n → In k (range_with_len a n)
in_range a zero k l h = absurd (omega arith)
in_range a (suc n) k l h = elim (cases_eq k a) [ inl e ↦ inl e | inr ne ↦ inr (in_range (a + 1) n k (omega arith) (omega arith)) ]

-- a column is one of those that the query carries
abbrev pub IsKept : Scope → Select → Col → Type 0
IsKept scope q c = ((c.side ≡ 0) × In c.at (first_carried scope q)) ⊎ ((c.side ≡ 1) × In c.at (second_carried scope q))

pub kept_whole : (table : Candidate) (side at : ℕ) (whole : Bool) (refs : List Reference) → whole ≡ true → at < length table.header → In at (carried_in table side whole refs)
kept_whole table side at whole refs w h = In-filter_from (λ k. whole || is_named refs side k) at _ (in_range 0 (length table.header) at (omega arith) (omega arith)) (or_left whole (is_named refs side at) w)

kept_named : (table : Candidate) (side at : ℕ) (whole : Bool) (refs : List Reference) → is_named refs side at ≡ true → at < length table.header → In at (carried_in table side whole refs)
kept_named table side at whole refs w h = In-filter_from (λ k. whole || is_named refs side k) at _ (in_range 0 (length table.header) at (omega arith) (omega arith)) (or_right whole (is_named refs side at) w)

named_there : (refs : List Reference) (r : Reference) (c : Col) (side : ℕ) → In r refs → r.found ≡ found.At c → c.side ≡ side → is_named refs side c.at ≡ true
named_there refs r c side i e s =
    any-from_In (λ z. stands_at side c.at z.found) r refs i (ap (stands_at side c.at) e ∙ and_from (eqb c.side side) (eqb c.at c.at) (eq-eqb c.side side s) (eq-eqb c.at c.at refl))

kept : (scope : Scope) (q : Select) (r : Reference) (c : Col) → In r (references_of scope q) → r.found ≡ found.At c → IsOn scope (found.At c) → IsKept scope q (col_at r.found)
kept scope q r c i e on =
    let refs = references_of scope q in
    let at : IsKept scope q c = elim on [
      | inl w ↦ inl (w.0, kept_named scope.first 0 c.at (first_whole q) refs (named_there refs r c 0 i e w.0) w.1)
      | inr w ↦ inr (w.0, kept_named scope.second 1 c.at (second_whole scope q) refs (named_there refs r c 1 i e w.0) w.1)
    ] in
    subst (λ (f : Found). IsKept scope q (col_at f)) (sym e) at

pub all_on : (scope : Scope) (q : Select) → Each (λ r. IsOn scope r.found) (references_of scope q)
all_on scope q = all_said (IsOn scope) scope (found_on scope) (inner_on scope) q

pub all_kept : (scope : Scope) (q : Select) → column_refusal 0 (references_of scope q) ≡ None → Each (λ r. IsKept scope q (col_at r.found)) (references_of scope q)
all_kept scope q h r i =
    let f = there 0 (references_of scope q) h r i in
    kept scope q r f.0 i f.1 (subst (IsOn scope) f.1 (all_on scope q r i))
