-- The columns that a bound query names are those that its references stand for; its header and what it prints.
use Rattle.std.proofs.Common.{◌≡◌, ◌∙◌, ap, sym, refl, subst, ℕ, ◌+◌, Bool, true, false, cond, List, [], ◌∷◌, ◌++◌, length, map, filter, Option, Some, None, inl, inr, arith, length-append}
use Rattle.std.specs.List.{list_any, range_with_len}
use Rattle.std.proofs.lemmas.List.FromFn.{length-map-range_with_len}
use Rattle.ch_lists.specs.Members.{In, Each}
use Rattle.ch_pred.specs.Named.{arg_cols, pred_cols, all_cols, printed_cols}
use Rattle.ch_pred.specs.Gate.{IsFull, AreFull}
use Rattle.ch_pred.specs.Sound as sound
use Rattle.ch_pred.specs.declared.bound.Printed.{Printed}
use Rattle.ch_pred.specs.declared.bound.Printed.TheVariants as printed
use Rattle.ch_pred.specs.declared.pred.Col.{Col}
use Rattle.ch_sql.specs.Formed.{IsFormedPred, AreFormed, IsFormedFilter}
use Rattle.ch_sql_grammar.specs.declared.query.Item.{Item}
use Rattle.ch_sql_grammar.specs.declared.query.Item.TheVariants as item
use Rattle.ch_sql_grammar.specs.declared.query.Side.{Side}
use Rattle.ch_sql_grammar.specs.declared.query.Side.TheVariants as side
use Rattle.ch_sql_grammar.specs.Tree.{Plain, Plains, Compare, Between, Within, Like, And, Or, Not, nil, cons}
use Rattle.ch_bind.specs.Binding.{all_printed, star_printed, star_names, item_printed, item_names, printed_of, header_of, arg_of, pred_of, preds_of, filter_of, best_of}
use Rattle.ch_bind.specs.Checks.{is_best}
use Rattle.ch_bind.specs.References.{mere, side_references, pred_references, member_references, filter_references, item_references, items_references}
use Rattle.ch_bind.specs.Scope.{col_at, col_of}
use Rattle.ch_bind.specs.declared.references.Reference.{Reference}
use Rattle.ch_bind.specs.declared.scope.Candidate.{Candidate}
use Rattle.ch_bind.specs.declared.scope.Scope.{Scope}
use Rattle.ch_bind.proofs.Members.{each_nil, each_cons, each_append, each_left, each_right, each_map}

printed_append : (xs ys : List Printed) → printed_cols (xs ++ ys) ≡ printed_cols xs ++ printed_cols ys
printed_append [] ys = refl
printed_append (printed.Column col ∷ xs) ys = ap (λ cs. col ∷ cs) (printed_append xs ys)
printed_append (printed.Best ∷ xs) ys = printed_append xs ys

all_columns : (side : ℕ) (ats : List ℕ) → printed_cols (map (λ at. printed.Column (record { side = side; at = at })) ats) ≡ map (λ at. record { side = side; at = at }) ats
all_columns side [] = refl
all_columns side (at ∷ ats) = ap (λ (cs : List Col). record { side = side; at = at } ∷ cs) (all_columns side ats)

module _ (P : Col → Type 0) (scope : Scope) where
  abbrev pub Stands : Reference → Type 0
  Stands r = P (col_at r.found)

  pub each_printed : (xs ys : List Printed) → Each P (printed_cols xs) → Each P (printed_cols ys) → Each P (printed_cols (xs ++ ys))
  each_printed xs ys h k = subst (Each P) (sym (printed_append xs ys)) (each_append P (printed_cols xs) (printed_cols ys) h k)

  arg_stands : (s : Side) → Each Stands (side_references scope s) → Each P (arg_cols (arg_of scope s))
  arg_stands (side.Column col) h = each_cons P (col_of scope col) [] (h (mere scope col) (inl refl)) (each_nil P)
  arg_stands (side.Value v) h = each_nil P

  mutual
    pub pred_stands : (p : Plain) → Each Stands (pred_references scope p) → Each P (pred_cols (pred_of scope p))
    pred_stands (Compare col cmp s) h = each_cons P (col_of scope col) (arg_cols (arg_of scope s)) (h _ (inl refl)) (arg_stands s (λ r i. h r (inr i)))
    pred_stands (Between col low high) h = each_cons P (col_of scope col) [] (h _ (inl refl)) (each_nil P)
    pred_stands (Within col literals) h = each_cons P (col_of scope col) [] (h _ (inl refl)) (each_nil P)
    pred_stands (Like col prefix) h = each_cons P (col_of scope col) [] (h _ (inl refl)) (each_nil P)
    pred_stands (And members) h = members_stand members h
    pred_stands (Or members) h = members_stand members h
    pred_stands (Not inner) h = pred_stands inner h

    members_stand : (ps : Plains) → Each Stands (member_references scope ps) → Each P (all_cols (preds_of scope ps))
    members_stand nil h = each_nil P
    members_stand (cons p ps) h =
        each_append P (pred_cols (pred_of scope p)) (all_cols (preds_of scope ps))
        (pred_stands p (each_left Stands (pred_references scope p) (member_references scope ps) h))
        (members_stand ps (each_right Stands (pred_references scope p) (member_references scope ps) h))

  pub filter_stands : (f : Option Plain) → Each Stands (filter_references scope f) → Each P (pred_cols (filter_of scope f))
  filter_stands None h = each_nil P
  filter_stands (Some p) h = pred_stands p h

  item_stands : (i : Item) → Each Stands (item_references scope i) → (i ≡ item.Star → Each P (printed_cols (star_printed scope))) → Each P (printed_cols (item_printed scope i))
  item_stands item.Star h star = star refl
  item_stands (item.Column col) h star = each_cons P (col_of scope col) [] (h (mere scope col) (inl refl)) (each_nil P)
  item_stands (item.Max col) h star = each_nil P
  item_stands (item.Min col) h star = each_nil P

  pub items_stand : (items : List Item) → Each Stands (items_references scope items) → (In item.Star items → Each P (printed_cols (star_printed scope))) → Each P (printed_cols (printed_of scope items))
  items_stand [] h star = each_nil P
  items_stand (i ∷ items) h star =
      each_printed (item_printed scope i) (printed_of scope items)
      (item_stands i (each_left Stands (item_references scope i) (items_references scope items) h) (λ e. star (inl (sym e))))
      (items_stand items (each_right Stands (item_references scope i) (items_references scope items) h) (λ m. star (inr m)))

  pub best_stands : (items : List Item) → Each Stands (items_references scope items) → list_any is_best items ≡ true → P (best_of scope items).1
  best_stands [] h any = cc
  best_stands (item.Star ∷ items) h any = best_stands items h any
  best_stands (item.Column col ∷ items) h any = best_stands items (λ r i. h r (inr i)) any
  best_stands (item.Max col ∷ items) h any = h (mere scope col) (inl refl)
  best_stands (item.Min col ∷ items) h any = h (mere scope col) (inl refl)

  all_stand : (side : ℕ) (table : Candidate) → ((at : ℕ) → In at (range_with_len 0 (length table.header)) → P (record { side = side; at = at })) → Each P (printed_cols (all_printed side table))
  all_stand side table h = subst (Each P) (sym (all_columns side (range_with_len 0 (length table.header)))) (each_map P (λ at. record { side = side; at = at }) (range_with_len 0 (length table.header)) h)

  pub star_stands : ((at : ℕ) → In at (range_with_len 0 (length scope.first.header)) → P (record { side = 0; at = at }))
      → (scope.is_join ≡ true → (at : ℕ) → In at (range_with_len 0 (length scope.second.header)) → P (record { side = 1; at = at })) → Each P (printed_cols (star_printed scope))
  star_stands first second = each_printed (all_printed 0 scope.first) _ (all_stand 0 scope.first first) (go scope.is_join refl)
    where
      go : (b : Bool) → scope.is_join ≡ b → Each P (printed_cols (cond b (all_printed 1 scope.second) []))
      go true e = all_stand 1 scope.second (second e)
      go false e = each_nil P

-- one name for each entry
star_sizes : (scope : Scope) → length (star_names scope) ≡ length (star_printed scope)
star_sizes scope = go scope.is_join
  where
    sizes : (side : ℕ) (table : Candidate) → length (all_printed side table) ≡ length table.header
    sizes side table = length-map-range_with_len (λ at. printed.Column (record { side = side; at = at })) 0 (length table.header)

    go : (b : Bool) → length (scope.first.header ++ cond b scope.second.header []) ≡ length (all_printed 0 scope.first ++ cond b (all_printed 1 scope.second) [])
    go true = omega (
      arith,
      length-append scope.first.header scope.second.header,
      length-append (all_printed 0 scope.first) (all_printed 1 scope.second),
      sizes 0 scope.first,
      sizes 1 scope.second,
    )
    go false = omega (arith, length-append scope.first.header [], length-append (all_printed 0 scope.first) [], sizes 0 scope.first)

item_sizes : (scope : Scope) (i : Item) → length (item_names scope i) ≡ length (item_printed scope i)
item_sizes scope item.Star = star_sizes scope
item_sizes scope (item.Column col) = refl
item_sizes scope (item.Max col) = refl
item_sizes scope (item.Min col) = refl

pub header_sizes : (scope : Scope) (items : List Item) → length (header_of scope items) ≡ length (printed_of scope items)
header_sizes scope [] = refl
header_sizes scope (i ∷ items) =
    omega (arith, length-append (item_names scope i) (header_of scope items), length-append (item_printed scope i) (printed_of scope items), item_sizes scope i, header_sizes scope items)

-- the best values that are printed are those of the items
filter_append : {X : Type 0} (p : X → Bool) (xs ys : List X) → filter p (xs ++ ys) ≡ filter p xs ++ filter p ys
filter_append p [] ys = refl
filter_append {X} p (x ∷ xs) ys = go (filter_append p xs ys) (p x)
  where
    go : filter p (xs ++ ys) ≡ filter p xs ++ filter p ys → (b : Bool) → cond b (x ∷ filter p (xs ++ ys)) (filter p (xs ++ ys)) ≡ cond b (x ∷ filter p xs) (filter p xs) ++ filter p ys
    go later true = ap (λ zs. x ∷ zs) later
    go later false = later

no_best : (side : ℕ) (ats : List ℕ) → filter sound.is_best (map (λ at. printed.Column (record { side = side; at = at })) ats) ≡ []
no_best side [] = refl
no_best side (at ∷ ats) = no_best side ats

star_bests : (scope : Scope) → filter sound.is_best (star_printed scope) ≡ []
star_bests scope =
    let others = cond scope.is_join (all_printed 1 scope.second) [] in
    filter_append sound.is_best (all_printed 0 scope.first) others
    ∙ (ap (λ (xs : List Printed). xs ++ filter sound.is_best others) (no_best 0 (range_with_len 0 (length scope.first.header))) ∙ go scope.is_join)
  where
    go : (b : Bool) → filter sound.is_best (cond b (all_printed 1 scope.second) []) ≡ []
    go true = no_best 1 (range_with_len 0 (length scope.second.header))
    go false = refl

item_bests : (scope : Scope) (i : Item) (items : List Item)
    → length (filter sound.is_best (item_printed scope i)) + length (filter is_best items) ≡ length (filter is_best (i ∷ items))
item_bests scope item.Star items = omega (arith, ap length (star_bests scope))
item_bests scope (item.Column col) items = omega arith
item_bests scope (item.Max col) items = omega arith
item_bests scope (item.Min col) items = omega arith

pub bests_printed : (scope : Scope) (items : List Item) → length (filter sound.is_best (printed_of scope items)) ≡ length (filter is_best items)
bests_printed scope [] = refl
bests_printed scope (i ∷ items) = omega (
  arith,
  ap length (filter_append sound.is_best (item_printed scope i) (printed_of scope items)),
  length-append (filter sound.is_best (item_printed scope i)) (filter sound.is_best (printed_of scope items)),
  item_bests scope i items,
  bests_printed scope items,
)

-- a filter that is formed has no empty list
mutual
  pred_full : (scope : Scope) (p : Plain) → IsFormedPred p → IsFull (pred_of scope p)
  pred_full scope (Compare col cmp s) h = tt
  pred_full scope (Between col low high) h = tt
  pred_full scope (Within col []) h = absurd (h refl)
  pred_full scope (Within col (l ∷ ls)) h = tt
  pred_full scope (Like col prefix) h = tt
  pred_full scope (And nil) h = absurd (omega (arith, h.0))
  pred_full scope (And (cons p ps)) h = (pred_full scope p h.1.0, members_full scope ps h.1.1)
  pred_full scope (Or nil) h = absurd (omega (arith, h.0))
  pred_full scope (Or (cons p ps)) h = (pred_full scope p h.1.0, members_full scope ps h.1.1)
  pred_full scope (Not inner) h = pred_full scope inner h

  members_full : (scope : Scope) (ps : Plains) → AreFormed ps → AreFull (preds_of scope ps)
  members_full scope nil h = tt
  members_full scope (cons p ps) h = (pred_full scope p h.0, members_full scope ps h.1)

pub filter_whole : (scope : Scope) (f : Option Plain) → IsFormedFilter f → sound.IsWhole (filter_of scope f)
filter_whole scope None h = inl refl
filter_whole scope (Some p) h = inr (pred_full scope p h)
