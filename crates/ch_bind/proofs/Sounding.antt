-- Each bound query that binding gives is sound.
use Rattle.std.proofs.Common.{◌≡◌, ◌≢◌, ◌∙◌, ap, sym, refl, subst, ℕ, zero, suc, ◌+◌, ◌<◌, ◌≤◌, Bool, true, false, cond, not, ◌||◌, eqb, List, [], ◌∷◌, ◌++◌, length, map, filter, get_or, All, Option, Some, None, Result, Ok, Err, IfOk, ◌⊎◌, inl, inr, arith}
use Rattle.std.specs.Prelude.{ℤ, option_map, nat_lt}
use Rattle.std.specs.List.{list_any, range_with_len}
use Rattle.std.specs.Option.{option_or}
use Rattle.std.proofs.lemmas.Bool.{eqb-true, eqb-false, eq-eqb, ltb-false, and_parts, and_from}
use Rattle.std.proofs.lemmas.List.{length-map}
use Rattle.std.proofs.lemmas.List.Elements.{All-nil, All-cons}
use Rattle.ch_cells.specs.declared.cell.Kind.{Kind}
use Rattle.ch_cells.specs.declared.cell.Kind.TheVariants as kind
use Rattle.ch_lists.specs.Members.{In, Each}
use Rattle.ch_lists.proofs.Members.{In-map, In-map_from}
use Rattle.ch_pred.specs.Named.{pred_cols, printed_cols, shape_cols, inner_cols}
use Rattle.ch_pred.specs.Sound as sound
use Rattle.ch_pred.specs.Sound.{AreSided, has_one_table, sides_of, IsAscending, place_in, PrintsKeys, bests_of, SumsNumbers, KeysAlike, AreAlike, IsSound}
use Rattle.ch_pred.specs.declared.bound.Bound.{Bound}
use Rattle.ch_pred.specs.declared.bound.Shape.{Shape}
use Rattle.ch_pred.specs.declared.bound.Shape.TheVariants as shape
use Rattle.ch_pred.specs.declared.pred.Col.{Col}
use Rattle.ch_sql.specs.Formed.{FitsSource, IsFormed}
use Rattle.ch_sql.specs.Parsed.{IsParsed}
use Rattle.ch_sql.proofs.Readings.{parsed_formed}
use Rattle.ch_sql_grammar.specs.declared.query.Agg.{Agg}
use Rattle.ch_sql_grammar.specs.declared.query.Agg.TheVariants as agg
use Rattle.ch_sql_grammar.specs.declared.query.ColumnRef.{ColumnRef}
use Rattle.ch_sql_grammar.specs.declared.query.Having.{Having}
use Rattle.ch_sql_grammar.specs.declared.query.Item.{Item}
use Rattle.ch_sql_grammar.specs.declared.query.Item.TheVariants as item
use Rattle.ch_sql_grammar.specs.declared.query.Source.{Source}
use Rattle.ch_sql_grammar.specs.declared.query.Source.TheVariants as source
use Rattle.ch_sql_grammar.specs.declared.query.Tail.{Tail}
use Rattle.ch_sql_grammar.specs.declared.query.Tail.TheVariants as tail
use Rattle.ch_sql_grammar.specs.Tree.{Select}
use Rattle.ch_bind.specs.Binding.{PlainBound, per_side, tables_of, kinds_at, printed_of, star_printed, item_printed, filter_of, best_of, summed, dim_of, tail_shape, join_shape, shape_of, plain_bound, bound_of}
use Rattle.ch_bind.specs.Checks.{column_refusal, on_refusal, is_key_at, group_allows, allows, refused_item, missing_best, item_refusal, kind_refusal, width_refusal, too_many, refusal_in, table_refusal, self_refusal, bind_refusal, is_star, first_whole, second_whole, first_carried, second_carried, carried_in, dims_refusal, limit_refusal}
use Rattle.ch_bind.specs.Checks as checks
use Rattle.ch_bind.specs.First.{first, first_from}
use Rattle.ch_bind.specs.References.{mere, of_kind, asking, dim_reference, clashes, ref_kind, found_kind, source_references, filter_references, agg_references, tail_references, items_references, references_of, is_named, stands_at}
use Rattle.ch_bind.specs.Scope.{found_among, found_in, found_inner, place_on, col_at, col_of, inner_col_of, kind_at, kind_of, scope_of}
use Rattle.ch_bind.specs.declared.error.BindError.{BindError}
use Rattle.ch_bind.specs.declared.error.BindError.TheVariants as error
use Rattle.ch_bind.specs.declared.references.Reference.{Reference}
use Rattle.ch_bind.specs.declared.scope.Candidate.{Candidate}
use Rattle.ch_bind.specs.declared.scope.Found.{Found}
use Rattle.ch_bind.specs.declared.scope.Found.TheVariants as found
use Rattle.ch_bind.specs.declared.scope.Scope.{Scope}
use Rattle.ch_bind.specs.declared.shape.TableShape.{TableShape}
use Rattle.ch_bind.proofs.Clearing.{before, behind}
use Rattle.ch_bind.proofs.Members.{each_nil, each_cons, each_append, each_left, each_right, each_map, each_of_map, any-from_In, any-In}
use Rattle.ch_bind.proofs.Standing.{IsKept, all_kept, kept_whole, there, filter_said, items_said}
use Rattle.ch_bind.proofs.Printable.{Stands, each_printed, filter_stands, items_stand, best_stands, star_stands, header_sizes, bests_printed, filter_whole}

-- what the checks that find nothing tell
record Clear (scope : Scope) (q : Select) : Type 0 where
  columns : column_refusal 0 (references_of scope q) ≡ None
  on : on_refusal scope q.source ≡ None
  items : refused_item (allows scope q.tail) 0 false q.items ≡ None
  best : missing_best q.tail q.items ≡ None
  kinds : Each (λ r. r.clash ≡ false) (references_of scope q)
  first : length (first_carried scope q) ≤ 16
  second : length (second_carried scope q) ≤ 16

unmapped : {X Y : Type 0} (f : X → Y) (o : Option X) → option_map f o ≡ None → o ≡ None
unmapped f None h = refl
unmapped f (Some x) h = cc

no_clash : (at : ℕ) (refs : List Reference) → first_from (λ r. r.clash) at refs ≡ None → Each (λ r. r.clash ≡ false) refs
no_clash at [] h = each_nil (λ r. r.clash ≡ false)
no_clash at (r ∷ rs) h = go (λ n. no_clash (at + 1) rs n) r.clash refl h
  where
    go : (first_from (λ x. x.clash) (at + 1) rs ≡ None → Each (λ x. x.clash ≡ false) rs) → (b : Bool) → r.clash ≡ b → cond b (Some at) (first_from (λ x. x.clash) (at + 1) rs) ≡ None → Each (λ x. x.clash ≡ false) (r ∷ rs)
    go later true e n = cc
    go later false e n = each_cons (λ x. x.clash ≡ false) r rs e (later n)

unless : (b : Bool) (e : BindError) → cond b (Some e) None ≡ None → b ≡ false
unless true e h = cc
unless false e h = refl

few : (side : ℕ) (carried : List ℕ) → too_many side carried ≡ None → length carried ≤ 16
few side carried h = ltb-false 16 (length carried) (unless (nat_lt 16 (length carried)) _ h)

clear : (scope : Scope) (q : Select) → refusal_in scope q ≡ None → Clear scope q
clear scope q h =
    let refs = references_of scope q in
    let late = option_or (dims_refusal q.tail) (option_or (limit_refusal q.tail) None) in
    let on_on = behind (column_refusal 0 refs) (option_or (on_refusal scope q.source) (option_or (item_refusal scope q) (option_or (kind_refusal refs) (option_or (width_refusal scope q) late)))) h in
    let items_on = behind (on_refusal scope q.source) (option_or (item_refusal scope q) (option_or (kind_refusal refs) (option_or (width_refusal scope q) late))) on_on in
    let kinds_on = behind (item_refusal scope q) (option_or (kind_refusal refs) (option_or (width_refusal scope q) late)) items_on in
    let width_on = behind (kind_refusal refs) (option_or (width_refusal scope q) late) kinds_on in
    let items = unmapped _ (option_or (refused_item (allows scope q.tail) 0 false q.items) (missing_best q.tail q.items)) (before (item_refusal scope q) _ items_on) in
    let width = before (width_refusal scope q) late width_on in
    record {
      columns = before (column_refusal 0 refs) _ h;
      on = before (on_refusal scope q.source) _ on_on;
      items = before (refused_item (allows scope q.tail) 0 false q.items) (missing_best q.tail q.items) items;
      best = behind (refused_item (allows scope q.tail) 0 false q.items) (missing_best q.tail q.items) items;
      kinds = no_clash 0 refs (unmapped _ (first (λ r. r.clash) refs) (before (kind_refusal refs) _ kinds_on));
      first = few 0 (first_carried scope q) (before (too_many 0 (first_carried scope q)) (too_many 1 (second_carried scope q)) width);
      second = few 1 (second_carried scope q) (behind (too_many 0 (first_carried scope q)) (too_many 1 (second_carried scope q)) width);
    }

cleared : (q : Select) (shapes : List TableShape) → bind_refusal q shapes ≡ None → Clear (scope_of q.source shapes) q
cleared q shapes h =
    let rest = option_or (refusal_in (scope_of q.source shapes) q) None in
    clear (scope_of q.source shapes) q
    (before (refusal_in (scope_of q.source shapes) q) None (behind (self_refusal q.source) rest (behind (table_refusal q.source shapes) (option_or (self_refusal q.source) rest) h)))

-- a query of one table
one_tail : (scope : Scope) (distinct : Bool) (items : List Item) (t : Tail) → has_one_table (tail_shape scope distinct items t) ≡ true
one_tail scope true items tail.Nothing = refl
one_tail scope false items tail.Nothing = refl
one_tail scope distinct items (tail.Top by descending limit) = refl
one_tail scope distinct items (tail.Group keys None) = refl
one_tail scope distinct items (tail.Group keys (Some having)) = refl
one_tail scope distinct items (tail.Skyline dims) = refl

one_sided : (s : Shape) (cols : List Col) → has_one_table s ≡ true → AreSided s cols
one_sided shape.Filter cols h = tt
one_sided shape.Distinct cols h = tt
one_sided (shape.Top by descending limit) cols h = tt
one_sided (shape.Group keys max value) cols h = tt
one_sided (shape.Having keys sum above) cols h = tt
one_sided (shape.Join left right) cols h = cc
one_sided (shape.Skyline dims) cols h = tt
one_sided (shape.Semi key inner) cols h = cc

one_inner : (s : Shape) → has_one_table s ≡ true → inner_cols s ≡ []
one_inner shape.Filter h = refl
one_inner shape.Distinct h = refl
one_inner (shape.Top by descending limit) h = refl
one_inner (shape.Group keys max value) h = refl
one_inner (shape.Having keys sum above) h = refl
one_inner (shape.Join left right) h = refl
one_inner (shape.Skyline dims) h = refl
one_inner (shape.Semi key inner) h = cc

one_alike : (b : Bound) (s : Shape) → has_one_table s ≡ true → KeysAlike b s
one_alike b shape.Filter h = tt
one_alike b shape.Distinct h = tt
one_alike b (shape.Top by descending limit) h = tt
one_alike b (shape.Group keys max value) h = tt
one_alike b (shape.Having keys sum above) h = tt
one_alike b (shape.Join left right) h = cc
one_alike b (shape.Skyline dims) h = tt
one_alike b (shape.Semi key inner) h = cc

-- a join's columns, the first table's first
module _ (F : Shape → Type 0) (a b : Col) where
  join_by : (a.side ≡ 0 → F (shape.Join a b)) → ((a.side ≡ 0 → ⊥) → F (shape.Join b a)) → F (join_shape a b)
  join_by first second = go (eqb a.side 0) refl
    where
      go : (t : Bool) → eqb a.side 0 ≡ t → F (cond t (shape.Join a b) (shape.Join b a))
      go true e = first (eqb-true a.side 0 e)
      go false e = second (eqb-false a.side 0 e)

-- the numbers of sides
sides_counted : (scope : Scope) (q : Select) (s : Source) (X : Type 0) (x y : X) → length (per_side s x y) ≡ sides_of (shape_of scope q s)
sides_counted scope q (source.One table) X x y = sym (ap (λ t. cond t 1 2) (one_tail scope q.distinct q.items q.tail))
sides_counted scope q (source.Join left right a b) X x y = join_by (λ s. 2 ≡ sides_of s) (col_of scope a) (col_of scope b) (λ h. refl) (λ h. refl)
sides_counted scope q (source.Semi outer inner key inner_key) X x y = refl

tables_counted : (shapes : List TableShape) (s : Source) → length (tables_of shapes s) ≡ length (per_side {X = ℕ} s zero zero)
tables_counted shapes (source.One table) = refl
tables_counted shapes (source.Join left right a b) = refl
tables_counted shapes (source.Semi outer inner key inner_key) = refl

-- the carried columns ascend, and have a kind each
abbrev Above : ℕ → List ℕ → Type 0
Above n [] = Unit {0}
Above n (x ∷ xs) = n ≤ x

lower : (n : ℕ) (xs : List ℕ) → Above (n + 1) xs → Above n xs
lower n [] h = tt
lower n (x ∷ xs) h = omega arith

ascending_cons : (n : ℕ) (xs : List ℕ) → IsAscending xs → Above (n + 1) xs → IsAscending (n ∷ xs)
ascending_cons n [] r h = tt
ascending_cons n (x ∷ xs) r h = (omega arith, r)

filter_ascends : (p : ℕ → Bool) (a n : ℕ) → IsAscending (filter p (range_with_len a n)) × Above a (filter p (range_with_len a n))
filter_ascends p a zero = (tt, tt)
filter_ascends p a (suc n) = go (p a) (filter p (range_with_len (a + 1) n)) (filter_ascends p (a + 1) n)
  where
    go : (b : Bool) (rest : List ℕ) → IsAscending rest × Above (a + 1) rest → IsAscending (cond b (a ∷ rest) rest) × Above a (cond b (a ∷ rest) rest)
    go true rest h = (ascending_cons a rest h.0 h.1, omega arith)
    go false rest h = (h.0, lower a rest h.1)

abbrev IsKinded : List ℕ → List Kind → Type 0
IsKinded carried kinds = IsAscending carried × (length kinds ≡ length carried)

carried_kinded : (table : Candidate) (side : ℕ) (whole : Bool) (refs : List Reference) → IsKinded (carried_in table side whole refs) (kinds_at table (carried_in table side whole refs))
carried_kinded table side whole refs =
    ((filter_ascends (λ at. whole || is_named refs side at) 0 (length table.header)).0, length-map (carried_in table side whole refs) (kind_at table))

none_kinded : IsKinded [] []
none_kinded = (tt, refl)

each_side : (s : Source) (a b : List ℕ) (k l : List Kind) → IsKinded a k → IsKinded b l → (side : ℕ) → IsKinded (get_or (per_side s a b) side []) (get_or (per_side s k l) side [])
each_side (source.One table) a b k l h j zero = h
each_side (source.One table) a b k l h j (suc n) = none_kinded
each_side (source.Join left right x y) a b k l h j zero = h
each_side (source.Join left right x y) a b k l h j (suc zero) = j
each_side (source.Join left right x y) a b k l h j (suc (suc n)) = none_kinded
each_side (source.Semi outer inner x y) a b k l h j zero = h
each_side (source.Semi outer inner x y) a b k l h j (suc zero) = j
each_side (source.Semi outer inner x y) a b k l h j (suc (suc n)) = none_kinded

-- a column that is kept is carried on its side
kept_carried : (shapes : List TableShape) (q : Select) (s : Source) (c : Col) → IsKept (scope_of s shapes) q c
    → In c.at (get_or (per_side s (first_carried (scope_of s shapes) q) (second_carried (scope_of s shapes) q)) c.side [])
kept_carried shapes q s c (inl h) = subst (λ n. In c.at (get_or (per_side s (first_carried (scope_of s shapes) q) (second_carried (scope_of s shapes) q)) n [])) (sym h.0) (go s h.1)
  where
    go : (z : Source) → In c.at (first_carried (scope_of s shapes) q) → In c.at (get_or (per_side z (first_carried (scope_of s shapes) q) (second_carried (scope_of s shapes) q)) 0 [])
    go (source.One table) i = i
    go (source.Join left right a b) i = i
    go (source.Semi outer inner a b) i = i
kept_carried shapes q (source.One table) c (inr h) = absurd h.1
kept_carried shapes q (source.Join left right a b) c (inr h) =
    let scope = scope_of (source.Join left right a b) shapes in
    subst (λ n. In c.at (get_or (first_carried scope q ∷ second_carried scope q ∷ []) n [])) (sym h.0) h.1
kept_carried shapes q (source.Semi outer inner a b) c (inr h) =
    let scope = scope_of (source.Semi outer inner a b) shapes in
    subst (λ n. In c.at (get_or (first_carried scope q ∷ second_carried scope q ∷ []) n [])) (sym h.0) h.1

-- its kind is that of its table
kind_read : (f : ℕ → Kind) (cs : List ℕ) (at : ℕ) → In at cs → get_or (map f cs) (place_in cs at) kind.Void ≡ f at
kind_read f [] at i = absurd i
kind_read f (c ∷ cs) at i = go (λ e. elim i [ inl q ↦ absurd (eqb-false c at e (sym q)) | inr j ↦ kind_read f cs at j ]) (eqb c at) refl
  where
    go : (eqb c at ≡ false → get_or (map f cs) (place_in cs at) kind.Void ≡ f at) → (t : Bool) → eqb c at ≡ t → get_or (f c ∷ map f cs) (cond t 0 (suc (place_in cs at))) kind.Void ≡ f at
    go later true e = ap f (eqb-true c at e)
    go later false e = later e

abbrev KindIn : List (List ℕ) → List (List Kind) → Col → Kind
KindIn carried kinds c = get_or (get_or kinds c.side []) (place_in (get_or carried c.side []) c.at) kind.Void

kind_first : (scope : Scope) (c : Col) → c.side ≡ 0 → kind_of scope c ≡ kind_at scope.first c.at
kind_first scope c e = ap (λ t. cond t (kind_at scope.first c.at) (kind_at scope.second c.at)) (eq-eqb c.side 0 e)

kind_second : (scope : Scope) (c : Col) → c.side ≡ 1 → kind_of scope c ≡ kind_at scope.second c.at
kind_second scope c e = ap (λ n. cond (eqb n 0) (kind_at scope.first c.at) (kind_at scope.second c.at)) e

kept_kind : (shapes : List TableShape) (q : Select) (s : Source) (c : Col) → IsKept (scope_of s shapes) q c
    → KindIn (per_side s (first_carried (scope_of s shapes) q) (second_carried (scope_of s shapes) q))
    (per_side s (kinds_at (scope_of s shapes).first (first_carried (scope_of s shapes) q)) (kinds_at (scope_of s shapes).second (second_carried (scope_of s shapes) q))) c
    ≡ kind_of (scope_of s shapes) c
kept_kind shapes q s c (inl h) =
    let scope = scope_of s shapes in
    ap (λ n. get_or (get_or (per_side s (kinds_at scope.first (first_carried scope q)) (kinds_at scope.second (second_carried scope q))) n []) (place_in (get_or (per_side s (first_carried scope q) (second_carried scope q)) n []) c.at) kind.Void) h.0
    ∙ (go s ∙ sym (kind_first scope c h.0))
  where
    go : (z : Source) → get_or (get_or (per_side z (kinds_at (scope_of s shapes).first (first_carried (scope_of s shapes) q)) (kinds_at (scope_of s shapes).second (second_carried (scope_of s shapes) q))) 0 [])
        (place_in (get_or (per_side z (first_carried (scope_of s shapes) q) (second_carried (scope_of s shapes) q)) 0 []) c.at) kind.Void ≡ kind_at (scope_of s shapes).first c.at
    go (source.One table) = kind_read (kind_at (scope_of s shapes).first) (first_carried (scope_of s shapes) q) c.at h.1
    go (source.Join left right a b) = kind_read (kind_at (scope_of s shapes).first) (first_carried (scope_of s shapes) q) c.at h.1
    go (source.Semi outer inner a b) = kind_read (kind_at (scope_of s shapes).first) (first_carried (scope_of s shapes) q) c.at h.1
kept_kind shapes q (source.One table) c (inr h) = absurd h.1
kept_kind shapes q (source.Join left right a b) c (inr h) =
    let scope = scope_of (source.Join left right a b) shapes in
    ap (λ n. get_or (get_or (kinds_at scope.first (first_carried scope q) ∷ kinds_at scope.second (second_carried scope q) ∷ []) n []) (place_in (get_or (first_carried scope q ∷ second_carried scope q ∷ []) n []) c.at) kind.Void) h.0
    ∙ (kind_read (kind_at scope.second) (second_carried scope q) c.at h.1 ∙ sym (kind_second scope c h.0))
kept_kind shapes q (source.Semi outer inner a b) c (inr h) =
    let scope = scope_of (source.Semi outer inner a b) shapes in
    ap (λ n. get_or (get_or (kinds_at scope.first (first_carried scope q) ∷ kinds_at scope.second (second_carried scope q) ∷ []) n []) (place_in (get_or (first_carried scope q ∷ second_carried scope q ∷ []) n []) c.at) kind.Void) h.0
    ∙ (kind_read (kind_at scope.second) (second_carried scope q) c.at h.1 ∙ sym (kind_second scope c h.0))

-- the columns that it names
within_range : (a n k : ℕ) → In k (range_with_len a n) → k < a + n
within_range a zero k i = absurd i
within_range a (suc n) k (inl e) = omega arith
within_range a (suc n) k (inr i) = let h = within_range (a + 1) n k i in omega (arith, h)

module _ (P : Col → Type 0) (scope : Scope) where
  keys_stand : (keys : List ColumnRef) → Each (Stands P scope) (map (mere scope) keys) → Each P (map (col_of scope) keys)
  keys_stand keys h = each_map P (col_of scope) keys (each_of_map (Stands P scope) (mere scope) keys h)

  having_stands : (keys : List Col) (a : Agg) (above : ℤ) → Each P keys → Each (Stands P scope) (agg_references scope a) → Each P (shape_cols (shape.Having keys (summed scope a) above))
  having_stands keys (agg.Sum col) above k h = each_cons P (col_of scope col) keys (h (of_kind scope kind.Number col) (inl refl)) k
  having_stands keys agg.Count above k h = k

  any_best : (items : List Item) (keys : List ColumnRef) → missing_best (tail.Group keys None) items ≡ None → list_any checks.is_best items ≡ true
  any_best items keys h = go (list_any checks.is_best items) h
    where
      go : (b : Bool) → cond b None (Some (length items)) ≡ None → b ≡ true
      go true e = refl
      go false e = cc

  tail_stands : (distinct : Bool) (items : List Item) (t : Tail) → missing_best t items ≡ None → Each (Stands P scope) (items_references scope items) → Each (Stands P scope) (tail_references scope t)
      → Each P (shape_cols (tail_shape scope distinct items t))
  tail_stands true items tail.Nothing m i h = each_nil P
  tail_stands false items tail.Nothing m i h = each_nil P
  tail_stands distinct items (tail.Top by descending limit) m i h = each_cons P (col_of scope by) [] (h (mere scope by) (inl refl)) (each_nil P)
  tail_stands distinct items (tail.Group keys None) m i h =
      each_cons P (best_of scope items).1 (map (col_of scope) keys) (best_stands P scope items i (any_best items keys m)) (keys_stand keys (each_left (Stands P scope) (map (mere scope) keys) [] h))
  tail_stands distinct items (tail.Group keys (Some having)) m i h =
      having_stands (map (col_of scope) keys) having.agg having.above
      (keys_stand keys (each_left (Stands P scope) (map (mere scope) keys) (agg_references scope having.agg) h))
      (each_right (Stands P scope) (map (mere scope) keys) (agg_references scope having.agg) h)
  tail_stands distinct items (tail.Skyline dims) m i h =
      each_map P (λ d. d.col) (map (dim_of scope) dims) (each_map (λ d. P d.col) (dim_of scope) dims (each_of_map (Stands P scope) (dim_reference scope) dims h))

  source_stands : (q : Select) (s : Source) → missing_best q.tail q.items ≡ None → Each (Stands P scope) (items_references scope q.items) → Each (Stands P scope) (tail_references scope q.tail)
      → Each (Stands P scope) (source_references scope s) → Each P (shape_cols (shape_of scope q s)) × Each P (inner_cols (shape_of scope q s))
  source_stands q (source.One table) m i t h =
      (tail_stands q.distinct q.items q.tail m i t, subst (Each P) (sym (one_inner (tail_shape scope q.distinct q.items q.tail) (one_tail scope q.distinct q.items q.tail))) (each_nil P))
  source_stands q (source.Join left right a b) m i t h =
      let first : P (col_of scope a) = h (asking scope (clashes (ref_kind scope a) (ref_kind scope b)) a) (inl refl) in
      let second : P (col_of scope b) = h (mere scope b) (inr (inl refl)) in
      join_by (λ s. Each P (shape_cols s) × Each P (inner_cols s)) (col_of scope a) (col_of scope b)
      (λ e. (each_cons P (col_of scope a) (col_of scope b ∷ []) first (each_cons P (col_of scope b) [] second (each_nil P)), each_nil P))
      (λ e. (each_cons P (col_of scope b) (col_of scope a ∷ []) second (each_cons P (col_of scope a) [] first (each_nil P)), each_nil P))
  source_stands q (source.Semi outer inner key inner_key) m i t h =
      let first : P (col_of scope key) = h (asking scope (clashes (ref_kind scope key) (found_kind scope (found_inner scope inner_key))) key) (inl refl) in
      let second : P (inner_col_of scope inner_key) = h (record { found = found_inner scope inner_key; clash = false }) (inr (inl refl)) in
      (each_cons P (col_of scope key) [] first (each_nil P), each_cons P (inner_col_of scope inner_key) [] second (each_nil P))

-- the parts of a query's references
record Parts (F : Reference → Type 0) (scope : Scope) (q : Select) : Type 0 where
  items : Each F (items_references scope q.items)
  source : Each F (source_references scope q.source)
  filter : Each F (filter_references scope q.filter)
  tail : Each F (tail_references scope q.tail)

parts : (F : Reference → Type 0) (scope : Scope) (q : Select) → Each F (references_of scope q) → Parts F scope q
parts F scope q h =
    let late = filter_references scope q.filter ++ tail_references scope q.tail in
    let on = each_right F (items_references scope q.items) (source_references scope q.source ++ late) h in
    let behind_source = each_right F (source_references scope q.source) late on in
    record {
      items = each_left F (items_references scope q.items) (source_references scope q.source ++ late) h;
      source = each_left F (source_references scope q.source) late on;
      filter = each_left F (filter_references scope q.filter) (tail_references scope q.tail) behind_source;
      tail = each_right F (filter_references scope q.filter) (tail_references scope q.tail) behind_source;
    }

star_kept : (scope : Scope) (q : Select) → In item.Star q.items → Each (IsKept scope q) (printed_cols (star_printed scope))
star_kept scope q m =
    let any : list_any is_star q.items ≡ true = any-from_In is_star item.Star q.items m refl in
    star_stands (IsKept scope q) scope
    (λ at i. inl (refl, kept_whole scope.first 0 at (first_whole q) (references_of scope q) any (let h = within_range 0 (length scope.first.header) at i in omega (arith, h))))
    (λ e at i. inr (refl, kept_whole scope.second 1 at (second_whole scope q) (references_of scope q) (and_from scope.is_join (list_any is_star q.items) e any) (let h = within_range 0 (length scope.second.header) at i in omega (arith, h))))

-- the columns of the filter, of what is printed and of the kind
abbrev OuterNamed : Scope → Select → List Col
OuterNamed scope q = pred_cols (filter_of scope q.filter) ++ printed_cols (printed_of scope q.items) ++ shape_cols (shape_of scope q q.source)

outer_each : (P : Col → Type 0) (scope : Scope) (q : Select) → Each P (pred_cols (filter_of scope q.filter)) → Each P (printed_cols (printed_of scope q.items)) → Each P (shape_cols (shape_of scope q q.source))
    → Each P (OuterNamed scope q)
outer_each P scope q f p s =
    each_append P (pred_cols (filter_of scope q.filter) ++ printed_cols (printed_of scope q.items)) (shape_cols (shape_of scope q q.source))
    (each_append P (pred_cols (filter_of scope q.filter)) (printed_cols (printed_of scope q.items)) f p) s

named_kept : (scope : Scope) (q : Select) → Clear scope q → Each (IsKept scope q) (OuterNamed scope q ++ inner_cols (shape_of scope q q.source))
named_kept scope q c =
    let P = IsKept scope q in
    let all : Parts (Stands P scope) scope q = parts (Stands P scope) scope q (all_kept scope q c.columns) in
    let kind = source_stands P scope q q.source c.best all.items all.tail all.source in
    each_append P (OuterNamed scope q) (inner_cols (shape_of scope q q.source))
    (outer_each P scope q (filter_stands P scope q.filter all.filter) (items_stand P scope q.items all.items (star_kept scope q)) kind.0)
    kind.1

-- Group and Having print keys
col_same : (c d : Col) → c.side ≡ d.side → c.at ≡ d.at → c ≡ d
col_same c d e f = ap (λ s. record { side = s; at = c.at }) e ∙ ap (λ a. record { side = d.side; at = a }) f

stands_col : (side at : ℕ) (f : Found) → stands_at side at f ≡ true → ((col_at f).side ≡ side) × ((col_at f).at ≡ at)
stands_col side at found.Nowhere h = cc
stands_col side at found.Twice h = cc
stands_col side at (found.At c) h = let r = and_parts (eqb c.side side) (eqb c.at at) h in (eqb-true c.side side r.0, eqb-true c.at at r.1)

key_in : (scope : Scope) (keys : List ColumnRef) (f : Found) → is_key_at (map (mere scope) keys) f ≡ true → In (col_at f) (map (col_of scope) keys)
key_in scope keys found.Nowhere h = cc
key_in scope keys found.Twice h = cc
key_in scope keys (found.At c) h =
    let b = and_parts (eqb c.side 0) (is_named (map (mere scope) keys) 0 c.at) h in
    let r = any-In (λ z. stands_at 0 c.at z.found) (map (mere scope) keys) b.1 in
    let k = In-map (mere scope) r.0 keys r.1 in
    let s = stands_col 0 c.at (found_in scope k.0) (ap (λ (z : Reference). stands_at 0 c.at z.found) (sym k.2) ∙ r.2) in
    subst (λ (z : Col). In z (map (col_of scope) keys)) (col_same (col_of scope k.0) c (s.0 ∙ sym (eqb-true c.side 0 b.0)) s.1) (In-map_from (col_of scope) k.0 keys k.1)

group_item : (scope : Scope) (keys : List ColumnRef) (b : Bool) (i : Item) → group_allows scope keys b i ≡ true → Each (λ c. In c (map (col_of scope) keys)) (printed_cols (item_printed scope i))
group_item scope keys b item.Star h = cc
group_item scope keys b (item.Column col) h = each_cons (λ c. In c (map (col_of scope) keys)) (col_of scope col) [] (key_in scope keys (found_in scope col) h) (each_nil (λ c. In c (map (col_of scope) keys)))
group_item scope keys b (item.Max col) h = each_nil (λ c. In c (map (col_of scope) keys))
group_item scope keys b (item.Min col) h = each_nil (λ c. In c (map (col_of scope) keys))

-- an item of a list that is allowed, and those behind it
allowed_first : (b : Bool) (rest : Option ℕ) (at : ℕ) → cond b rest (Some at) ≡ None → (b ≡ true) × (rest ≡ None)
allowed_first true rest at h = (refl, h)
allowed_first false rest at h = cc

module _ (allowed : Bool → Item → Bool) where
  each_allowed : (R : Item → Type 0) → ((b : Bool) (i : Item) → allowed b i ≡ true → R i) → (at : ℕ) (b : Bool) (items : List Item) → refused_item allowed at b items ≡ None → Each R items
  each_allowed R so at b [] h = each_nil R
  each_allowed R so at b (i ∷ items) h =
      let r = allowed_first (allowed b i) (refused_item allowed (at + 1) (b || checks.is_best i) items) at h in
      each_cons R i items (so b i r.0) (each_allowed R so (at + 1) (b || checks.is_best i) items r.1)

printed_each : (P : Col → Type 0) (scope : Scope) (items : List Item) → Each (λ i. Each P (printed_cols (item_printed scope i))) items → Each P (printed_cols (printed_of scope items))
printed_each P scope [] h = each_nil P
printed_each P scope (i ∷ items) h = each_printed P scope (item_printed scope i) (printed_of scope items) (h i (inl refl)) (printed_each P scope items (λ z m. h z (inr m)))

tail_keys : (scope : Scope) (distinct : Bool) (items : List Item) (t : Tail) → refused_item (allows scope t) 0 false items ≡ None → PrintsKeys (tail_shape scope distinct items t) (printed_cols (printed_of scope items))
tail_keys scope true items tail.Nothing h = tt
tail_keys scope false items tail.Nothing h = tt
tail_keys scope distinct items (tail.Top by descending limit) h = tt
tail_keys scope distinct items (tail.Group keys None) h =
    printed_each (λ c. In c (map (col_of scope) keys)) scope items
    (each_allowed (allows scope (tail.Group keys None)) (λ i. Each (λ c. In c (map (col_of scope) keys)) (printed_cols (item_printed scope i))) (λ b i e. group_item scope keys b i e) 0 false items h)
tail_keys scope distinct items (tail.Group keys (Some having)) h =
    printed_each (λ c. In c (map (col_of scope) keys)) scope items
    (each_allowed (allows scope (tail.Group keys (Some having))) (λ i. Each (λ c. In c (map (col_of scope) keys)) (printed_cols (item_printed scope i))) (λ b i e. group_item scope keys true i e) 0 false items h)
tail_keys scope distinct items (tail.Skyline dims) h = tt

source_keys : (scope : Scope) (q : Select) (s : Source) → refused_item (allows scope q.tail) 0 false q.items ≡ None → PrintsKeys (shape_of scope q s) (printed_cols (printed_of scope q.items))
source_keys scope q (source.One table) h = tail_keys scope q.distinct q.items q.tail h
source_keys scope q (source.Join left right a b) h = join_by (λ s. PrintsKeys s (printed_cols (printed_of scope q.items))) (col_of scope a) (col_of scope b) (λ e. tt) (λ e. tt)
source_keys scope q (source.Semi outer inner key inner_key) h = tt

-- the best value is printed in Group alone, and there once
none_best : (items : List Item) → Each (λ i. checks.is_best i ≡ false) items → length (filter checks.is_best items) ≡ 0
none_best [] h = refl
none_best (i ∷ items) h = ap (λ b. length (cond b (i ∷ filter checks.is_best items) (filter checks.is_best items))) (h i (inl refl)) ∙ none_best items (λ z m. h z (inr m))

not_best : (i : Item) → not (checks.is_best i) ≡ true → checks.is_best i ≡ false
not_best item.Star h = refl
not_best (item.Column col) h = refl
not_best (item.Max col) h = cc
not_best (item.Min col) h = cc

group_no_best : (scope : Scope) (keys : List ColumnRef) (i : Item) → group_allows scope keys true i ≡ true → checks.is_best i ≡ false
group_no_best scope keys item.Star h = cc
group_no_best scope keys (item.Column col) h = refl
group_no_best scope keys (item.Max col) h = cc
group_no_best scope keys (item.Min col) h = cc

same_behind : (b : Bool) → (b || false) ≡ b
same_behind true = refl
same_behind false = refl

one_best : (scope : Scope) (keys : List ColumnRef) (at : ℕ) (b : Bool) (items : List Item) → refused_item (group_allows scope keys) at b items ≡ None → length (filter checks.is_best items) + cond b 1 0 ≤ 1
one_best scope keys at true [] h = omega arith
one_best scope keys at false [] h = omega arith
one_best scope keys at b (item.Star ∷ items) h = cc
one_best scope keys at b (item.Column col ∷ items) h =
    let r = allowed_first _ (refused_item (group_allows scope keys) (at + 1) (b || false) items) at h in
    subst (λ (t : Bool). length (filter checks.is_best items) + cond t 1 0 ≤ 1) (same_behind b) (one_best scope keys (at + 1) (b || false) items r.1)
one_best scope keys at true (item.Max col ∷ items) h = cc
one_best scope keys at false (item.Max col ∷ items) h = let r = one_best scope keys (at + 1) true items h in omega (arith, r)
one_best scope keys at true (item.Min col ∷ items) h = cc
one_best scope keys at false (item.Min col ∷ items) h = let r = one_best scope keys (at + 1) true items h in omega (arith, r)

some_best : (items : List Item) → list_any checks.is_best items ≡ true → 1 ≤ length (filter checks.is_best items)
some_best [] h = cc
some_best (item.Star ∷ items) h = some_best items h
some_best (item.Column col ∷ items) h = some_best items h
some_best (item.Max col ∷ items) h = omega arith
some_best (item.Min col ∷ items) h = omega arith

plain_bests : (scope : Scope) (t : Tail) (items : List Item) → ((b : Bool) (i : Item) → allows scope t b i ≡ true → checks.is_best i ≡ false) → refused_item (allows scope t) 0 false items ≡ None
    → length (filter checks.is_best items) ≡ 0
plain_bests scope t items so h = none_best items (each_allowed (allows scope t) (λ i. checks.is_best i ≡ false) so 0 false items h)

tail_bests : (scope : Scope) (distinct : Bool) (items : List Item) (t : Tail) → refused_item (allows scope t) 0 false items ≡ None → missing_best t items ≡ None
    → length (filter checks.is_best items) ≡ bests_of (tail_shape scope distinct items t)
tail_bests scope true items tail.Nothing h m = plain_bests scope tail.Nothing items (λ b i e. not_best i e) h
tail_bests scope false items tail.Nothing h m = plain_bests scope tail.Nothing items (λ b i e. not_best i e) h
tail_bests scope distinct items (tail.Top by descending limit) h m = plain_bests scope (tail.Top by descending limit) items (λ b i e. not_best i e) h
tail_bests scope distinct items (tail.Group keys None) h m = omega (arith, one_best scope keys 0 false items h, some_best items (any_best (λ c. Unit {0}) scope items keys m))
tail_bests scope distinct items (tail.Group keys (Some having)) h m = plain_bests scope (tail.Group keys (Some having)) items (λ b i e. group_no_best scope keys i e) h
tail_bests scope distinct items (tail.Skyline dims) h m = plain_bests scope (tail.Skyline dims) items (λ b i e. not_best i e) h

no_tail_bests : (scope : Scope) (items : List Item) (t : Tail) → t ≡ tail.Nothing → refused_item (allows scope t) 0 false items ≡ None → length (filter checks.is_best items) ≡ 0
no_tail_bests scope items t e h = plain_bests scope tail.Nothing items (λ b i k. not_best i k) (ap (λ (z : Tail). refused_item (allows scope z) 0 false items) (sym e) ∙ h)

source_bests : (scope : Scope) (q : Select) (s : Source) → FitsSource s q.distinct q.items q.tail → refused_item (allows scope q.tail) 0 false q.items ≡ None → missing_best q.tail q.items ≡ None
    → length (filter checks.is_best q.items) ≡ bests_of (shape_of scope q s)
source_bests scope q (source.One table) f h m = tail_bests scope q.distinct q.items q.tail h m
source_bests scope q (source.Join left right a b) f h m =
    no_tail_bests scope q.items q.tail f.1 h ∙ join_by (λ s. 0 ≡ bests_of s) (col_of scope a) (col_of scope b) (λ e. refl) (λ e. refl)
source_bests scope q (source.Semi outer inner key inner_key) f h m = no_tail_bests scope q.items q.tail f.2 h

-- kinds that suit each other
clash_text : (k : Kind) → clashes k kind.Number ≡ false → k ≢ kind.Text
clash_text kind.Number h e = cc
clash_text kind.Text h e = cc
clash_text kind.Void h e = cc

alike : (k l : Kind) → clashes k l ≡ false → AreAlike k l
alike kind.Number kind.Number h = inl refl
alike kind.Number kind.Text h = cc
alike kind.Number kind.Void h = inr (inr refl)
alike kind.Text kind.Number h = cc
alike kind.Text kind.Text h = inl refl
alike kind.Text kind.Void h = inr (inr refl)
alike kind.Void l h = inr (inl refl)

turned : (k l : Kind) → AreAlike k l → AreAlike l k
turned k l (inl e) = inl (sym e)
turned k l (inr (inl e)) = inr (inr e)
turned k l (inr (inr e)) = inr (inl e)

module _ (b : Bound) (scope : Scope) (P : Col → Type 0) (reads : (c : Col) → P c → sound.kind_of b c ≡ kind_of scope c) where
  having_sums : (keys : List Col) (a : Agg) (above : ℤ) → Each (Stands P scope) (agg_references scope a) → Each (λ r. r.clash ≡ false) (agg_references scope a) → SumsNumbers b (shape.Having keys (summed scope a) above)
  having_sums keys (agg.Sum col) above h k = λ e.
      let number : ref_kind scope col ≢ kind.Text = clash_text (ref_kind scope col) (k (of_kind scope kind.Number col) (inl refl)) in
      number (sym (reads (col_of scope col) (h (of_kind scope kind.Number col) (inl refl))) ∙ e)
  having_sums keys agg.Count above h k = tt

  tail_sums : (distinct : Bool) (items : List Item) (t : Tail) → Each (Stands P scope) (tail_references scope t) → Each (λ r. r.clash ≡ false) (tail_references scope t) → SumsNumbers b (tail_shape scope distinct items t)
  tail_sums true items tail.Nothing h k = tt
  tail_sums false items tail.Nothing h k = tt
  tail_sums distinct items (tail.Top by descending limit) h k = tt
  tail_sums distinct items (tail.Group keys None) h k = tt
  tail_sums distinct items (tail.Group keys (Some having)) h k =
      having_sums (map (col_of scope) keys) having.agg having.above
      (each_right (Stands P scope) (map (mere scope) keys) (agg_references scope having.agg) h)
      (each_right (λ r. r.clash ≡ false) (map (mere scope) keys) (agg_references scope having.agg) k)
  tail_sums distinct items (tail.Skyline dims) h k = tt

  source_sums : (q : Select) (s : Source) → Each (Stands P scope) (tail_references scope q.tail) → Each (λ r. r.clash ≡ false) (tail_references scope q.tail) → SumsNumbers b (shape_of scope q s)
  source_sums q (source.One table) h k = tail_sums q.distinct q.items q.tail h k
  source_sums q (source.Join left right x y) h k = join_by (λ s. SumsNumbers b s) (col_of scope x) (col_of scope y) (λ e. tt) (λ e. tt)
  source_sums q (source.Semi outer inner key inner_key) h k = tt

  source_alike : (q : Select) (s : Source) → Each (Stands P scope) (source_references scope s) → Each (λ r. r.clash ≡ false) (source_references scope s) → KeysAlike b (shape_of scope q s)
  source_alike q (source.One table) h k = one_alike b (tail_shape scope q.distinct q.items q.tail) (one_tail scope q.distinct q.items q.tail)
  source_alike q (source.Join left right x y) h k =
      let suit : AreAlike (ref_kind scope x) (ref_kind scope y) = alike (ref_kind scope x) (ref_kind scope y) (k (asking scope (clashes (ref_kind scope x) (ref_kind scope y)) x) (inl refl)) in
      let first : sound.kind_of b (col_of scope x) ≡ ref_kind scope x = reads (col_of scope x) (h (asking scope (clashes (ref_kind scope x) (ref_kind scope y)) x) (inl refl)) in
      let second : sound.kind_of b (col_of scope y) ≡ ref_kind scope y = reads (col_of scope y) (h (mere scope y) (inr (inl refl))) in
      let all : AreAlike (sound.kind_of b (col_of scope x)) (sound.kind_of b (col_of scope y)) =
      subst (λ (z : Kind). AreAlike z (sound.kind_of b (col_of scope y))) (sym first) (subst (λ (z : Kind). AreAlike (ref_kind scope x) z) (sym second) suit) in
      join_by (λ s. KeysAlike b s) (col_of scope x) (col_of scope y) (λ e. all) (λ e. turned _ _ all)
  source_alike q (source.Semi outer inner x y) h k =
      let other = found_kind scope (found_inner scope y) in
      let suit : AreAlike (ref_kind scope x) other = alike (ref_kind scope x) other (k (asking scope (clashes (ref_kind scope x) other) x) (inl refl)) in
      let first : sound.kind_of b (col_of scope x) ≡ ref_kind scope x = reads (col_of scope x) (h (asking scope (clashes (ref_kind scope x) other) x) (inl refl)) in
      let second : sound.kind_of b (inner_col_of scope y) ≡ other = reads (inner_col_of scope y) (h (record { found = found_inner scope y; clash = false }) (inr (inl refl))) in
      subst (λ (z : Kind). AreAlike z (sound.kind_of b (inner_col_of scope y))) (sym first) (subst (λ (z : Kind). AreAlike (ref_kind scope x) z) (sym second) suit)

-- the sides of a join and of a semi-join
kept_side : (scope : Scope) (q : Select) (c : Col) → IsKept scope q c → (c.side ≡ 0) ⊎ (c.side ≡ 1)
kept_side scope q c (inl h) = inl h.0
kept_side scope q c (inr h) = inr h.0

sides_differ : (a b : Col) → cond (eqb a.side b.side) (Some error.BadOn) None ≡ None → a.side ≡ b.side → ⊥
sides_differ a b h = eqb-false a.side b.side (unless (eqb a.side b.side) _ h)

outer_side : (scope : Scope) → scope.is_join ≡ false → (col : ColumnRef) → (col_at (found_in scope col)).side ≡ 0
outer_side scope e col = ap (λ t. (col_at (found_among (place_on scope.first col) (cond t (place_on scope.second col) None))).side) e ∙ go (place_on scope.first col)
  where
    go : (o : Option ℕ) → (col_at (found_among o None)).side ≡ 0
    go None = refl
    go (Some at) = refl

inner_side : (o : Option ℕ) (c : Col) → found_among None o ≡ found.At c → (col_at (found_among None o)).side ≡ 1
inner_side None c e = cc
inner_side (Some at) c e = refl

source_sides : (shapes : List TableShape) (q : Select) (s : Source) → on_refusal (scope_of s shapes) s ≡ None
    → Each (Stands (IsKept (scope_of s shapes) q) (scope_of s shapes)) (source_references (scope_of s shapes) s) → Each (λ r. (c : Col) × (r.found ≡ found.At c)) (source_references (scope_of s shapes) s)
    → AreSided (shape_of (scope_of s shapes) q s) (pred_cols (filter_of (scope_of s shapes) q.filter) ++ printed_cols (printed_of (scope_of s shapes) q.items) ++ shape_cols (shape_of (scope_of s shapes) q s))
source_sides shapes q (source.One table) n h f =
    let scope = scope_of (source.One table) shapes in
    one_sided (tail_shape scope q.distinct q.items q.tail) _ (one_tail scope q.distinct q.items q.tail)
source_sides shapes q (source.Join left right x y) n h f =
    let scope = scope_of (source.Join left right x y) shapes in
    let a = col_of scope x in
    let b = col_of scope y in
    let apart = sides_differ a b n in
    let first = kept_side scope q a (h (asking scope (clashes (ref_kind scope x) (ref_kind scope y)) x) (inl refl)) in
    let second = kept_side scope q b (h (mere scope y) (inr (inl refl))) in
    join_by (λ s. AreSided s (pred_cols (filter_of scope q.filter) ++ printed_cols (printed_of scope q.items) ++ shape_cols s)) a b
    (λ e. (e, elim second [ inl z ↦ absurd (apart (e ∙ sym z)) | inr z ↦ z ]))
    (λ e. (elim second [ inl z ↦ z | inr z ↦ absurd (elim first [ inl u ↦ e u | inr u ↦ apart (u ∙ sym z) ]) ], elim first [ inl u ↦ absurd (e u) | inr u ↦ u ]))
source_sides shapes q (source.Semi outer inner key inner_key) n h f =
    let scope = scope_of (source.Semi outer inner key inner_key) shapes in
    let P = λ (c : Col). c.side ≡ 0 in
    let there = f (record { found = found_inner scope inner_key; clash = false }) (inr (inl refl)) in
    let star : Each P (printed_cols (star_printed scope)) = star_stands P scope (λ at i. refl) (λ e at i. cc) in
    let first : Each P (pred_cols (filter_of scope q.filter)) = filter_stands P scope q.filter (filter_said (λ g. (col_at g).side ≡ 0) scope (outer_side scope refl) q.filter) in
    let printed : Each P (printed_cols (printed_of scope q.items)) = items_stand P scope q.items (items_said (λ g. (col_at g).side ≡ 0) scope (outer_side scope refl) q.items) (λ m. star) in (
      inner_side (place_on scope.second inner_key) there.0 there.1,
      each_append P (pred_cols (filter_of scope q.filter) ++ printed_cols (printed_of scope q.items)) (col_of scope key ∷ [])
          (each_append P (pred_cols (filter_of scope q.filter)) (printed_cols (printed_of scope q.items)) first printed)
          (each_cons P (col_of scope key) [] (outer_side scope refl key) (each_nil P)),
    )

-- what binding gives
module _ (b : Bound) (q : Select) (shapes : List TableShape) (e : plain_bound b ≡ bound_of q shapes) (c : Clear (scope_of q.source shapes) q) where
  abbrev Here : Scope
  Here = scope_of q.source shapes

  abbrev Kept : Col → Type 0
  Kept = IsKept Here q

  carried_is : b.carried ≡ per_side q.source (first_carried Here q) (second_carried Here q)
  carried_is = ap (λ (x : PlainBound). x.carried) e

  kinds_is : b.kinds ≡ per_side q.source (kinds_at Here.first (first_carried Here q)) (kinds_at Here.second (second_carried Here q))
  kinds_is = ap (λ (x : PlainBound). x.kinds) e

  reads : (col : Col) → Kept col → sound.kind_of b col ≡ kind_of Here col
  reads col h = ap (λ z. KindIn z b.kinds col) carried_is ∙ (ap (λ z. KindIn (per_side q.source (first_carried Here q) (second_carried Here q)) z col) kinds_is ∙ kept_kind shapes q q.source col h)

  sound_of : IsFormed q → IsSound b
  sound_of formed =
      let kept = parts (Stands Kept Here) Here q (all_kept Here q c.columns) in
      let calm = parts (λ r. r.clash ≡ false) Here q c.kinds in
      let founds = parts (λ r. (k : Col) × (r.found ≡ found.At k)) Here q (there 0 (references_of Here q) c.columns) in
      record {
        tables = subst (λ (p : PlainBound). (length p.tables ≡ sides_of p.shape) × (length p.carried ≡ sides_of p.shape) × (length p.kinds ≡ sides_of p.shape)) (sym e)
            (tables_counted shapes q.source ∙ sides_counted Here q q.source ℕ zero zero, sides_counted Here q q.source (List ℕ) _ _, sides_counted Here q q.source (List Kind) _ _);
        sides = subst (λ (p : PlainBound). AreSided p.shape (pred_cols p.filter ++ printed_cols p.printed ++ shape_cols p.shape)) (sym e) (source_sides shapes q q.source c.on kept.source founds.source);
        carried = λ side. subst (λ (p : PlainBound). IsKinded (get_or p.carried side []) (get_or p.kinds side [])) (sym e)
            (each_side q.source _ _ _ _ (carried_kinded Here.first 0 (first_whole q) (references_of Here q)) (carried_kinded Here.second 1 (second_whole Here q) (references_of Here q)) side);
        header = subst (λ (p : PlainBound). length p.header ≡ length p.printed) (sym e) (header_sizes Here q.items);
        columns = subst (λ (p : PlainBound). Each (λ k. In k.at (get_or p.carried k.side [])) (pred_cols p.filter ++ printed_cols p.printed ++ shape_cols p.shape ++ inner_cols p.shape)) (sym e)
            (λ col m. kept_carried shapes q q.source col (named_kept Here q c col m));
        whole = subst (λ (p : PlainBound). sound.IsWhole p.filter) (sym e) (filter_whole Here q.filter formed.filter);
        keys = subst (λ (p : PlainBound). PrintsKeys p.shape (printed_cols p.printed)) (sym e) (source_keys Here q q.source c.items);
        best = subst (λ (p : PlainBound). length (filter sound.is_best p.printed) ≡ bests_of p.shape) (sym e) (bests_printed Here q.items ∙ source_bests Here q q.source formed.source c.items c.best);
        sums = subst (λ (p : PlainBound). SumsNumbers b p.shape) (sym e) (source_sums b Here Kept reads q q.source kept.tail calm.tail);
        alike = subst (λ (p : PlainBound). KeysAlike b p.shape) (sym e) (source_alike b Here Kept reads q q.source kept.source calm.source);
      }

  per_side_few : (s : Source) (xs ys : List ℕ) → length xs ≤ 16 → length ys ≤ 16 → All (λ columns. length columns ≤ 16) (per_side s xs ys)
  per_side_few (source.One table) xs ys h k = All-cons (λ columns. length columns ≤ 16) xs [] h (All-nil (λ columns. length columns ≤ 16))
  per_side_few (source.Join left right x y) xs ys h k = All-cons (λ columns. length columns ≤ 16) xs (ys ∷ []) h (All-cons (λ columns. length columns ≤ 16) ys [] k (All-nil (λ columns. length columns ≤ 16)))
  per_side_few (source.Semi outer inner x y) xs ys h k = All-cons (λ columns. length columns ≤ 16) xs (ys ∷ []) h (All-cons (λ columns. length columns ≤ 16) ys [] k (All-nil (λ columns. length columns ≤ 16)))

  few_of : All (λ columns. length columns ≤ 16) b.carried
  few_of = subst (λ (p : PlainBound). All (λ columns. length columns ≤ 16) p.carried) (sym e) (per_side_few q.source (first_carried Here q) (second_carried Here q) c.first c.second)

pub bound_sound : (r : Result Bound BindError) (q : Select) (shapes : List TableShape) → IsParsed q → IfOk r (λ b. (bind_refusal q shapes ≡ None) × (plain_bound b ≡ bound_of q shapes)) → IfOk r IsSound
bound_sound (Ok b) q shapes p h = sound_of b q shapes h.1 (cleared q shapes h.0) (parsed_formed q p)
bound_sound (Err e) q shapes p h = tt

pub bound_few : (r : Result Bound BindError) (q : Select) (shapes : List TableShape) → IfOk r (λ b. (bind_refusal q shapes ≡ None) × (plain_bound b ≡ bound_of q shapes)) → IfOk r (λ b. All (λ columns. length columns ≤ 16) b.carried)
bound_few (Ok b) q shapes h = few_of b q shapes h.1 (cleared q shapes h.0)
bound_few (Err e) q shapes h = tt
