-- A policy that prunes only what a row of its key that is no worse came before doesn't change the best of each key.
use Rattle.std.proofs.Common.{◌≡◌, Bool, true, false, cond, ◌||◌, List, [], ◌∷◌, map, filter, take, refl, sym, ◌∙◌, ap}
use mathlib.Core.Path.{fun_ext}
use Rattle.std.specs.Prelude.{ℤ, pos}
use Rattle.std.specs.declared.cmp.Ordering.{Ordering}
use Rattle.std.specs.Ordering.{int_cmp, is_lt, is_eq}
use Rattle.std.specs.Cmp.Lexicographic.{slice_cmp}
use Rattle.ch_lists.specs.Members.{In}
use Rattle.ch_lists.specs.Ordered.{ordered, placed, directed, is_among}
use Rattle.ch_lists.proofs.Bags.{SameBag-map}
use Rattle.ch_lists.proofs.Carried.{map_members}
use Rattle.ch_lists.proofs.Different.{once_same}
use Rattle.ch_lists.proofs.Members.{In-map_from, In-filter_from}
use Rattle.ch_lists.proofs.Orders.{ints_exact, lists_exact, directed_exact}
use Rattle.ch_lists.proofs.Sorting.{ordered_same, placed_front, tied_placed}
use Rattle.ch_cover.specs.Rows.{Row, Policy, AreRows}
use Rattle.ch_cover.specs.Cover.{CoversOnce}
use Rattle.ch_cover.proofs.Stepwise.{once_from_steps}
use Rattle.ch_pred.specs.Values.{View, words}
use Rattle.ch_pred.specs.Meaning.{at, at_each, line, key_seen, values_of, different_keys, head_or, best_of, of_held, in_order}
use Rattle.ch_pred.specs.declared.bound.Bound.{Bound}
use Rattle.ch_pred.specs.declared.bound.Shape.{Shape}
use Rattle.ch_pred.specs.declared.bound.Shape.TheVariants as shape
use Rattle.ch_pred.specs.declared.pred.Col.{Col}
use Rattle.ch_words.specs.Words.{Reading, asked_of_words}
use Rattle.ch_words.specs.Rows.{row_seen, answer_over, Gate, GateFits, is_gated, open_seen}
use Rattle.ch_pred.specs.Sound.{has_one_table}
use Rattle.ch_words.specs.Prunable.{open_rows, PrunesMatched}
use Rattle.ch_words.proofs.OneTable.{over_order, over_open}
use Rattle.ch_words.proofs.FilterCover.{open_more}

abbrev some : {X : Type 0} → List X → Bool
some [] = false
some (x ∷ xs) = true

some_placed : (cmp : ℤ → ℤ → Ordering) (x : ℤ) (xs : List ℤ) → some (take 1 (placed cmp x xs)) ≡ true
some_placed cmp x [] = refl
some_placed cmp x (y ∷ ys) = go (is_lt (cmp y x))
  where
    go : (b : Bool) → some (take 1 (cond b (y ∷ placed cmp x ys) (x ∷ y ∷ ys))) ≡ true
    go true = refl
    go false = refl

some_first : (cmp : ℤ → ℤ → Ordering) (xs : List ℤ) → some (take 1 (ordered cmp xs)) ≡ some xs
some_first cmp [] = refl
some_first cmp (x ∷ xs) = some_placed cmp x (ordered cmp xs)

-- a key is there where it has a value
among_some : (k : List ℤ) (gs : List (List ℤ × ℤ)) → is_among (slice_cmp int_cmp) k (map (λ g. g.0) gs) ≡ some (values_of int_cmp gs k)
among_some k [] = refl
among_some k (g ∷ gs) = go (is_eq (slice_cmp int_cmp k g.0)) (among_some k gs)
  where
    go : (b : Bool) → is_among (slice_cmp int_cmp) k (map (λ g. g.0) gs) ≡ some (values_of int_cmp gs k)
        → (b || is_among (slice_cmp int_cmp) k (map (λ g. g.0) gs)) ≡ some (map (λ r. r.1) (cond b (g ∷ filter (λ r. is_eq (slice_cmp int_cmp k r.0)) gs) (filter (λ r. is_eq (slice_cmp int_cmp k r.0)) gs)))
    go true ih = refl
    go false ih = ih

head_first : (w : ℤ) (xs : List ℤ) → head_or w (take 1 xs) ≡ head_or w xs
head_first w [] = refl
head_first w (x ∷ xs) = refl

module _ (d : Reading) (b : Bound) (gate : Gate) (keys : List Col) (max : Bool) (value : Col) (kind : b.shape ≡ shape.Group keys max value)
    (fits : GateFits gate (asked_of_words d b) b.shape) (prunes : Policy) (matched : PrunesMatched max (λ r. at_each (row_seen b r) keys) (λ r. at (row_seen b r) value) prunes) where
  abbrev best_first : ℤ → ℤ → Ordering
  best_first = directed max int_cmp

  abbrev group : View ℤ → List ℤ × ℤ
  group v = (at_each v keys, at v value)

  abbrev groups : List Row → List (List ℤ × ℤ)
  groups rows = map group (open_seen b rows)

  -- the best value of each key, if it has one
  abbrev bests : List Row → List ℤ → List ℤ
  bests rows k = take 1 (ordered best_first (values_of int_cmp (groups rows) k))

  groups_more : (r : Row) (t : Bool) → r.bit ≡ t → (rows : List Row) → groups (r ∷ rows) ≡ cond t (group (row_seen b r) ∷ groups rows) (groups rows)
  groups_more r true e rows = ap (map group) (open_more b r true e rows)
  groups_more r false e rows = ap (map group) (open_more b r false e rows)

  abbrev of_key : List ℤ → List ℤ × ℤ → Bool
  of_key k g = is_eq (slice_cmp int_cmp k g.0)

  more_at : (r : Row) (xs ys : List Row) (k : List ℤ) (t : Bool) → bests xs k ≡ bests ys k
      → take 1 (ordered best_first (map (λ g. g.1) (cond t (group (row_seen b r) ∷ filter (of_key k) (groups xs)) (filter (of_key k) (groups xs)))))
      ≡ take 1 (ordered best_first (map (λ g. g.1) (cond t (group (row_seen b r) ∷ filter (of_key k) (groups ys)) (filter (of_key k) (groups ys)))))
  more_at r xs ys k true h = placed_front best_first 1 (at (row_seen b r) value) (ordered best_first (values_of int_cmp (groups xs) k)) (ordered best_first (values_of int_cmp (groups ys) k)) h
  more_at r xs ys k false h = h

  more : (r : Row) (t : Bool) → r.bit ≡ t → (xs ys : List Row) → bests xs ≡ bests ys → bests (r ∷ xs) ≡ bests (r ∷ ys)
  more r true e xs ys h = fun_ext (λ k.
      ap (λ (gs : List (List ℤ × ℤ)). take 1 (ordered best_first (values_of int_cmp gs k))) (groups_more r true e xs)
      ∙ (more_at r xs ys k (of_key k (group (row_seen b r))) (ap (λ (f : List ℤ → List ℤ). f k) h)
      ∙ sym (ap (λ (gs : List (List ℤ × ℤ)). take 1 (ordered best_first (values_of int_cmp gs k))) (groups_more r true e ys))))
  more r false e xs ys h = fun_ext (λ k.
      ap (λ (gs : List (List ℤ × ℤ)). take 1 (ordered best_first (values_of int_cmp gs k))) (groups_more r false e xs)
      ∙ (ap (λ (f : List ℤ → List ℤ). f k) h ∙ sym (ap (λ (gs : List (List ℤ × ℤ)). take 1 (ordered best_first (values_of int_cmp gs k))) (groups_more r false e ys))))

  dropped_at : (r : Row) (before : List Row) (s : Row) → In s (open_rows before) → at_each (row_seen b s) keys ≡ at_each (row_seen b r) keys
      → is_lt (best_first (at (row_seen b r) value) (at (row_seen b s) value)) ≡ false → (k : List ℤ) (t : Bool) → of_key k (group (row_seen b r)) ≡ t
      → take 1 (ordered best_first (map (λ g. g.1) (cond t (group (row_seen b r) ∷ filter (of_key k) (groups before)) (filter (of_key k) (groups before))))) ≡ bests before k
  dropped_at r before s i same worse k true e = tied_placed best_first (directed_exact max int_cmp ints_exact) (at (row_seen b r) value) (at (row_seen b s) value) (values_of int_cmp (groups before) k)
      (In-map_from (λ (g : List ℤ × ℤ). g.1) (group (row_seen b s)) (filter (of_key k) (groups before))
      (In-filter_from (of_key k) (group (row_seen b s)) (groups before) (In-map_from group (row_seen b s) (open_seen b before) (In-map_from (row_seen b) s (open_rows before) i))
      (ap (λ (z : List ℤ). is_eq (slice_cmp int_cmp k z)) same ∙ e))) worse
  dropped_at r before s i same worse k false e = refl

  dropped : (r : Row) (t : Bool) → r.bit ≡ t → (before : List Row) → prunes (map (λ y. (1, y)) before) (1, r) ≡ true → bests (r ∷ before) ≡ bests before
  dropped r true e before p = let s = matched r before e p in fun_ext (λ k.
      ap (λ (gs : List (List ℤ × ℤ)). take 1 (ordered best_first (values_of int_cmp gs k))) (groups_more r true e before)
      ∙ dropped_at r before s.0 s.1 s.2 s.3 k (of_key k (group (row_seen b r))) refl)
  dropped r false e before p = fun_ext (λ k. ap (λ (gs : List (List ℤ × ℤ)). take 1 (ordered best_first (values_of int_cmp gs k))) (groups_more r false e before))

  abbrev made : List (List ℤ × ℤ) → List ℤ → List ℤ
  made gs key = line b.printed (best_of words max (values_of int_cmp gs key)) (key_seen (pos 0) keys key)

  answer_is : (xs : List Row) → AreRows (is_gated gate b) xs → answer_over d b xs ≡ ordered (slice_cmp int_cmp) (map (made (groups xs)) (different_keys int_cmp (groups xs)))
  answer_is xs are = over_open d b gate (ap has_one_table kind) fits xs are ∙ ap (λ (s : Shape). in_order int_cmp s (of_held s (asked_of_words d b) (open_seen b xs) [])) kind

  tells : (xs ys : List Row) → bests xs ≡ bests ys
      → ordered (slice_cmp int_cmp) (map (made (groups xs)) (different_keys int_cmp (groups xs))) ≡ ordered (slice_cmp int_cmp) (map (made (groups ys)) (different_keys int_cmp (groups ys)))
  tells xs ys h =
      ap (ordered (slice_cmp int_cmp)) (map_members (made (groups xs)) (made (groups ys)) (different_keys int_cmp (groups xs))
      (λ key j. ap (λ best. line b.printed best (key_seen (pos 0) keys key))
      (sym (head_first (pos 0) (ordered best_first (values_of int_cmp (groups xs) key))) ∙ (ap (λ (f : List ℤ → List ℤ). head_or (pos 0) (f key)) h ∙ head_first (pos 0) (ordered best_first (values_of int_cmp (groups ys) key))))))
      ∙ ordered_same (slice_cmp int_cmp) (lists_exact int_cmp ints_exact) (map (made (groups ys)) (different_keys int_cmp (groups xs))) (map (made (groups ys)) (different_keys int_cmp (groups ys)))
      (SameBag-map (made (groups ys)) (different_keys int_cmp (groups xs)) (different_keys int_cmp (groups ys))
      (once_same (slice_cmp int_cmp) (lists_exact int_cmp ints_exact) (map (λ g. g.0) (groups xs)) (map (λ g. g.0) (groups ys))
      (λ k. among_some k (groups xs) ∙ (sym (some_first best_first (values_of int_cmp (groups xs) k)) ∙ (ap (λ (f : List ℤ → List ℤ). some (f k)) h ∙ (some_first best_first (values_of int_cmp (groups ys) k) ∙ sym (among_some k (groups ys))))))))

  pub group_covers : CoversOnce (is_gated gate b) prunes (answer_over d b)
  group_covers = once_from_steps (is_gated gate b) prunes (answer_over d b) bests (record {
    order = λ xs ys are p. over_order d b xs ys p;
    tells = λ xs ys ax ay e. answer_is xs ax ∙ (tells xs ys e ∙ sym (answer_is ys ay));
    more = λ r xs ys ax ay e. more r r.bit refl xs ys e;
    drop = λ r before are p. dropped r r.bit refl before p;
  })
