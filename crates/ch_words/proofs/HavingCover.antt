-- A policy whose second pass prunes only rows of keys whose exact sum isn't above doesn't change which keys are above.
use Rattle.std.proofs.Common.{◌≡◌, Bool, true, false, cond, List, [], ◌∷◌, ◌++◌, map, filter, Option, IsPermutation, refl, sym, ◌∙◌, ap, inl, inr, arith, subst}
use Rattle.std.specs.Prelude.{ℤ, pos, ◌+ℤ◌, ◌≤ℤ◌, int_lt, int_le}
use Rattle.std.specs.Ordering.{int_cmp, is_eq}
use Rattle.std.specs.Cmp.Lexicographic.{slice_cmp}
use Rattle.std.proofs.lemmas.Bool.{cases_Bool, and_parts}
use Rattle.std.proofs.lemmas.Int.{ints}
use Rattle.std.proofs.lemmas.List.Elements.{filter-append}
use Rattle.ch_lists.specs.Members.{In, Each}
use Rattle.ch_lists.specs.Ordered.{ordered, IsExactOrder, SameBag}
use Rattle.ch_lists.proofs.Bags.{SameBag-permutation, SameBag-map, SameBag-filter}
use Rattle.ch_lists.proofs.Carried.{map-map, filter-map}
use Rattle.ch_lists.proofs.Different.{once-different, once-In, once-from}
use Rattle.ch_lists.proofs.Members.{In-map, In-map_from, In-filter, In-filter_from, In-append, In-left, In-right, AreDifferent-filter, same_members, Each-permutation}
use Rattle.ch_lists.proofs.Orders.{ints_exact, lists_exact, eq_exact}
use Rattle.ch_lists.proofs.Sorting.{ordered_same}
use Rattle.ch_cover.specs.Rows.{Row, Policy, AreRows}
use Rattle.ch_cover.specs.Cover.{CoversTwice}
use Rattle.ch_cover.proofs.Memoryless.{covers_from_rows}
use Rattle.ch_pred.specs.Values.{View, words}
use Rattle.ch_pred.specs.Meaning.{at_each, line, key_seen, values_of, different_keys, total, amount, of_held, in_order}
use Rattle.ch_pred.specs.declared.bound.Bound.{Bound}
use Rattle.ch_pred.specs.declared.bound.Shape.{Shape}
use Rattle.ch_pred.specs.declared.bound.Shape.TheVariants as shape
use Rattle.ch_pred.specs.declared.pred.Col.{Col}
use Rattle.ch_words.specs.Words.{Reading, asked_of_words}
use Rattle.ch_words.specs.Rows.{row_seen, answer_over, Gate, GateFits, is_gated, open_seen}
use Rattle.ch_pred.specs.Sound.{has_one_table}
use Rattle.ch_words.specs.Prunable.{open_rows, key_total, PrunesSmall, is_summed}
use Rattle.ch_words.proofs.OneTable.{over_order, over_open}
use Rattle.ch_words.proofs.Order.{total_same}

lt_le : (a x y : ℤ) → int_lt a x ≡ true → x ≤ℤ y → int_lt a y ≡ true
lt_le a x y h l = grind (arith, ints)

le_not_lt : (a x : ℤ) → int_le x a ≡ true → int_lt a x ≡ false
le_not_lt a x h = grind (arith, ints)

total-append : (ns ms : List ℤ) → total (ns ++ ms) ≡ total ns +ℤ total ms
total-append [] ms = omega (arith, ints)
total-append (n ∷ ns) ms = ap (λ k. n +ℤ k) (total-append ns ms) ∙ omega (arith, ints)

total_positive : (ns : List ℤ) → Each (λ n. int_le (pos 0) n ≡ true) ns → pos 0 ≤ℤ total ns
total_positive [] h = omega (arith, ints)
total_positive (n ∷ ns) h = sum n (total ns) (h n (inl refl)) (total_positive ns (λ m i. h m (inr i)))
  where
    sum : (a c : ℤ) → int_le (pos 0) a ≡ true → pos 0 ≤ℤ c → pos 0 ≤ℤ (a +ℤ c)
    sum a c h l = grind (arith, ints)

map-append : {X Y : Type 0} (f : X → Y) (xs ys : List X) → map f (xs ++ ys) ≡ map f xs ++ map f ys
map-append f [] ys = refl
map-append f (x ∷ xs) ys = ap (λ zs. f x ∷ zs) (map-append f xs ys)

filter_none : {X : Type 0} (p : X → Bool) (xs : List X) → Each (λ x. p x ≡ false) xs → filter p xs ≡ []
filter_none p [] h = refl
filter_none {X} p (x ∷ xs) h = ap (λ t. cond t (x ∷ filter p xs) (filter p xs)) (h x (inl refl)) ∙ filter_none p xs (λ y i. h y (inr i))

append_none : {X : Type 0} (xs ys : List X) → ys ≡ [] → xs ++ ys ≡ xs
append_none [] ys e = e
append_none (x ∷ xs) ys e = ap (λ zs. x ∷ zs) (append_none xs ys e)

module _ (d : Reading) (b : Bound) (gate : Gate) (keys : List Col) (sum : Option Col) (above : ℤ) (kind : b.shape ≡ shape.Having keys sum above)
    (fits : GateFits gate (asked_of_words d b) b.shape) (prunes : Policy)
    (small : PrunesSmall (is_summed gate b (λ r. amount words sum (row_seen b r))) (λ r. at_each (row_seen b r) keys) (λ r. amount words sum (row_seen b r)) above prunes) where
  abbrev key : Row → List ℤ
  key r = at_each (row_seen b r) keys

  abbrev value : Row → ℤ
  value r = amount words sum (row_seen b r)

  abbrev group : View ℤ → List ℤ × ℤ
  group v = (at_each v keys, amount words sum v)

  abbrev groups : List Row → List (List ℤ × ℤ)
  groups rows = map group (open_seen b rows)

  abbrev passing : List Row → List ℤ → Bool
  passing rows k = int_lt above (total (values_of int_cmp (groups rows) k))

  -- the sum of a key in both forms
  total_is : (rows : List Row) (k : List ℤ) → values_of int_cmp (groups rows) k ≡ map value (filter (λ r. is_eq (slice_cmp int_cmp k (key r))) (open_rows rows))
  total_is rows k =
      ap (λ (gs : List (List ℤ × ℤ)). values_of int_cmp gs k) (map-map (row_seen b) group (open_rows rows))
      ∙ (ap (map (λ g. g.1)) (filter-map (λ r. group (row_seen b r)) (λ g. is_eq (slice_cmp int_cmp k g.0)) (λ r. is_eq (slice_cmp int_cmp k (key r))) (λ r. refl) (open_rows rows))
      ∙ map-map (λ r. group (row_seen b r)) (λ g. g.1) (filter (λ r. is_eq (slice_cmp int_cmp k (key r))) (open_rows rows)))

  groups_append : (xs ys : List Row) → groups (xs ++ ys) ≡ groups xs ++ groups ys
  groups_append xs ys = ap (λ (rs : List Row). map group (map (row_seen b) rs)) (filter-append (λ r. r.bit) xs ys)
      ∙ (ap (map group) (map-append (row_seen b) (open_rows xs) (open_rows ys)) ∙ map-append group (open_seen b xs) (open_seen b ys))

  abbrev is_row : Row → Bool
  is_row = is_summed gate b (λ r. amount words sum (row_seen b r))

  gated : (rows : List Row) → AreRows is_row rows → AreRows (is_gated gate b) rows
  gated rows h r i = (and_parts (is_gated gate b r) (int_le (pos 0) (value r)) (h r i)).0

  values_append : (xs ys : List Row) (k : List ℤ) → values_of int_cmp (groups (xs ++ ys)) k ≡ values_of int_cmp (groups xs) k ++ values_of int_cmp (groups ys) k
  values_append xs ys k = ap (λ (gs : List (List ℤ × ℤ)). values_of int_cmp gs k) (groups_append xs ys)
      ∙ (ap (map (λ g. g.1)) (filter-append (λ g. is_eq (slice_cmp int_cmp k g.0)) (groups xs) (groups ys)) ∙ map-append (λ g. g.1) (filter (λ g. is_eq (slice_cmp int_cmp k g.0)) (groups xs)) (filter (λ g. is_eq (slice_cmp int_cmp k g.0)) (groups ys)))

  -- no value of a row is negative
  values_positive : (rows : List Row) → AreRows is_row rows → (k : List ℤ) → pos 0 ≤ℤ total (values_of int_cmp (groups rows) k)
  values_positive rows are k = subst (λ (ns : List ℤ). pos 0 ≤ℤ total ns) (sym (total_is rows k))
      (total_positive (map value (filter (λ r. is_eq (slice_cmp int_cmp k (key r))) (open_rows rows)))
      (λ n i. let q = In-map value n (filter (λ r. is_eq (slice_cmp int_cmp k (key r))) (open_rows rows)) i in
      let j = In-filter (λ r. r.bit) q.0 rows (In-filter (λ r. is_eq (slice_cmp int_cmp k (key r))) q.0 (open_rows rows) q.1).0 in
      ap (int_le (pos 0)) q.2 ∙ (and_parts (is_gated gate b q.0) (int_le (pos 0) (value q.0)) (are q.0 j.0)).1))

  module _ (first kept dropped : List Row) (are : AreRows is_row first) (p : IsPermutation first (kept ++ dropped))
      (pruned : Each (λ r. (second : List Row) × (prunes (map (λ y. (2, y)) second ++ map (λ y. (1, y)) first) (2, r) ≡ true)) dropped) where
    abbrev all : List Row
    all = kept ++ dropped

    are_all : AreRows is_row all
    are_all = Each-permutation (λ r. is_row r ≡ true) first all p are

    are_kept : AreRows is_row kept
    are_kept r i = are_all r (In-left r kept dropped i)

    are_dropped : AreRows is_row dropped
    are_dropped r i = are_all r (In-right r kept dropped i)

    -- the key of an open row that was dropped isn't above
    low : (r : Row) → In r dropped → r.bit ≡ true → passing all (key r) ≡ false
    low r i e =
        let q = pruned r i in
        let bag : SameBag (groups first) (groups all) = SameBag-map group (open_seen b first) (open_seen b all) (SameBag-map (row_seen b) (open_rows first) (open_rows all) (SameBag-filter (λ x. x.bit) first all (SameBag-permutation first all p))) in
        let same : total (values_of int_cmp (groups first) (key r)) ≡ total (values_of int_cmp (groups all) (key r)) =
        total_same (values_of int_cmp (groups first) (key r)) (values_of int_cmp (groups all) (key r))
        (SameBag-map (λ g. g.1) (filter (λ g. is_eq (slice_cmp int_cmp (key r) g.0)) (groups first)) (filter (λ g. is_eq (slice_cmp int_cmp (key r) g.0)) (groups all)) (SameBag-filter (λ g. is_eq (slice_cmp int_cmp (key r) g.0)) (groups first) (groups all) bag)) in
        ap (int_lt above) (sym same) ∙ (ap (λ (ns : List ℤ). int_lt above (total ns)) (total_is first (key r)) ∙ le_not_lt above (key_total key value first (key r)) (small r q.0 first are e q.1))

    -- the rows that are kept have the values of a key that is above
    kept_values : (k : List ℤ) → passing all k ≡ true → values_of int_cmp (groups dropped) k ≡ []
    kept_values k t = total_is dropped k ∙ ap (map value) (filter_none (λ r. is_eq (slice_cmp int_cmp k (key r))) (open_rows dropped)
        (λ r i. elim (cases_Bool (is_eq (slice_cmp int_cmp k (key r)))) [
          | inr f ↦ f
          | inl e ↦
              let j = In-filter (λ x. x.bit) r dropped i in
              absurd (cc (t, ap (passing all) (eq_exact (slice_cmp int_cmp) (lists_exact int_cmp ints_exact) k (key r) e), low r j.0 j.1))
        ]))

    more_than : (k : List ℤ) → total (values_of int_cmp (groups kept) k) ≤ℤ total (values_of int_cmp (groups all) k)
    more_than k = wider (total (values_of int_cmp (groups kept) k)) (total (values_of int_cmp (groups dropped) k)) (total (values_of int_cmp (groups all) k)) (values_positive dropped are_dropped k)
        (ap total (values_append kept dropped k) ∙ total-append (values_of int_cmp (groups kept) k) (values_of int_cmp (groups dropped) k))
      where
        wider : (a c e : ℤ) → pos 0 ≤ℤ c → e ≡ a +ℤ c → a ≤ℤ e
        wider a c e l h = omega (arith, ints)

    passes_down : (k : List ℤ) → passing all k ≡ true → passing kept k ≡ true
    passes_down k t = ap (λ (ns : List ℤ). int_lt above (total ns)) (sym (values_append kept dropped k ∙ append_none (values_of int_cmp (groups kept) k) (values_of int_cmp (groups dropped) k) (kept_values k t))) ∙ t

    key_down : (k : List ℤ) → passing all k ≡ true → In k (map (λ g. g.0) (groups all)) → In k (map (λ g. g.0) (groups kept))
    key_down k t i =
        let q = In-map (λ (g : List ℤ × ℤ). g.0) k (groups all) i in
        elim (In-append q.0 (groups kept) (groups dropped) (subst (λ (gs : List (List ℤ × ℤ)). In q.0 gs) (groups_append kept dropped) q.1)) [
          | inl j ↦ subst (λ (z : List ℤ). In z (map (λ g. g.0) (groups kept))) (sym q.2) (In-map_from (λ (g : List ℤ × ℤ). g.0) q.0 (groups kept) j)
          | inr j ↦
              let v = In-map group q.0 (open_seen b dropped) j in
              let r = In-map (row_seen b) v.0 (open_rows dropped) v.1 in
              let s = In-filter (λ x. x.bit) r.0 dropped r.1 in
              let same : k ≡ key r.0 = q.2 ∙ (ap (λ (g : List ℤ × ℤ). g.0) v.2 ∙ ap (λ (z : View ℤ). at_each z keys) r.2) in
              absurd (cc (t, ap (passing all) same, low r.0 s.0 s.1))
        ]

    key_up : (k : List ℤ) → In k (map (λ g. g.0) (groups kept)) → In k (map (λ g. g.0) (groups all))
    key_up k i =
        let q = In-map (λ (g : List ℤ × ℤ). g.0) k (groups kept) i in
        subst (λ (z : List ℤ). In z (map (λ g. g.0) (groups all))) (sym q.2)
        (In-map_from (λ (g : List ℤ × ℤ). g.0) q.0 (groups all) (subst (λ (gs : List (List ℤ × ℤ)). In q.0 gs) (sym (groups_append kept dropped)) (In-left q.0 (groups kept) (groups dropped) q.1)))

    abbrev shown : List Row → List (List ℤ)
    shown rows = filter (passing rows) (different_keys int_cmp (groups rows))

    abbrev exact : IsExactOrder (slice_cmp int_cmp)
    exact = lists_exact int_cmp ints_exact

    shown_same : SameBag (shown kept) (shown all)
    shown_same = SameBag-permutation (shown kept) (shown all) (same_members (shown kept) (shown all)
        (AreDifferent-filter (passing kept) (different_keys int_cmp (groups kept)) (once-different (slice_cmp int_cmp) exact (map (λ g. g.0) (groups kept))))
        (AreDifferent-filter (passing all) (different_keys int_cmp (groups all)) (once-different (slice_cmp int_cmp) exact (map (λ g. g.0) (groups all))))
        (λ k i. let q = In-filter (passing kept) k (different_keys int_cmp (groups kept)) i in
        In-filter_from (passing all) k (different_keys int_cmp (groups all)) (once-from (slice_cmp int_cmp) exact k (map (λ g. g.0) (groups all)) (key_up k (once-In (slice_cmp int_cmp) exact k (map (λ g. g.0) (groups kept)) q.0)))
        (lt_le above (total (values_of int_cmp (groups kept) k)) (total (values_of int_cmp (groups all) k)) q.1 (more_than k)))
        (λ k i. let q = In-filter (passing all) k (different_keys int_cmp (groups all)) i in
        In-filter_from (passing kept) k (different_keys int_cmp (groups kept)) (once-from (slice_cmp int_cmp) exact k (map (λ g. g.0) (groups kept)) (key_down k q.1 (once-In (slice_cmp int_cmp) exact k (map (λ g. g.0) (groups all)) q.0)))
        (passes_down k q.1)))

    abbrev told : List (List ℤ) → List (List ℤ)
    told ks = ordered (slice_cmp int_cmp) (map (λ k. line b.printed (pos 0) (key_seen (pos 0) keys k)) ks)

    answer_is : (xs : List Row) → AreRows is_row xs → answer_over d b xs ≡ told (shown xs)
    answer_is xs h = over_open d b gate (ap has_one_table kind) fits xs (gated xs h) ∙ ap (λ (s : Shape). in_order int_cmp s (of_held s (asked_of_words d b) (open_seen b xs) [])) kind

    covered : answer_over d b kept ≡ answer_over d b all
    covered = answer_is kept are_kept
        ∙ (ordered_same (slice_cmp int_cmp) exact (map (λ k. line b.printed (pos 0) (key_seen (pos 0) keys k)) (shown kept)) (map (λ k. line b.printed (pos 0) (key_seen (pos 0) keys k)) (shown all))
        (SameBag-map (λ k. line b.printed (pos 0) (key_seen (pos 0) keys k)) (shown kept) (shown all) shown_same)
        ∙ sym (answer_is all are_all))

  pub having_covers : CoversTwice is_row prunes (answer_over d b)
  having_covers = covers_from_rows is_row prunes (answer_over d b) (record { order = λ xs ys h p. over_order d b xs ys p; cover = covered })
