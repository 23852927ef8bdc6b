-- What the lists of Distinct prune doesn't change the different rows.
use Rattle.std.proofs.Common.{◌≡◌, ℕ, zero, suc, Bool, true, false, cond, not, ◌&&◌, ◌||◌, eqb, List, [], ◌∷◌, map, filter, take, refl, sym, ◌∙◌, ap, inl, inr, subst}
use Rattle.std.specs.Prelude.{ℤ, pos}
use Rattle.std.specs.Ordering.{int_cmp, is_eq}
use Rattle.std.specs.Cmp.Lexicographic.{slice_cmp}
use Rattle.std.proofs.lemmas.Bool.{or_cases, or_left, or_right}
use Rattle.ch_lists.specs.Ordered.{ordered, once, is_among, IsExactOrder}
use Rattle.ch_lists.proofs.Bags.{any_same}
use Rattle.ch_lists.proofs.Orders.{ints_exact, lists_exact}
use Rattle.ch_lists.proofs.Sorting.{ordered_same, ordered_keeps}
use Rattle.ch_lists.proofs.Different.{once_same, among-In, among-from, once-In, once-from}
use Rattle.ch_lists.proofs.Members.{In-map, In-map_from}
use Rattle.ch_cover.specs.Rows.{Row, AreRows}
use Rattle.ch_cover.specs.Cover.{CoversOnce}
use Rattle.ch_cover.proofs.Stepwise.{once_from_steps}
use Rattle.ch_pred.specs.Meaning.{line, lines, of_held, in_order}
use Rattle.ch_pred.specs.declared.bound.Bound.{Bound}
use Rattle.ch_pred.specs.declared.bound.Shape.{Shape}
use Rattle.ch_pred.specs.declared.bound.Shape.TheVariants as shape
use Rattle.ch_words.specs.Words.{Reading, asked_of_words}
use Rattle.ch_words.specs.Rows.{row_seen, answer_over, Gate, GateFits, is_gated, open_seen}
use Rattle.ch_pred.specs.Sound.{has_one_table}
use Rattle.ch_words.specs.Policies.{Key, without, touched, listed_after, least_recent}
use Rattle.ch_words.proofs.OneTable.{over_order, over_open}
use Rattle.ch_words.proofs.FilterCover.{open_more}

abbrev keys : IsExactOrder (slice_cmp int_cmp)
keys = lists_exact int_cmp ints_exact

abbrev among : Key → List Key → Bool
among = is_among (slice_cmp int_cmp)

abbrev different : List Key → List Key
different ks = ordered (slice_cmp int_cmp) (once (slice_cmp int_cmp) ks)

-- the different keys in order tell which keys there are
both_ways : (a b : Bool) → (a ≡ true → b ≡ true) → (b ≡ true → a ≡ true) → a ≡ b
both_ways true b f g = sym (f refl)
both_ways false true f g = g refl
both_ways false false f g = refl

among_different : (k : Key) (ks : List Key) → among k (different ks) ≡ among k ks
among_different k ks =
    any_same (λ y. is_eq (slice_cmp int_cmp k y)) (different ks) (once (slice_cmp int_cmp) ks) (ordered_keeps (slice_cmp int_cmp) (once (slice_cmp int_cmp) ks))
    ∙ both_ways _ _ (λ h. among-from (slice_cmp int_cmp) keys k ks (once-In (slice_cmp int_cmp) keys k ks (among-In (slice_cmp int_cmp) keys k (once (slice_cmp int_cmp) ks) h)))
    (λ h. among-from (slice_cmp int_cmp) keys k (once (slice_cmp int_cmp) ks) (once-from (slice_cmp int_cmp) keys k ks (among-In (slice_cmp int_cmp) keys k ks h)))

different_same : (ks ls : List Key) → ((k : Key) → among k ks ≡ among k ls) → different ks ≡ different ls
different_same ks ls h = ordered_same (slice_cmp int_cmp) keys (once (slice_cmp int_cmp) ks) (once (slice_cmp int_cmp) ls) (once_same (slice_cmp int_cmp) keys ks ls h)

different_more : (k : Key) (ks ls : List Key) → different ks ≡ different ls → different (k ∷ ks) ≡ different (k ∷ ls)
different_more k ks ls e = different_same (k ∷ ks) (k ∷ ls)
    (λ x. ap (λ t. is_eq (slice_cmp int_cmp x k) || t) (sym (among_different x ks) ∙ (ap (among x) e ∙ among_different x ls)))

different_again : (k : Key) (ks : List Key) → among k ks ≡ true → different (k ∷ ks) ≡ different ks
different_again k ks h = ap (λ t. ordered (slice_cmp int_cmp) (cond t (once (slice_cmp int_cmp) ks) (k ∷ once (slice_cmp int_cmp) ks))) h

-- what is listed was there
among_taken : (n : ℕ) (x : Key) (ks : List Key) → among x (take n ks) ≡ true → among x ks ≡ true
among_taken zero x ks h = absurd cc
among_taken (suc n) x [] h = h
among_taken (suc n) x (k ∷ ks) h = elim (or_cases (is_eq (slice_cmp int_cmp x k)) (among x (take n ks)) h) [
  | inl e ↦ or_left (is_eq (slice_cmp int_cmp x k)) (among x ks) e
  | inr e ↦ or_right (is_eq (slice_cmp int_cmp x k)) (among x ks) (among_taken n x ks e)
]

among_without : (k x : Key) (ks : List Key) → among x (without k ks) ≡ true → among x ks ≡ true
among_without k x [] h = h
among_without k x (y ∷ ks) h = go (is_eq (slice_cmp int_cmp y k)) (among_without k x ks) h
  where
    go : (t : Bool) → (among x (without k ks) ≡ true → among x ks ≡ true) → among x (cond t ks (y ∷ without k ks)) ≡ true → among x (y ∷ ks) ≡ true
    go true ih h = or_right (is_eq (slice_cmp int_cmp x y)) (among x ks) h
    go false ih h = elim (or_cases (is_eq (slice_cmp int_cmp x y)) (among x (without k ks)) h) [
      | inl e ↦ or_left (is_eq (slice_cmp int_cmp x y)) (among x ks) e
      | inr e ↦ or_right (is_eq (slice_cmp int_cmp x y)) (among x ks) (ih e)
    ]

module _ (cols : ℕ) (hash_row : Key → ℕ) (key : Row → Key) where
  abbrev open_keys : List Row → List Key
  open_keys rows = map key (filter (λ r. r.bit) rows)

  abbrev lists : List Row → ℕ → List Key
  lists before = listed_after cols hash_row key (map (λ y. (1, y)) before)

  listed_open : (x : Key) (i : ℕ) (before : List Row) → among x (lists before i) ≡ true → among x (open_keys before) ≡ true
  listed_open x i [] h = h
  listed_open x i (y ∷ before) h = go y.bit (eqb (hash_row (key y)) i) (listed_open x i before) h
    where
      go : (t s : Bool) → (among x (lists before i) ≡ true → among x (open_keys before) ≡ true)
          → among x (cond (t && s) (touched cols (key y) (lists before i)) (lists before i)) ≡ true → among x (map key (cond t (y ∷ filter (λ r. r.bit) before) (filter (λ r. r.bit) before))) ≡ true
      go true true ih h = elim (or_cases (is_eq (slice_cmp int_cmp x (key y))) (among x (without (key y) (lists before i))) (among_taken cols x (key y ∷ without (key y) (lists before i)) h)) [
        | inl e ↦ or_left (is_eq (slice_cmp int_cmp x (key y))) (among x (open_keys before)) e
        | inr e ↦ or_right (is_eq (slice_cmp int_cmp x (key y))) (among x (open_keys before)) (ih (among_without (key y) x (lists before i) e))
      ]
      go true false ih h = or_right (is_eq (slice_cmp int_cmp x (key y))) (among x (open_keys before)) (ih h)
      go false s ih h = ih h

  module _ (d : Reading) (b : Bound) (gate : Gate) (kind : b.shape ≡ shape.Distinct) (fits : GateFits gate (asked_of_words d b) b.shape)
      (prints : (r s : Row) → key r ≡ key s → line b.printed (pos 0) (row_seen b r) ≡ line b.printed (pos 0) (row_seen b s)) where
    abbrev open_lines : List Row → List (List ℤ)
    open_lines rows = lines (asked_of_words d b) (open_seen b rows)

    lines_more : (r : Row) (t : Bool) → r.bit ≡ t → (rows : List Row) → open_lines (r ∷ rows) ≡ cond t (line b.printed (pos 0) (row_seen b r) ∷ open_lines rows) (open_lines rows)
    lines_more r true e rows = ap (lines (asked_of_words d b)) (open_more b r true e rows)
    lines_more r false e rows = ap (lines (asked_of_words d b)) (open_more b r false e rows)

    -- a row whose key is that of an open row prints what that one prints
    printed_before : (r : Row) (before : List Row) → among (key r) (open_keys before) ≡ true → among (line b.printed (pos 0) (row_seen b r)) (open_lines before) ≡ true
    printed_before r before h =
        let q = In-map key (key r) (filter (λ x. x.bit) before) (among-In (slice_cmp int_cmp) keys (key r) (open_keys before) h) in
        subst (λ (k : Key). among k (open_lines before) ≡ true) (sym (prints r q.0 q.2))
        (among-from (slice_cmp int_cmp) keys (line b.printed (pos 0) (row_seen b q.0)) (open_lines before)
        (In-map_from (line b.printed (pos 0)) (row_seen b q.0) (open_seen b before) (In-map_from (row_seen b) q.0 (filter (λ x. x.bit) before) q.1)))

    more_lines : (r : Row) (t : Bool) → r.bit ≡ t → (xs ys : List Row) → different (open_lines xs) ≡ different (open_lines ys) → different (open_lines (r ∷ xs)) ≡ different (open_lines (r ∷ ys))
    more_lines r true e xs ys h = ap different (lines_more r true e xs) ∙ (different_more (line b.printed (pos 0) (row_seen b r)) (open_lines xs) (open_lines ys) h ∙ ap different (sym (lines_more r true e ys)))
    more_lines r false e xs ys h = ap different (lines_more r false e xs) ∙ (h ∙ ap different (sym (lines_more r false e ys)))

    dropped : (r : Row) (t : Bool) → r.bit ≡ t → (before : List Row) → (not t || among (key r) (lists before (hash_row (key r)))) ≡ true → different (open_lines (r ∷ before)) ≡ different (open_lines before)
    dropped r true e before p = ap different (lines_more r true e before) ∙ different_again (line b.printed (pos 0) (row_seen b r)) (open_lines before) (printed_before r before (listed_open (key r) (hash_row (key r)) before p))
    dropped r false e before p = ap different (lines_more r false e before)

    answer_is : (xs : List Row) → AreRows (is_gated gate b) xs → answer_over d b xs ≡ different (open_lines xs)
    answer_is xs are = over_open d b gate (ap has_one_table kind) fits xs are ∙ ap (λ (s : Shape). in_order int_cmp s (of_held s (asked_of_words d b) (open_seen b xs) [])) kind

    pub distinct_covers : CoversOnce (is_gated gate b) (least_recent cols hash_row key) (answer_over d b)
    distinct_covers = once_from_steps (is_gated gate b) (least_recent cols hash_row key) (answer_over d b) (λ rows. different (open_lines rows)) (record {
      order = λ xs ys are p. over_order d b xs ys p;
      tells = λ xs ys ax ay e. answer_is xs ax ∙ (e ∙ sym (answer_is ys ay));
      more = λ r xs ys ax ay e. more_lines r r.bit refl xs ys e;
      drop = λ r before are p. dropped r r.bit refl before p;
    })
