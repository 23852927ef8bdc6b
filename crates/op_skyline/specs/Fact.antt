-- A row that is pruned is dominated by an open row before it.
use Rattle.std.proofs.Common.{◌≡◌, ℕ, suc, zero, ℤ, int_lt, int_le, Bool, true, false, cond, not, ◌||◌, List, [], ◌∷◌, map, take, refl, ap, ap₂, arith, inl, inr}
use Rattle.std.specs.List.{list_any, list_all}
use Rattle.std.specs.declared.cmp.Ordering.TheVariants.{Less, Equal, Greater}
use Rattle.std.specs.Ordering.{int_cmp, is_lt, is_le}
use Rattle.std.proofs.lemmas.Bool.{or_cases, or_left, or_right, and_parts, and_from}
use Rattle.std.proofs.lemmas.Int.{ints}
use Rattle.ch_lists.specs.Members.{In}
use Rattle.ch_lists.specs.Ordered.{directed}
use Rattle.ch_cover.specs.Rows.{Row}
use Rattle.ch_pred.specs.Meaning.{at, dominates as dims_dominate}
use Rattle.ch_pred.specs.Values.{View}
use Rattle.ch_pred.specs.declared.bound.Bound.{Bound}
use Rattle.ch_pred.specs.declared.bound.Dim.{Dim}
use Rattle.ch_words.specs.Prunable.{PrunesDominated, open_rows}
use Rattle.ch_words.specs.Rows.{row_seen}
use Rattle.op_moves.specs.Columns.{column_word}
use Rattle.op_skyline.specs.Policy.{dominates, inserted, is_as_good, is_better, oriented, point_at, point_of, score, skyline_policy, stored}
use Rattle.op_skyline.specs.Serves.{DimsStandAt}
use Rattle.op_skyline.specs.declared.sizes.Sizes.{Sizes}

any_inserted : (f : List ℤ → Bool) (p : List ℤ) (ss : List (List ℤ)) → list_any f (inserted p ss) ≡ true → (f p || list_any f ss) ≡ true
any_inserted f p [] h = h
any_inserted f p (s ∷ ss) h = go (any_inserted f p ss) (int_le (score p) (score s)) h
  where
    go : (list_any f (inserted p ss) ≡ true → (f p || list_any f ss) ≡ true) → (b : Bool) → list_any f (cond b (s ∷ inserted p ss) (p ∷ s ∷ ss)) ≡ true → (f p || (f s || list_any f ss)) ≡ true
    go ih true h = elim (or_cases (f s) (list_any f (inserted p ss)) h) [
      | inl e ↦ or_right (f p) (f s || list_any f ss) (or_left (f s) (list_any f ss) e)
      | inr e ↦ elim (or_cases (f p) (list_any f ss) (ih e)) [
        | inl g ↦ or_left (f p) (f s || list_any f ss) g
        | inr g ↦ or_right (f p) (f s || list_any f ss) (or_right (f s) (list_any f ss) g)
      ]
    ]
    go ih false h = h

any_taken : (f : List ℤ → Bool) (n : ℕ) (ss : List (List ℤ)) → list_any f (take n ss) ≡ true → list_any f ss ≡ true
any_taken f zero ss h = absurd (cc)
any_taken f (suc n) [] h = h
any_taken f (suc n) (s ∷ ss) h = elim (or_cases (f s) (list_any f (take n ss)) h) [
  | inl e ↦ or_left (f s) (list_any f ss) e
  | inr e ↦ or_right (f s) (list_any f ss) (any_taken f n ss e)
]

abbrev in_first : List Row → List (ℕ × Row)
in_first rows = map (λ r. (1, r)) rows

-- a stored point is that of an open row before
stored_came : (s : Sizes) (f : List ℤ → Bool) (before : List Row) → list_any f (stored s (in_first before)) ≡ true → (r : Row) × In r (open_rows before) × (f (point_of s r) ≡ true)
stored_came s f [] h = absurd (cc)
stored_came s f (x ∷ before) h = go (stored_came s f before) x.bit (list_any (λ t. dominates t (point_of s x)) (stored s (in_first before))) h
  where
    later : (r : Row) × In r (open_rows before) × (f (point_of s r) ≡ true) → (r : Row) × In r (x ∷ open_rows before) × (f (point_of s r) ≡ true)
    later m = (m.0, inr m.1, m.2)

    go : (list_any f (stored s (in_first before)) ≡ true → (r : Row) × In r (open_rows before) × (f (point_of s r) ≡ true)) → (b d : Bool)
        → list_any f (cond b (cond d (stored s (in_first before)) (take s.points (inserted (point_of s x) (stored s (in_first before))))) (stored s (in_first before))) ≡ true
        → (r : Row) × In r (cond b (x ∷ open_rows before) (open_rows before)) × (f (point_of s r) ≡ true)
    go ih false d h = ih h
    go ih true true h = later (ih h)
    go ih true false h = elim (or_cases (f (point_of s x)) (list_any f (stored s (in_first before))) (any_inserted f (point_of s x) (stored s (in_first before)) (any_taken f s.points (inserted (point_of s x) (stored s (in_first before))) h))) [
      | inl e ↦ (x, inl refl, e)
      | inr e ↦ later (ih e)
    ]

pub skyline_fact : (s : Sizes) (is_over : Row → Row → Bool) → ((y r : Row) → dominates (point_of s y) (point_of s r) ≡ true → is_over y r ≡ true) → PrunesDominated is_over (skyline_policy s)
skyline_fact s is_over tells r before set p = elim (or_cases (not r.bit) (list_any (λ t. dominates t (point_of s r)) (stored s (in_first before))) p) [
  | inl shut ↦ absurd (cc (shut, set))
  | inr over ↦ let m = stored_came s (λ t. dominates t (point_of s r)) before over in (m.0, m.1, tells m.0 r m.2)
]

-- oriented points dominate where the rows do

is_less : (a c : ℤ) → int_lt a c ≡ true → is_lt (int_cmp a c) ≡ true
is_less a c e = ap (λ t. is_lt (cond t Less (cond (int_lt c a) Greater Equal))) e

not_over : (a c : ℤ) → int_lt c a ≡ false → is_le (int_cmp a c) ≡ true
not_over a c e = go (int_lt a c) refl
  where
    go : (t : Bool) → int_lt a c ≡ t → is_le (cond t Less (cond (int_lt c a) Greater Equal)) ≡ true
    go true f = refl
    go false f = ap (λ t. is_le (cond t Greater Equal)) e

le_directed : (max : Bool) (v w : ℤ) → int_le (oriented max w) (oriented max v) ≡ true → is_le (directed max int_cmp v w) ≡ true
le_directed true v w e = not_over w v (grind (arith, ints))
le_directed false v w e = not_over v w (grind (arith, ints))

lt_directed : (max : Bool) (v w : ℤ) → int_lt (oriented max w) (oriented max v) ≡ true → is_lt (directed max int_cmp v w) ≡ true
lt_directed true v w e = is_less w v e
lt_directed false v w e = is_less v w (grind (arith, ints))

module _ (x y : View ℤ) where
  abbrev pub point : List Dim → View ℤ → List ℤ
  point dims v = map (λ k. oriented k.max (at v k.col)) dims

  as_good : (dims : List Dim) → is_as_good (point dims x) (point dims y) ≡ true → list_all (λ k. is_le (directed k.max int_cmp (at x k.col) (at y k.col))) dims ≡ true
  as_good [] h = refl
  as_good (k ∷ dims) h =
      let t = and_parts (int_le (oriented k.max (at y k.col)) (oriented k.max (at x k.col))) (is_as_good (point dims x) (point dims y)) h in
      and_from (is_le (directed k.max int_cmp (at x k.col) (at y k.col))) (list_all (λ k. is_le (directed k.max int_cmp (at x k.col) (at y k.col))) dims) (le_directed k.max (at x k.col) (at y k.col) t.0) (as_good dims t.1)

  better_one : (dims : List Dim) → is_better (point dims x) (point dims y) ≡ true → list_any (λ k. is_lt (directed k.max int_cmp (at x k.col) (at y k.col))) dims ≡ true
  better_one [] h = h
  better_one (k ∷ dims) h = elim (or_cases (int_lt (oriented k.max (at y k.col)) (oriented k.max (at x k.col))) (is_better (point dims x) (point dims y)) h) [
    | inl e ↦ or_left (is_lt (directed k.max int_cmp (at x k.col) (at y k.col))) (list_any (λ k. is_lt (directed k.max int_cmp (at x k.col) (at y k.col))) dims) (lt_directed k.max (at x k.col) (at y k.col) e)
    | inr e ↦ or_right (is_lt (directed k.max int_cmp (at x k.col) (at y k.col))) (list_any (λ k. is_lt (directed k.max int_cmp (at x k.col) (at y k.col))) dims) (better_one dims e)
  ]

  pub points_tell : (dims : List Dim) → dominates (point dims x) (point dims y) ≡ true → dims_dominate int_cmp dims x y ≡ true
  points_tell dims h =
      let t = and_parts (is_as_good (point dims x) (point dims y)) (is_better (point dims x) (point dims y)) h in
      and_from (list_all (λ k. is_le (directed k.max int_cmp (at x k.col) (at y k.col))) dims) (list_any (λ k. is_lt (directed k.max int_cmp (at x k.col) (at y k.col))) dims) (as_good dims t.0) (better_one dims t.1)

-- the words at the places are the columns'
pub point_seen : (b : Bound) (dims : List Dim) (places : List ℕ) (max : List Bool) (r : Row) → DimsStandAt b dims places max → point_at places max r ≡ map (λ k. oriented k.max (at (row_seen b r) k.col)) dims
point_seen b [] [] [] r h = refl
point_seen b [] [] (m ∷ max) r h = absurd h
point_seen b [] (p ∷ places) max r h = absurd h
point_seen b (k ∷ dims) [] max r h = absurd h
point_seen b (k ∷ dims) (p ∷ places) [] r h = absurd h
point_seen b (k ∷ dims) (p ∷ places) (m ∷ max) r h =
    ap₂ (λ (v : ℤ) (vs : List ℤ). v ∷ vs) (ap₂ (λ (c : Bool) (v : ℤ). oriented c v) h.1 (column_word b k.col p r h.0)) (point_seen b dims places max r h.2)
