-- A policy that prunes only what a row before dominates doesn't change the skyline.
use Rattle.std.proofs.Common.{◌≡◌, Bool, true, false, cond, not, ◌&&◌, ◌||◌, List, [], ◌∷◌, map, filter, refl, sym, ◌∙◌, ap, inl, inr}
use mathlib.Core.Path.{fun_ext}
use Rattle.std.specs.Prelude.{ℤ, pos}
use Rattle.std.specs.List.{list_any, list_all}
use Rattle.std.specs.declared.cmp.Ordering.{Ordering}
use Rattle.std.specs.declared.cmp.Ordering.TheVariants.{Less, Equal, Greater}
use Rattle.std.specs.Ordering.{int_cmp, is_lt, is_le, is_gt}
use Rattle.std.specs.Cmp.{IsTotalOrder}
use Rattle.std.specs.Cmp.Lexicographic.{slice_cmp}
use Rattle.std.proofs.lemmas.Bool.{and_parts, and_from, or_cases, or_left, or_right}
use Rattle.std.proofs.lemmas.Cmp.{upto, alike_right}
use Rattle.std.proofs.lemmas.List.Elements.{filter_agree}
use Rattle.ch_lists.specs.Members.{In}
use Rattle.ch_lists.specs.Ordered.{ordered, placed, directed}
use Rattle.ch_lists.proofs.Members.{In-map_from}
use Rattle.ch_lists.proofs.Orders.{ints_exact, directed_exact}
use Rattle.ch_cover.specs.Rows.{Row, Policy, AreRows}
use Rattle.ch_cover.specs.Cover.{CoversOnce}
use Rattle.ch_cover.proofs.Stepwise.{once_from_steps}
use Rattle.ch_pred.specs.Values.{View}
use Rattle.ch_pred.specs.Meaning.{at, line, lines, dominates, of_held, in_order, Asked}
use Rattle.ch_pred.specs.declared.bound.Bound.{Bound}
use Rattle.ch_pred.specs.declared.bound.Dim.{Dim}
use Rattle.ch_pred.specs.declared.bound.Shape.{Shape}
use Rattle.ch_pred.specs.declared.bound.Shape.TheVariants as shape
use Rattle.ch_words.specs.Words.{Reading, asked_of_words}
use Rattle.ch_words.specs.Rows.{row_seen, answer_over, Gate, GateFits, is_gated, open_seen}
use Rattle.ch_pred.specs.Sound.{has_one_table}
use Rattle.ch_words.specs.Prunable.{open_rows, PrunesDominated}
use Rattle.ch_words.proofs.OneTable.{over_order, over_open}
use Rattle.ch_words.proofs.FilterCover.{open_more}
use Rattle.ch_words.proofs.JoinCover.{filter-filter}

le_gt : (o : Ordering) → is_le o ≡ true → is_gt o ≡ false
le_gt Less e = refl
le_gt Equal e = refl
le_gt Greater e = cc

gt_le : (o : Ordering) → is_gt o ≡ false → is_le o ≡ true
gt_le Less e = refl
gt_le Equal e = refl
gt_le Greater e = cc

module _ {K : Type 0} (R : K → K → Ordering) (o : IsTotalOrder R) where
  le_chain : (x y z : K) → is_le (R x y) ≡ true → is_le (R y z) ≡ true → is_le (R x z) ≡ true
  le_chain x y z a c = gt_le (R x z) (upto o x y z (le_gt (R x y) a) (le_gt (R y z) c))

  lt_chain : (x y z : K) → is_lt (R x y) ≡ true → is_le (R y z) ≡ true → is_lt (R x z) ≡ true
  lt_chain x y z a c = go (R y z) refl c
    where
      less : (p : Ordering) → is_lt p ≡ true → p ≡ Less
      less Less e = refl
      less Equal e = absurd cc
      less Greater e = absurd cc

      go : (p : Ordering) → R y z ≡ p → is_le p ≡ true → is_lt (R x z) ≡ true
      go Less e h = ap is_lt (o.trans x y z (less (R x y) a) e)
      go Equal e h = ap is_lt (sym (alike_right o y z x e)) ∙ a
      go Greater e h = absurd cc

-- dominance goes on
module _ (x y z : View ℤ) where
  all_chain : (dims : List Dim) → list_all (λ k. is_le (directed k.max int_cmp (at x k.col) (at y k.col))) dims ≡ true → list_all (λ k. is_le (directed k.max int_cmp (at y k.col) (at z k.col))) dims ≡ true
      → list_all (λ k. is_le (directed k.max int_cmp (at x k.col) (at z k.col))) dims ≡ true
  all_chain [] a c = refl
  all_chain (k ∷ dims) a c =
      let p = and_parts (is_le (directed k.max int_cmp (at x k.col) (at y k.col))) (list_all (λ k. is_le (directed k.max int_cmp (at x k.col) (at y k.col))) dims) a in
      let q = and_parts (is_le (directed k.max int_cmp (at y k.col) (at z k.col))) (list_all (λ k. is_le (directed k.max int_cmp (at y k.col) (at z k.col))) dims) c in
      and_from (is_le (directed k.max int_cmp (at x k.col) (at z k.col))) (list_all (λ k. is_le (directed k.max int_cmp (at x k.col) (at z k.col))) dims)
      (le_chain (directed k.max int_cmp) (directed_exact k.max int_cmp ints_exact).total (at x k.col) (at y k.col) (at z k.col) p.0 q.0) (all_chain dims p.1 q.1)

  any_chain : (dims : List Dim) → list_any (λ k. is_lt (directed k.max int_cmp (at x k.col) (at y k.col))) dims ≡ true → list_all (λ k. is_le (directed k.max int_cmp (at y k.col) (at z k.col))) dims ≡ true
      → list_any (λ k. is_lt (directed k.max int_cmp (at x k.col) (at z k.col))) dims ≡ true
  any_chain [] a c = a
  any_chain (k ∷ dims) a c =
      let q = and_parts (is_le (directed k.max int_cmp (at y k.col) (at z k.col))) (list_all (λ k. is_le (directed k.max int_cmp (at y k.col) (at z k.col))) dims) c in
      elim (or_cases (is_lt (directed k.max int_cmp (at x k.col) (at y k.col))) (list_any (λ k. is_lt (directed k.max int_cmp (at x k.col) (at y k.col))) dims) a) [
        | inl h ↦ or_left (is_lt (directed k.max int_cmp (at x k.col) (at z k.col))) (list_any (λ k. is_lt (directed k.max int_cmp (at x k.col) (at z k.col))) dims)
            (lt_chain (directed k.max int_cmp) (directed_exact k.max int_cmp ints_exact).total (at x k.col) (at y k.col) (at z k.col) h q.0)
        | inr h ↦ or_right (is_lt (directed k.max int_cmp (at x k.col) (at z k.col))) (list_any (λ k. is_lt (directed k.max int_cmp (at x k.col) (at z k.col))) dims) (any_chain dims h q.1)
      ]

  dominates_on : (dims : List Dim) → dominates int_cmp dims x y ≡ true → dominates int_cmp dims y z ≡ true → dominates int_cmp dims x z ≡ true
  dominates_on dims a c =
      let p = and_parts (list_all (λ k. is_le (directed k.max int_cmp (at x k.col) (at y k.col))) dims) (list_any (λ k. is_lt (directed k.max int_cmp (at x k.col) (at y k.col))) dims) a in
      let q = and_parts (list_all (λ k. is_le (directed k.max int_cmp (at y k.col) (at z k.col))) dims) (list_any (λ k. is_lt (directed k.max int_cmp (at y k.col) (at z k.col))) dims) c in
      and_from (list_all (λ k. is_le (directed k.max int_cmp (at x k.col) (at z k.col))) dims) (list_any (λ k. is_lt (directed k.max int_cmp (at x k.col) (at z k.col))) dims) (all_chain dims p.0 q.0) (any_chain dims p.1 q.0)

any_In : {X : Type 0} (p : X → Bool) (x : X) (xs : List X) → In x xs → p x ≡ true → list_any p xs ≡ true
any_In p x [] i e = absurd i
any_In p x (y ∷ xs) (inl s) e = or_left (p y) (list_any p xs) (ap p (sym s) ∙ e)
any_In p x (y ∷ xs) (inr i) e = or_right (p y) (list_any p xs) (any_In p x xs i e)

any_from : {X : Type 0} (p q : X → Bool) → ((x : X) → p x ≡ true → q x ≡ true) → (xs : List X) → list_any p xs ≡ true → list_any q xs ≡ true
any_from p q h [] e = e
any_from p q h (x ∷ xs) e = elim (or_cases (p x) (list_any p xs) e) [ inl a ↦ or_left (q x) (list_any q xs) (h x a) | inr a ↦ or_right (q x) (list_any q xs) (any_from p q h xs a) ]

or_absorbs : (s t : Bool) → (s ≡ true → t ≡ true) → (s || t) ≡ t
or_absorbs true t h = sym (h refl)
or_absorbs false t h = refl

split_test : (s t p : Bool) → (not (s || t) && p) ≡ (not t && (p && not s))
split_test true true p = refl
split_test true false true = refl
split_test true false false = refl
split_test false true p = refl
split_test false false true = refl
split_test false false false = refl

module _ (d : Reading) (b : Bound) (gate : Gate) (dims : List Dim) (kind : b.shape ≡ shape.Skyline dims) (fits : GateFits gate (asked_of_words d b) b.shape)
    (prunes : Policy) (over : PrunesDominated (λ s r. dominates int_cmp dims (row_seen b s) (row_seen b r)) prunes) where
  abbrev q : Asked ℤ
  q = asked_of_words d b

  abbrev dom : View ℤ → View ℤ → Bool
  dom = dominates int_cmp dims

  abbrev beaten : List (View ℤ) → View ℤ → Bool
  beaten vs x = list_any (λ s. dom s x) vs

  -- the lines of the rows of the skyline that pass a test, in order
  abbrev best_lines : List (View ℤ) → (View ℤ → Bool) → List (List ℤ)
  best_lines vs p = ordered (slice_cmp int_cmp) (lines q (filter p (filter (λ x. not (beaten vs x)) vs)))

  -- what is kept of the rows: which rows they beat, and the lines of those that none beats
  abbrev kept_of : List (View ℤ) → (View ℤ → Bool) × ((View ℤ → Bool) → List (List ℤ))
  kept_of vs = (beaten vs, best_lines vs)

  -- the lines with a row more
  abbrev with_line : View ℤ → (View ℤ → Bool) → Bool → List (List ℤ) → List (List ℤ)
  with_line v p c ls = cond (c && p v) (placed (slice_cmp int_cmp) (line b.printed (pos 0) v) ls) ls

  lines_more : (v : View ℤ) (vs : List (View ℤ)) (p : View ℤ → Bool) → best_lines (v ∷ vs) p ≡ with_line v p (not (dom v v || beaten vs v)) (best_lines vs (λ x. p x && not (dom v x)))
  lines_more v vs p = go (not (dom v v || beaten vs v)) (p v) refl
    where
      rest : ordered (slice_cmp int_cmp) (lines q (filter p (filter (λ x. not (dom v x || beaten vs x)) vs))) ≡ best_lines vs (λ x. p x && not (dom v x))
      rest = ap (λ (xs : List (View ℤ)). ordered (slice_cmp int_cmp) (lines q xs))
          (filter-filter (λ x. not (dom v x || beaten vs x)) p vs
          ∙ (filter_agree (λ x. not (dom v x || beaten vs x) && p x) (λ x. not (beaten vs x) && (p x && not (dom v x))) (λ x. split_test (dom v x) (beaten vs x) (p x)) vs
          ∙ sym (filter-filter (λ x. not (beaten vs x)) (λ x. p x && not (dom v x)) vs)))

      go : (c t : Bool) → p v ≡ t
          → ordered (slice_cmp int_cmp) (lines q (filter p (cond c (v ∷ filter (λ x. not (dom v x || beaten vs x)) vs) (filter (λ x. not (dom v x || beaten vs x)) vs)))) ≡ with_line v p c (best_lines vs (λ x. p x && not (dom v x)))
      go true true e =
          ap (λ t. ordered (slice_cmp int_cmp) (lines q (cond t (v ∷ filter p (filter (λ x. not (dom v x || beaten vs x)) vs)) (filter p (filter (λ x. not (dom v x || beaten vs x)) vs))))) e
          ∙ (ap (placed (slice_cmp int_cmp) (line b.printed (pos 0) v)) rest ∙ sym (ap (λ t. cond t (placed (slice_cmp int_cmp) (line b.printed (pos 0) v) (best_lines vs (λ x. p x && not (dom v x)))) (best_lines vs (λ x. p x && not (dom v x)))) e))
      go true false e =
          ap (λ t. ordered (slice_cmp int_cmp) (lines q (cond t (v ∷ filter p (filter (λ x. not (dom v x || beaten vs x)) vs)) (filter p (filter (λ x. not (dom v x || beaten vs x)) vs))))) e
          ∙ (rest ∙ sym (ap (λ t. cond t (placed (slice_cmp int_cmp) (line b.printed (pos 0) v) (best_lines vs (λ x. p x && not (dom v x)))) (best_lines vs (λ x. p x && not (dom v x)))) e))
      go false t e = rest

  kept_more : (v : View ℤ) (vs ws : List (View ℤ)) → kept_of vs ≡ kept_of ws → kept_of (v ∷ vs) ≡ kept_of (v ∷ ws)
  kept_more v vs ws h =
      let f : (x : View ℤ) → beaten vs x ≡ beaten ws x = λ x. ap (λ (k : (View ℤ → Bool) × ((View ℤ → Bool) → List (List ℤ))). k.0 x) h in
      let first : beaten (v ∷ vs) ≡ beaten (v ∷ ws) = fun_ext (λ x. ap (λ t. dom v x || t) (f x)) in
      let second : best_lines (v ∷ vs) ≡ best_lines (v ∷ ws) = fun_ext (λ p. lines_more v vs p ∙ ((λ i. with_line v p (not (dom v v || (f v) i)) (((h i).1) (λ x. p x && not (dom v x)))) ∙ sym (lines_more v ws p))) in
      λ i. (first i, second i)

  kept_again : (v s : View ℤ) (vs : List (View ℤ)) → In s vs → dom s v ≡ true → kept_of (v ∷ vs) ≡ kept_of vs
  kept_again v s vs i e =
      let f : (x : View ℤ) → (dom v x || beaten vs x) ≡ beaten vs x = λ x. or_absorbs (dom v x) (beaten vs x) (λ t. any_In (λ z. dom z x) s vs i (dominates_on s v x dims e t)) in
      let there : beaten vs v ≡ true = any_In (λ z. dom z v) s vs i e in
      let first : beaten (v ∷ vs) ≡ beaten vs = fun_ext f in
      let second : best_lines (v ∷ vs) ≡ best_lines vs = fun_ext (λ p.
      ap (λ (xs : List (View ℤ)). ordered (slice_cmp int_cmp) (lines q (filter p xs)))
      (ap (λ t. cond t (v ∷ filter (λ x. not (dom v x || beaten vs x)) vs) (filter (λ x. not (dom v x || beaten vs x)) vs)) (ap not (f v ∙ there))
      ∙ filter_agree (λ x. not (dom v x || beaten vs x)) (λ x. not (beaten vs x)) (λ x. ap not (f x)) vs)) in
      λ k. (first k, second k)

  more : (r : Row) (t : Bool) → r.bit ≡ t → (xs ys : List Row) → kept_of (open_seen b xs) ≡ kept_of (open_seen b ys) → kept_of (open_seen b (r ∷ xs)) ≡ kept_of (open_seen b (r ∷ ys))
  more r true e xs ys h = ap kept_of (open_more b r true e xs) ∙ (kept_more (row_seen b r) (open_seen b xs) (open_seen b ys) h ∙ ap kept_of (sym (open_more b r true e ys)))
  more r false e xs ys h = ap kept_of (open_more b r false e xs) ∙ (h ∙ ap kept_of (sym (open_more b r false e ys)))

  dropped : (r : Row) (t : Bool) → r.bit ≡ t → (before : List Row) → prunes (map (λ y. (1, y)) before) (1, r) ≡ true → kept_of (open_seen b (r ∷ before)) ≡ kept_of (open_seen b before)
  dropped r true e before p = let s = over r before e p in ap kept_of (open_more b r true e before) ∙ kept_again (row_seen b r) (row_seen b s.0) (open_seen b before) (In-map_from (row_seen b) s.0 (open_rows before) s.1) s.2
  dropped r false e before p = ap kept_of (open_more b r false e before)

  filter_all : (vs : List (View ℤ)) → filter (λ x. true) vs ≡ vs
  filter_all [] = refl
  filter_all (v ∷ vs) = ap (λ xs. v ∷ xs) (filter_all vs)

  answer_is : (xs : List Row) → AreRows (is_gated gate b) xs → answer_over d b xs ≡ best_lines (open_seen b xs) (λ x. true)
  answer_is xs are = over_open d b gate (ap has_one_table kind) fits xs are ∙ (ap (λ (s : Shape). in_order int_cmp s (of_held s (asked_of_words d b) (open_seen b xs) [])) kind
      ∙ ap (λ (vs : List (View ℤ)). ordered (slice_cmp int_cmp) (lines q vs)) (sym (filter_all (filter (λ x. not (beaten (open_seen b xs) x)) (open_seen b xs)))))

  pub skyline_covers : CoversOnce (is_gated gate b) prunes (answer_over d b)
  skyline_covers = once_from_steps (is_gated gate b) prunes (answer_over d b) (λ rows. kept_of (open_seen b rows)) (record {
    order = λ xs ys are p. over_order d b xs ys p;
    tells = λ xs ys ax ay e. answer_is xs ax ∙ (ap (λ (k : (View ℤ → Bool) × ((View ℤ → Bool) → List (List ℤ))). k.1 (λ x. true)) e ∙ sym (answer_is ys ay));
    more = λ r xs ys ax ay e. more r r.bit refl xs ys e;
    drop = λ r before are p. dropped r r.bit refl before p;
  })
