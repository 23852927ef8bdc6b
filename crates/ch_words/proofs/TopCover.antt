-- A policy that prunes only what N better rows came before doesn't change the first N rows.
use Rattle.std.proofs.Common.{◌≡◌, ℕ, ◌≤◌, Bool, true, false, cond, List, [], ◌∷◌, map, filter, take, refl, sym, ◌∙◌, ap, arith}
use Rattle.std.specs.Prelude.{ℤ, pos, sum_by}
use Rattle.std.specs.declared.cmp.Ordering.{Ordering}
use Rattle.std.specs.declared.cmp.Ordering.TheVariants.{Less, Equal, Greater}
use Rattle.std.specs.Ordering.{int_cmp, is_lt, ordering_then}
use Rattle.std.specs.Cmp.Lexicographic.{slice_cmp}
use Rattle.std.proofs.lemmas.List.Sums.{sum_by-le-sum_by}
use Rattle.ch_lists.specs.Ordered.{ordered, placed, directed, IsExactOrder}
use Rattle.ch_lists.proofs.Bags.{sum-map}
use Rattle.ch_lists.proofs.Orders.{ints_exact, lists_exact, directed_exact, pairs_exact}
use Rattle.ch_lists.proofs.Sorting.{placed_front, beaten_placed}
use Rattle.ch_cover.specs.Rows.{Row, Policy, AreRows}
use Rattle.ch_cover.specs.Cover.{CoversOnce}
use Rattle.ch_cover.proofs.Stepwise.{once_from_steps}
use Rattle.ch_pred.specs.Values.{View}
use Rattle.ch_pred.specs.Meaning.{at, line, top_cmp, of_held, in_order}
use Rattle.ch_pred.specs.declared.bound.Bound.{Bound}
use Rattle.ch_pred.specs.declared.bound.Shape.{Shape}
use Rattle.ch_pred.specs.declared.bound.Shape.TheVariants as shape
use Rattle.ch_pred.specs.declared.pred.Col.{Col}
use Rattle.ch_words.specs.Words.{Reading, asked_of_words}
use Rattle.ch_words.specs.Rows.{row_seen, answer_over, Gate, GateFits, is_gated, open_seen}
use Rattle.ch_pred.specs.Sound.{has_one_table}
use Rattle.ch_words.specs.Prunable.{better_count, PrunesBeaten}
use Rattle.ch_words.proofs.OneTable.{over_order, over_open}
use Rattle.ch_words.proofs.FilterCover.{open_more}

abbrev ranked_cmp : Bool → ℤ × List ℤ → ℤ × List ℤ → Ordering
ranked_cmp descending = top_cmp int_cmp descending

ranked_exact : (descending : Bool) → IsExactOrder (ranked_cmp descending)
ranked_exact descending = pairs_exact (directed descending int_cmp) (slice_cmp int_cmp) (directed_exact descending int_cmp ints_exact) (lists_exact int_cmp ints_exact)

less_first : (o p : Ordering) → cond {A = ℕ} (is_lt o) 1 0 ≤ cond (is_lt (ordering_then o p)) 1 0
less_first Less p = omega arith
less_first Equal p = omega arith
less_first Greater p = omega arith

module _ (d : Reading) (b : Bound) (gate : Gate) (by : Col) (descending : Bool) (limit : ℕ) (kind : b.shape ≡ shape.Top by descending limit)
    (fits : GateFits gate (asked_of_words d b) b.shape) (prunes : Policy) (beaten : PrunesBeaten descending limit (λ r. at (row_seen b r) by) prunes) where
  abbrev ranked : View ℤ → ℤ × List ℤ
  ranked v = (at v by, line b.printed (pos 0) v)

  abbrev first_ranked : List Row → List (ℤ × List ℤ)
  first_ranked rows = take limit (ordered (ranked_cmp descending) (map ranked (open_seen b rows)))

  first_more : (r : Row) (t : Bool) → r.bit ≡ t → (rows : List Row)
      → first_ranked (r ∷ rows) ≡ cond t (take limit (placed (ranked_cmp descending) (ranked (row_seen b r)) (ordered (ranked_cmp descending) (map ranked (open_seen b rows))))) (first_ranked rows)
  first_more r true e rows = ap (λ (vs : List (View ℤ)). take limit (ordered (ranked_cmp descending) (map ranked vs))) (open_more b r true e rows)
  first_more r false e rows = ap (λ (vs : List (View ℤ)). take limit (ordered (ranked_cmp descending) (map ranked vs))) (open_more b r false e rows)

  more : (r : Row) (t : Bool) → r.bit ≡ t → (xs ys : List Row) → first_ranked xs ≡ first_ranked ys → first_ranked (r ∷ xs) ≡ first_ranked (r ∷ ys)
  more r true e xs ys h = first_more r true e xs
      ∙ (placed_front (ranked_cmp descending) limit (ranked (row_seen b r)) (ordered (ranked_cmp descending) (map ranked (open_seen b xs))) (ordered (ranked_cmp descending) (map ranked (open_seen b ys))) h ∙ sym (first_more r true e ys))
  more r false e xs ys h = first_more r false e xs ∙ (h ∙ sym (first_more r false e ys))

  -- the rows that are better by value stand before
  counted : (r : Row) (rows : List Row) → better_count descending (λ s. at (row_seen b s) by) r rows ≤ sum_by (λ z. cond (is_lt (ranked_cmp descending z (ranked (row_seen b r)))) 1 0) (map ranked (open_seen b rows))
  counted r rows =
      let rs : List Row = filter (λ x. x.bit) rows in
      let g : View ℤ → ℕ = λ v. cond (is_lt (ranked_cmp descending (ranked v) (ranked (row_seen b r)))) 1 0 in
      let f : Row → ℕ = λ s. cond (is_lt (directed descending int_cmp (at (row_seen b s) by) (at (row_seen b r) by))) 1 0 in
      omega (
        arith,
        sum-map (λ z. cond (is_lt (ranked_cmp descending z (ranked (row_seen b r)))) 1 0) ranked (open_seen b rows),
        sum-map g (row_seen b) rs,
        sum_by-le-sum_by f (λ s. g (row_seen b s)) rs (λ s. less_first (directed descending int_cmp (at (row_seen b s) by) (at (row_seen b r) by)) (slice_cmp int_cmp (line b.printed (pos 0) (row_seen b s)) (line b.printed (pos 0) (row_seen b r)))),
      )

  dropped : (r : Row) (t : Bool) → r.bit ≡ t → (before : List Row) → prunes (map (λ y. (1, y)) before) (1, r) ≡ true → first_ranked (r ∷ before) ≡ first_ranked before
  dropped r true e before p = first_more r true e before
      ∙ beaten_placed (ranked_cmp descending) (ranked_exact descending) limit (ranked (row_seen b r)) (map ranked (open_seen b before)) (omega (arith, beaten r before e p, counted r before))
  dropped r false e before p = first_more r false e before

  answer_is : (xs : List Row) → AreRows (is_gated gate b) xs → answer_over d b xs ≡ map (λ r. r.1) (first_ranked xs)
  answer_is xs are = over_open d b gate (ap has_one_table kind) fits xs are ∙ ap (λ (s : Shape). in_order int_cmp s (of_held s (asked_of_words d b) (open_seen b xs) [])) kind

  pub top_covers : CoversOnce (is_gated gate b) prunes (answer_over d b)
  top_covers = once_from_steps (is_gated gate b) prunes (answer_over d b) first_ranked (record {
    order = λ xs ys are p. over_order d b xs ys p;
    tells = λ xs ys ax ay e. answer_is xs ax ∙ (ap (λ (zs : List (ℤ × List ℤ)). map (λ r. r.1) zs) e ∙ sym (answer_is ys ay));
    more = λ r xs ys ax ay e. more r r.bit refl xs ys e;
    drop = λ r before are p. dropped r r.bit refl before p;
  })
