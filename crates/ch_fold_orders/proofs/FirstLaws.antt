-- The first so many of an order, where one element more comes.
use Rattle.std.proofs.Common.{◌≡◌, ◌≤◌, ◌<◌, ℕ, zero, suc, ◌+◌, true, false, List, [], ◌∷◌, ◌++◌, length, take, refl, ap, sym, ◌∙◌, subst, arith, inl, inr, IsPermutation}
use Rattle.std.proofs.Common.{◌⊎◌, map, ℤ, pos, Vec, Global}
use Rattle.std.specs.Prelude.{slice_index_or, IsSorted, ◌<ℤ◌}
use Rattle.std.specs.BinaryHeap.{IsUpperBound}
use Rattle.std.specs.Cmp.Lexicographic.{slice_cmp}
use Rattle.std.specs.declared.cmp.Ordering.{Ordering}
use Rattle.std.specs.declared.cmp.Ordering.TheVariants.{Less, Equal, Greater}
use Rattle.std.specs.Ordering.{int_cmp, is_gt, is_lt, ordering_reverse, ordering_then}
use Rattle.std.proofs.lemmas.Cmp.{upto}
use Rattle.std.proofs.lemmas.Int.{ints}
use Rattle.std.proofs.lemmas.List.{length-append, length-map, take-append-le}
use Rattle.std.proofs.lemmas.List.Sorted.{IsPermutation-sym, IsPermutation-cons, IsPermutation-trans, IsPermutation-to_front, IsPermutation-map, IsPermutation-middle, length_permutation}
use Rattle.ch_lists.specs.Members.{In, Each}
use Rattle.ch_lists.specs.Ordered.{ordered, IsExactOrder}
use Rattle.ch_lists.proofs.Bags.{SameBag-permutation}
use Rattle.ch_lists.proofs.Members.{Each-permutation}
use Rattle.ch_lists.proofs.Orders.{ints_exact, lists_exact}
use Rattle.ch_keys.specs.Keys.{items_of}
use Rattle.ch_fold_orders.specs.Firsts.{vector_cmp}
use Rattle.ch_lists.proofs.Sorting.{ordered_permuted, ordered_same, ordered_sorted, sorted_is_ordered}

get_left : {X : Type 0} (ys : List X) (x d : X) (k : ℕ) → k < length ys → slice_index_or (ys ++ x ∷ []) k d ≡ slice_index_or ys k d
get_left [] x d k h = absurd (omega arith)
get_left (y ∷ ys) x d zero h = refl
get_left (y ∷ ys) x d (suc k) h = get_left ys x d k (omega arith)

get_last : {X : Type 0} (ys : List X) (x d : X) (k : ℕ) → k ≡ length ys → slice_index_or (ys ++ x ∷ []) k d ≡ x
get_last [] x d zero h = refl
get_last [] x d (suc k) h = absurd (omega arith)
get_last (y ∷ ys) x d zero h = absurd (omega arith)
get_last (y ∷ ys) x d (suc k) h = get_last ys x d k (omega arith)

get_In : {X : Type 0} (ys : List X) (d : X) (k : ℕ) → k < length ys → In (slice_index_or ys k d) ys
get_In [] d k h = absurd (omega arith)
get_In (y ∷ ys) d zero h = inl refl
get_In (y ∷ ys) d (suc k) h = inr (get_In ys d k (omega arith))

pub take_all : {X : Type 0} (n : ℕ) (xs : List X) → length xs ≤ n → take n xs ≡ xs
take_all zero [] h = refl
take_all (suc n) [] h = refl
take_all zero (x ∷ xs) h = absurd (omega arith)
take_all (suc n) (x ∷ xs) h = ap (λ ys. x ∷ ys) (take_all n xs (omega arith))

module _ {X : Type 0} (cmp : X → X → Ordering) (o : IsExactOrder cmp) where
  pub ordered_length : (xs : List X) → length (ordered cmp xs) ≡ length xs
  ordered_length xs = length_permutation xs (ordered cmp xs) (ordered_permuted cmp xs)

  -- an element that is below none stands last
  pub greatest_last : (x : X) (xs : List X) → Each (λ y. is_lt (cmp x y) ≡ false) xs → ordered cmp (x ∷ xs) ≡ ordered cmp xs ++ x ∷ []
  greatest_last x xs top = sym (sorted_is_ordered cmp o (x ∷ xs) (ordered cmp xs ++ x ∷ []) perm sorted)
    where
      perm : IsPermutation (x ∷ xs) (ordered cmp xs ++ x ∷ [])
      perm = IsPermutation-trans (x ∷ xs) (x ∷ ordered cmp xs) (ordered cmp xs ++ x ∷ []) (IsPermutation-cons x xs (ordered cmp xs) (ordered_permuted cmp xs))
          (IsPermutation-sym (ordered cmp xs ++ x ∷ []) (x ∷ ordered cmp xs) (IsPermutation-to_front (ordered cmp xs) x))

      all_below : Each (λ y. is_lt (cmp x y) ≡ false) (ordered cmp xs)
      all_below = Each-permutation (λ (y : X). is_lt (cmp x y) ≡ false) xs (ordered cmp xs) (ordered_permuted cmp xs) top

      sorted : IsSorted cmp (ordered cmp xs ++ x ∷ [])
      sorted k d low high =
          let long = length-append (ordered cmp xs) (x ∷ []) in
          elim (split (k + 1) (length (ordered cmp xs)) (omega (arith, long, high))) [
            | inl h ↦ (λ i. is_lt (cmp (get_left (ordered cmp xs) x d (k + 1) h i) (get_left (ordered cmp xs) x d k (omega (arith, h)) i))) ∙ ordered_sorted cmp o xs k d low h
            | inr e ↦ (λ i. is_lt (cmp (get_last (ordered cmp xs) x d (k + 1) e i) (get_left (ordered cmp xs) x d k (omega (arith, e)) i))) ∙ all_below (slice_index_or (ordered cmp xs) k d) (get_In (ordered cmp xs) d k (omega (arith, e)))
          ]
        where
          split : (a c : ℕ) → a < c + 1 → (a < c) ⊎ (a ≡ c)
          split a c h = grind arith

  take_front : (n : ℕ) (ys : List X) (x : X) → n ≡ length ys → take n (ys ++ x ∷ []) ≡ ys
  take_front n ys x e = take-append-le n ys (x ∷ []) (omega arith) ∙ take_all n ys (omega arith)

  -- it isn't among the first, if there are as many as there may be
  pub beyond : (limit : ℕ) (x : X) (xs : List X) → limit ≡ length xs → Each (λ y. is_lt (cmp x y) ≡ false) xs → take limit (ordered cmp (x ∷ xs)) ≡ ordered cmp xs
  beyond limit x xs e top = ap (take limit) (greatest_last x xs top) ∙ take_front limit (ordered cmp xs) x (e ∙ sym (ordered_length xs))

  -- there is room for one more
  pub room : (limit : ℕ) (x : X) (xs : List X) → length xs < limit → take limit (ordered cmp (x ∷ xs)) ≡ ordered cmp (x ∷ xs)
  room limit x xs h = take_all limit (ordered cmp (x ∷ xs)) (omega (arith, ordered_length (x ∷ xs)))

  -- the last one leaves
  pub swapped : (limit : ℕ) (x top : X) (xs rest : List X) → limit ≡ length xs → IsPermutation xs (top ∷ rest) → is_lt (cmp top x) ≡ false → Each (λ y. is_lt (cmp top y) ≡ false) rest
      → take limit (ordered cmp (x ∷ xs)) ≡ ordered cmp (x ∷ rest)
  swapped limit x top xs rest e p below all =
      ap (take limit) (ordered_same cmp o (x ∷ xs) (top ∷ x ∷ rest) (SameBag-permutation (x ∷ xs) (top ∷ x ∷ rest) moved))
      ∙ beyond limit top (x ∷ rest) (omega (arith, e, length_permutation xs (top ∷ rest) p)) each
    where
      moved : IsPermutation (x ∷ xs) (top ∷ x ∷ rest)
      moved = IsPermutation-trans (x ∷ xs) (x ∷ top ∷ rest) (top ∷ x ∷ rest) (IsPermutation-cons x xs (top ∷ rest) p) (IsPermutation-middle (x ∷ []) top rest)

      each : Each (λ y. is_lt (cmp top y) ≡ false) (x ∷ rest)
      each y (inl s) = subst (λ (z : X). is_lt (cmp top z) ≡ false) (sym s) below
      each y (inr i) = all y i

-- rows of words that are kept as vectors

abbrev rows_cmp : List ℤ → List ℤ → Ordering
rows_cmp = slice_cmp int_cmp

pub rows_exact : IsExactOrder rows_cmp
rows_exact = lists_exact int_cmp ints_exact

lt_gt : (a b : List ℤ) → is_lt (rows_cmp a b) ≡ is_gt (rows_cmp b a)
lt_gt a b = ap is_lt (rows_exact.total.antisymm a b) ∙ turned (rows_cmp b a)
  where
    turned : (p : Ordering) → is_lt (ordering_reverse p) ≡ is_gt p
    turned Less = refl
    turned Equal = refl
    turned Greater = refl

not_below : (x y z : List ℤ) → is_lt (rows_cmp x y) ≡ false → is_lt (rows_cmp y z) ≡ false → is_lt (rows_cmp x z) ≡ false
not_below x y z a c = lt_gt x z ∙ upto rows_exact.total z y x (sym (lt_gt y z) ∙ c) (sym (lt_gt x y) ∙ a)

bound_each : (top : Vec ℤ Global) (vs : List (Vec ℤ Global)) → IsUpperBound vector_cmp top vs → Each (λ y. is_lt (rows_cmp top.items y) ≡ false) (map items_of vs)
bound_each top [] h y i = absurd i
bound_each top (v ∷ vs) h y (inl e) = subst (λ (z : List ℤ). is_lt (rows_cmp top.items z) ≡ false) (sym e) h.0
bound_each top (v ∷ vs) h y (inr i) = bound_each top vs h.1 y i

pub pushed : (limit : ℕ) (row : Vec ℤ Global) (old new : List (Vec ℤ Global)) → length old < limit → IsPermutation (row ∷ old) new
    → ordered rows_cmp (map items_of new) ≡ take limit (ordered rows_cmp (row.items ∷ map items_of old))
pushed limit row old new h p =
    sym (room rows_cmp rows_exact limit row.items (map items_of old) (omega (arith, h, length-map old items_of))
    ∙ ordered_same rows_cmp rows_exact (row.items ∷ map items_of old) (map items_of new) (SameBag-permutation (row.items ∷ map items_of old) (map items_of new) (IsPermutation-map items_of (row ∷ old) new p)))

pub passed : (limit : ℕ) (x : List ℤ) (last : Vec ℤ Global) (vs : List (Vec ℤ Global)) → limit ≡ length vs → IsUpperBound vector_cmp last vs → is_lt (rows_cmp x last.items) ≡ false
    → take limit (ordered rows_cmp (x ∷ map items_of vs)) ≡ ordered rows_cmp (map items_of vs)
passed limit x last vs e bound h =
    beyond rows_cmp rows_exact limit x (map items_of vs) (omega (arith, e, length-map vs items_of)) (λ y i. not_below x last.items y h (bound_each last vs bound y i))

pub replaced : (limit : ℕ) (row top : Vec ℤ Global) (old rest new : List (Vec ℤ Global)) → limit ≡ length old → IsPermutation old (top ∷ rest) → IsUpperBound vector_cmp top rest → is_lt (rows_cmp top.items row.items) ≡ false
    → IsPermutation (row ∷ rest) new → ordered rows_cmp (map items_of new) ≡ take limit (ordered rows_cmp (row.items ∷ map items_of old))
replaced limit row top old rest new e p bound below q =
    sym (swapped rows_cmp rows_exact limit row.items top.items (map items_of old) (map items_of rest) (omega (arith, e, length-map old items_of)) (IsPermutation-map items_of old (top ∷ rest) p) below (bound_each top rest bound)
    ∙ ordered_same rows_cmp rows_exact (row.items ∷ map items_of rest) (map items_of new) (SameBag-permutation (row.items ∷ map items_of rest) (map items_of new) (IsPermutation-map items_of (row ∷ rest) new q)))

-- a greater first word
pub later : (first : ℤ) (line items : List ℤ) → slice_index_or items 0 (pos 0) <ℤ first → is_lt (rows_cmp (first ∷ line) items) ≡ false
later first line [] h = refl
later first line (w ∷ items) h = ap (λ o. is_lt (ordering_then o (rows_cmp line items))) greater
  where
    greater : int_cmp first w ≡ Greater
    greater = grind (arith, ints)

head_same : {X : Type 0} (xs : List X) (a c : X) → 0 < length xs → a ≡ slice_index_or xs 0 a → c ≡ slice_index_or xs 0 c → a ≡ c
head_same [] a c h e f = absurd (omega arith)
head_same (x ∷ xs) a c h e f = e ∙ sym f

lt_not_gt : (p : Ordering) → is_lt p ≡ true → is_gt p ≡ false
lt_not_gt Less e = refl
lt_not_gt Equal e = absurd cc
lt_not_gt Greater e = absurd cc

-- the last one, which is the top, isn't below a row that is below the last one
pub top_not_below : (vs : List (Vec ℤ Global)) (last top row : Vec ℤ Global) → 0 < length vs → last ≡ slice_index_or vs 0 last → top ≡ slice_index_or vs 0 top → is_lt (rows_cmp row.items last.items) ≡ true → is_lt (rows_cmp top.items row.items) ≡ false
top_not_below vs last top row h e f below =
    lt_gt top.items row.items ∙ lt_not_gt (rows_cmp row.items top.items) (ap (λ (v : Vec ℤ Global). is_lt (rows_cmp row.items v.items)) (head_same vs top last h f e) ∙ below)
