-- Rows that are found by their words, and new ones that are put at the end.
use Rattle.std.proofs.Common.{◌≡◌, ◌+◌, not, Bool, true, false, cond, ◌||◌, ◌&&◌, List, [], ◌∷◌, ◌++◌, map, length, nat_lt, Some, None, refl, ap, sym, ◌∙◌, ℤ, Vec, Global, subst, inl, inr}
use Rattle.std.specs.Prelude.{position, if◌then◌else◌}
use Rattle.std.specs.List.{list_any, position_or_len, IsDistinct, AllByRecursion}
use Rattle.std.specs.declared.cmp.Ordering.{Ordering}
use Rattle.std.specs.declared.cmp.Ordering.TheVariants.{Less, Equal, Greater}
use Rattle.std.specs.Ordering.{int_cmp, int_eq, is_eq, ordering_then}
use Rattle.std.specs.Cmp.Lexicographic.{slice_cmp, pointwise}
use Rattle.std.proofs.lemmas.List.{map-append, length-map}
use Rattle.ch_lists.specs.Members.{In, AreDifferent}
use Rattle.ch_lists.specs.Ordered.{is_among}
use Rattle.ch_lists.proofs.Orders.{ints_exact, lists_exact, eq_itself}
use Rattle.ch_keys.specs.Keys.{items_of}

both_equal : (o p : Ordering) → is_eq (ordering_then o p) ≡ (is_eq o && is_eq p)
both_equal Less p = refl
both_equal Equal p = refl
both_equal Greater p = refl

same : (xs ys : List ℤ) → pointwise int_eq xs ys ≡ is_eq (slice_cmp int_cmp xs ys)
same [] [] = refl
same [] (y ∷ ys) = refl
same (x ∷ xs) [] = refl
same (x ∷ xs) (y ∷ ys) = ap (λ b. is_eq (int_cmp x y) && b) (same xs ys) ∙ sym (both_equal (int_cmp x y) (slice_cmp int_cmp xs ys))

pub items_length : (vs : List (Vec ℤ Global)) → length (map items_of vs) ≡ length vs
items_length vs = length-map vs items_of

pub among_items : (key : List ℤ) (vs : List (Vec ℤ Global)) → list_any (λ v. pointwise int_eq key v.items) vs ≡ is_among (slice_cmp int_cmp) key (map items_of vs)
among_items key [] = refl
among_items key (v ∷ vs) = λ i. same key v.items i || among_items key vs i

pub position_items : (key : List ℤ) (vs : List (Vec ℤ Global)) → position (λ v. pointwise int_eq key v.items) vs ≡ position (λ k. is_eq (slice_cmp int_cmp key k)) (map items_of vs)
position_items key vs = λ i. cond (nat_lt (place vs i) (sym (items_length vs) i)) (Some (place vs i)) None
  where
    place : (vs : List (Vec ℤ Global)) → position_or_len (λ v. pointwise int_eq key v.items) vs ≡ position_or_len (λ k. is_eq (slice_cmp int_cmp key k)) (map items_of vs)
    place [] = refl
    place (v ∷ vs) = λ i. cond (not (same key v.items i)) (1 + place vs i) 0

-- a key that isn't there goes to the end
abbrev pub with_key : List ℤ → List (List ℤ) → List (List ℤ)
with_key key keys = if is_among (slice_cmp int_cmp) key keys then keys else keys ++ key ∷ []

pub added : (key : Vec ℤ Global) (vs : List (Vec ℤ Global)) → map items_of (cond (list_any (λ v. pointwise int_eq key.items v.items) vs) vs (vs ++ key ∷ [])) ≡ with_key key.items (map items_of vs)
added key vs = ap (λ b. map items_of (cond b vs (vs ++ key ∷ []))) (among_items key.items vs) ∙ go (is_among (slice_cmp int_cmp) key.items (map items_of vs))
  where
    go : (b : Bool) → map items_of (cond b vs (vs ++ key ∷ [])) ≡ cond b (map items_of vs) (map items_of vs ++ key.items ∷ [])
    go true = refl
    go false = map-append items_of vs (key ∷ [])

-- keys of a set are different rows
not_among : (key : List ℤ) (vs : List (Vec ℤ Global)) → AllByRecursion (λ v. pointwise int_eq key v.items ≡ false) vs → In key (map items_of vs) → ⊥
not_among key [] differ none = none
not_among key (v ∷ vs) differ (inl e) =
    let agree : pointwise int_eq key v.items ≡ true =
    same key v.items ∙ subst (λ (row : List ℤ). is_eq (slice_cmp int_cmp key row) ≡ true) e (eq_itself (slice_cmp int_cmp) (lists_exact int_cmp ints_exact) key) in
    cc (agree, differ.0)
not_among key (v ∷ vs) differ (inr there) = not_among key vs differ.1 there

pub unique_different : (vs : List (Vec ℤ Global)) → IsDistinct (λ a b. pointwise int_eq a.items b.items) vs → AreDifferent (map items_of vs)
unfolding IsDistinct
unique_different [] d = tt
unique_different (v ∷ vs) d = (not_among v.items vs d.0, unique_different vs d.1)
