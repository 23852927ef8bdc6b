-- What sorting different texts gives.
use Rattle.std.proofs.Common.{◌≡◌, ℕ, ◌+◌, ◌<◌, true, false, ◌||◌, List, [], ◌∷◌, ◌++◌, map, length, Some, slice_get, get_or, zero, suc, ◌≤◌, refl, sym, ◌∙◌, ap, subst, arith, rules, position}
use Rattle.std.specs.Prelude.{IsPermutation, IsSorted, bytes_eq, option_map, if◌then◌else◌}
use Rattle.std.specs.List.{list_any, IsDistinct}
use Rattle.std.specs.declared.cmp.Ordering.{Ordering}
use Rattle.std.specs.declared.cmp.Ordering.TheVariants.{Less, Equal, Greater}
use Rattle.std.specs.Ordering.{is_lt, ordering_reverse}
use Rattle.std.proofs.lemmas.Cmp.{nat_list_cmp_total}
use Rattle.std.proofs.lemmas.List.{map-append}
use Rattle.std.proofs.lemmas.List.Quantifiers.{position-Some}
use Rattle.std.proofs.lemmas.List.Sorted.{IsPermutation-map}
use Rattle.std.proofs.lemmas.Map.Lookups.{exact_bytes}
use Rattle.std.proofs.lemmas.Option.{slice_get-get_or, slice_get-map}
use Rattle.std.proofs.lemmas.Slice.Eq.{bytes_eq-Decides}
use Rattle.ch_lists.specs.Ordered.{ordered, IsExactOrder}
use Rattle.ch_lists.proofs.Sorting.{sorted_is_ordered}
use Rattle.ch_ranks.specs.Dictionary.{text_cmp, Ascends}

texts_exact : IsExactOrder text_cmp
texts_exact = record { total = nat_list_cmp_total; exact = exact_bytes }

-- the order of two that differ, of which the second isn't below the first
below : (a b : List ℕ) → is_lt (text_cmp b a) ≡ false → bytes_eq a b ≡ false → text_cmp a b ≡ Less
below a b f g = go (text_cmp a b) refl
  where
    go : (o : Ordering) → text_cmp a b ≡ o → o ≡ Less
    go Less e = refl
    go Equal e = let t : bytes_eq a b ≡ true = (bytes_eq-Decides a b).1 (exact_bytes a b e) in cc
    go Greater e = let t : text_cmp b a ≡ Less = nat_list_cmp_total.antisymm b a ∙ ap ordering_reverse e in cc (ap is_lt t, f)

module _ {X : Type 0} (f : X → List ℕ) where
  abbrev by_text : X → X → Ordering
  by_text x y = text_cmp (f x) (f y)

  sorted_tail : (x : X) (xs : List X) → IsSorted by_text (x ∷ xs) → IsSorted by_text xs
  sorted_tail x xs s = λ k d l h. let t = s (k + 1) d (omega arith) (omega arith) in search (rules, t)

  pub ascends_from : (xs : List X) → IsSorted by_text xs → IsDistinct (λ x y. bytes_eq (f x) (f y)) xs → Ascends (map f xs)
  unfolding IsDistinct
  ascends_from [] s d = tt
  ascends_from (x ∷ []) s d = tt
  ascends_from (x ∷ y ∷ xs) s d = (below (f x) (f y) (s 0 x (omega arith) (omega arith)) d.0.0, ascends_from (y ∷ xs) (sorted_tail x (y ∷ xs) s) d.1)

  sorted_map : (xs : List X) → IsSorted by_text xs → IsSorted text_cmp (map f xs)
  sorted_map [] s = λ k d l h. absurd (omega arith)
  sorted_map (x ∷ []) s = λ k d l h. absurd (omega arith)
  sorted_map (x ∷ y ∷ xs) s = step (sorted_map (y ∷ xs) (sorted_tail x (y ∷ xs) s))
    where
      step : IsSorted text_cmp (map f (y ∷ xs)) → (k : ℕ) (d : List ℕ) → 0 ≤ k → k + 1 < length (map f (x ∷ y ∷ xs)) → is_lt (text_cmp (get_or (map f (x ∷ y ∷ xs)) (k + 1) d) (get_or (map f (x ∷ y ∷ xs)) k d)) ≡ false
      step rest zero d l h = s 0 x (omega arith) (omega arith)
      step rest (suc k) d l h = let e : suc k + 1 ≡ suc (k + 1) = omega arith in rw e (rest k d (omega arith) (omega arith))

  pub sorted_texts : (xs ys : List X) → IsPermutation xs ys → IsSorted by_text ys → map f ys ≡ ordered text_cmp (map f xs)
  sorted_texts xs ys p s = sorted_is_ordered text_cmp texts_exact (map f xs) (map f ys) (IsPermutation-map f xs ys p) (sorted_map ys s)

  pub among-map : (text : List ℕ) (xs : List X) → list_any (bytes_eq text) (map f xs) ≡ list_any (λ x. bytes_eq text (f x)) xs
  among-map text [] = refl
  among-map text (x ∷ xs) = ap (λ b. bytes_eq text (f x) || b) (among-map text xs)

  -- a text that is found has its place
  pub found_at : (text : List ℕ) (xs : List X) (i : ℕ) → position (λ x. bytes_eq text (f x)) xs ≡ Some i → slice_get (map f xs) i ≡ Some text
  found_at text [] i e = cc
  found_at text (x ∷ xs) i e =
      let p = position-Some (λ x. bytes_eq text (f x)) (x ∷ xs) i x e in
      slice_get-map f (x ∷ xs) i ∙ (ap (option_map f) (slice_get-get_or (x ∷ xs) i x p.0) ∙ ap Some (sym ((bytes_eq-Decides text _).0 p.1)))

  -- a new one goes last
  pub map-inserted : (text : List ℕ) (keys after : List X) (k : X) → f k ≡ text → after ≡ (if list_any (λ y. bytes_eq (f k) (f y)) keys then keys else keys ++ k ∷ [])
      → list_any (λ y. bytes_eq text (f y)) keys ≡ false → map f after ≡ map f keys ++ text ∷ []
  map-inserted text keys after k e same absent =
      let plain : after ≡ (if list_any (λ y. bytes_eq text (f y)) keys then keys else keys ++ k ∷ []) =
      subst (λ t. after ≡ (if list_any (λ y. bytes_eq t (f y)) keys then keys else keys ++ k ∷ [])) e same in
      let grown : after ≡ keys ++ k ∷ [] = plain ∙ rw absent refl in
      ap (map f) grown ∙ (map-append f keys (k ∷ []) ∙ ap (λ t. map f keys ++ t ∷ []) e)
