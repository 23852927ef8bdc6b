-- The names of a header, none of which stands there twice.
use Rattle.std.proofs.Common.{◌≡◌, ◌∙◌, ap, sym, refl, subst, ℕ, suc, ◌+◌, ◌<◌, Bool, true, false, cond, ◌||◌, List, [], ◌∷◌, ◌++◌, length, map, get_or, take, drop, Some, None, drop-cons, add-one}
use Rattle.std.specs.Prelude.{bytes_eq, if◌then◌else◌}
use Rattle.std.specs.List.{list_any}
use Rattle.std.proofs.lemmas.List.{map-append}
use Rattle.ch_tables.specs.Refusal.{repeated_from}

module _ {X : Type 0} (f : X → List ℕ) where
  among-map : (text : List ℕ) (xs : List X) → list_any (bytes_eq text) (map f xs) ≡ list_any (λ x. bytes_eq text (f x)) xs
  among-map text [] = refl
  among-map text (x ∷ xs) = ap (λ b. bytes_eq text (f x) || b) (among-map text xs)

  -- a new one goes last
  pub map-added : (text : List ℕ) (keys after : List X) (k : X) → f k ≡ text → after ≡ (if list_any (λ y. bytes_eq (f k) (f y)) keys then keys else keys ++ k ∷ [])
      → list_any (bytes_eq text) (map f keys) ≡ false → map f after ≡ map f keys ++ text ∷ []
  map-added text keys after k e same absent =
      let plain : after ≡ (if list_any (λ y. bytes_eq text (f y)) keys then keys else keys ++ k ∷ []) =
      subst (λ t. after ≡ (if list_any (λ y. bytes_eq t (f y)) keys then keys else keys ++ k ∷ [])) e same in
      let none : list_any (λ y. bytes_eq text (f y)) keys ≡ false = sym (among-map text keys) ∙ absent in
      let grown : after ≡ keys ++ k ∷ [] = plain ∙ rw none refl in
      ap (map f) grown ∙ (map-append f keys (k ∷ []) ∙ ap (λ t. map f keys ++ t ∷ []) e)

-- where no name stands earlier, the one at hand doesn't
pub other_here : (fs : List (List ℕ)) (i : ℕ) → i < length fs → repeated_from i (take i fs) (drop i fs) ≡ None
    → (list_any (bytes_eq (get_or fs i [])) (take i fs) ≡ false) × (repeated_from (i + 1) (take i fs ++ get_or fs i [] ∷ []) (drop (i + 1) fs) ≡ None)
other_here fs i h e = by (list_any (bytes_eq (get_or fs i [])) (take i fs)) refl (rw (drop-cons fs i []) at e)
  where
    by : (b : Bool) → list_any (bytes_eq (get_or fs i [])) (take i fs) ≡ b
        → cond (list_any (bytes_eq (get_or fs i [])) (take i fs)) (Some i) (repeated_from (i + 1) (take i fs ++ get_or fs i [] ∷ []) (drop (suc i) fs)) ≡ None
        → (list_any (bytes_eq (get_or fs i [])) (take i fs) ≡ false) × (repeated_from (i + 1) (take i fs ++ get_or fs i [] ∷ []) (drop (i + 1) fs) ≡ None)
    by true same n = let no : Some i ≡ None = sym (ap (λ b. cond b (Some i) (repeated_from (i + 1) (take i fs ++ get_or fs i [] ∷ []) (drop (suc i) fs))) same) ∙ n in cc
    by false same n =
        let left : repeated_from (i + 1) (take i fs ++ get_or fs i [] ∷ []) (drop (suc i) fs) ≡ None = sym (ap (λ b. cond b (Some i) (repeated_from (i + 1) (take i fs ++ get_or fs i [] ∷ []) (drop (suc i) fs))) same) ∙ n in
        (same, ap (λ n. repeated_from (i + 1) (take i fs ++ get_or fs i [] ∷ []) (drop n fs)) (add-one i) ∙ left)
