-- Different texts and their places.
use Rattle.std.proofs.Common.{◌≡◌, ℕ, Bool, true, false, ◌||◌, List, [], ◌∷◌, ◌++◌, length, map, Some, slice_get, position, refl, sym, ap, subst, ◌∙◌}
use Rattle.std.specs.Prelude.{bytes_eq, option_map, if◌then◌else◌}
use Rattle.std.specs.List.{list_any}
use Rattle.std.proofs.lemmas.List.{map-append}
use Rattle.std.proofs.lemmas.List.Quantifiers.{position-Some}
use Rattle.std.proofs.lemmas.Option.{slice_get-get_or, slice_get-map}
use Rattle.std.proofs.lemmas.Slice.Eq.{bytes_eq-Decides}
use Rattle.ch_tables.specs.Texts.{with_text}

equal_bytes : (xs ys : List ℕ) → bytes_eq xs ys ≡ true → xs ≡ ys
equal_bytes xs ys e = (bytes_eq-Decides xs ys).0 e

module _ {X : Type 0} (f : X → List ℕ) (text : List ℕ) where
  abbrev is_text : X → Bool
  is_text k = bytes_eq text (f k)

  pub list_any-map : (keys : List X) → list_any (bytes_eq text) (map f keys) ≡ list_any is_text keys
  list_any-map [] = refl
  list_any-map (k ∷ keys) = ap (λ b. bytes_eq text (f k) || b) (list_any-map keys)

  -- a text that is found has its place
  pub found_at : (keys : List X) (i : ℕ) → position is_text keys ≡ Some i → slice_get (map f keys) i ≡ Some text
  found_at [] i e = cc
  found_at (k ∷ keys) i e =
      let p = position-Some is_text (k ∷ keys) i k e in
      slice_get-map f (k ∷ keys) i ∙ (ap (option_map f) (slice_get-get_or (k ∷ keys) i k p.0) ∙ ap Some (sym (equal_bytes text _ p.1)))

  -- a new one goes last
  pub map-inserted : (keys after : List X) (k : X) → f k ≡ text → after ≡ (if list_any (λ y. bytes_eq (f k) (f y)) keys then keys else keys ++ k ∷ [])
      → list_any is_text keys ≡ false → map f after ≡ map f keys ++ text ∷ []
  map-inserted keys after k e same absent =
      let plain : after ≡ (if list_any is_text keys then keys else keys ++ k ∷ []) =
      subst (λ t. after ≡ (if list_any (λ y. bytes_eq t (f y)) keys then keys else keys ++ k ∷ [])) e same in
      let grown : after ≡ keys ++ k ∷ [] = plain ∙ rw absent refl in
      ap (map f) grown ∙ (map-append f keys (k ∷ []) ∙ ap (λ t. map f keys ++ t ∷ []) e)

-- a text that is among them changes nothing, another one goes last
pub with_text-there : (texts : List (List ℕ)) (text : List ℕ) → list_any (bytes_eq text) texts ≡ true → with_text texts text ≡ texts
with_text-there texts text e = rw e refl

pub with_text-new : (texts : List (List ℕ)) (text : List ℕ) → list_any (bytes_eq text) texts ≡ false → with_text texts text ≡ texts ++ text ∷ []
with_text-new texts text e = rw e refl

pub slice_get-last : (texts : List (List ℕ)) (text : List ℕ) → slice_get (texts ++ text ∷ []) (length texts) ≡ Some text
slice_get-last [] text = refl
slice_get-last (t ∷ texts) text = slice_get-last texts text
