-- Lists that are spelled item by item.
use Rattle.std.proofs.Common.{◌≡◌, ℕ, zero, suc, ◌+◌, ◌<◌, ◌≤◌, List, [], ◌∷◌, ◌++◌, length, map, remove, take, Bool, true, false, refl, ap, sym, ◌∙◌, arith, Option, Some, None}
use Rattle.std.specs.Prelude.{slice_get, slice_index_or, if◌then◌else◌}

-- the item of a list at a place that is there in the spelled one
pub record At {A B : Type 0} (f : A → B) (xs : List A) (i : ℕ) : Type 0 where
  pub item : A
  pub is : slice_get xs i ≡ Some item
  pub shown : (d : B) → slice_index_or (map f xs) i d ≡ f item

pub at_place : {A B : Type 0} (f : A → B) (xs : List A) (i : ℕ) → i < length (map f xs) → At f xs i
at_place f [] i lt = absurd (omega arith)
at_place f (x ∷ xs) zero lt = record { item = x; is = refl; shown = λ d. refl }
at_place f (x ∷ xs) (suc i) lt = let r = at_place f xs i (omega arith) in record { item = r.item; is = r.is; shown = r.shown }

pub past_place : {A B : Type 0} (f : A → B) (xs : List A) (i : ℕ) → length (map f xs) ≤ i → slice_get xs i ≡ None
past_place f [] i le = refl
past_place f (x ∷ xs) zero le = absurd (omega arith)
past_place f (x ∷ xs) (suc i) le = past_place f xs i (omega arith)

pub map_remove : {A B : Type 0} (f : A → B) (xs : List A) (i : ℕ) → remove (map f xs) i ≡ map f (remove xs i)
map_remove f [] zero = refl
map_remove f [] (suc i) = refl
map_remove f (x ∷ xs) zero = refl
map_remove f (x ∷ xs) (suc i) = ap (λ ys. f x ∷ ys) (map_remove f xs i)

pub map_push : {A B : Type 0} (f : A → B) (xs : List A) (x : A) → map f (xs ++ x ∷ []) ≡ map f xs ++ f x ∷ []
map_push f [] x = refl
map_push f (y ∷ ys) x = ap (λ zs. f y ∷ zs) (map_push f ys x)

-- what a list has after it was spelled
pub map_at : {A B : Type 0} (f : A → B) (xs : List A) (i : ℕ) (d : A) → slice_index_or (map f xs) i (f d) ≡ f (slice_index_or xs i d)
map_at f [] i d = refl
map_at f (x ∷ xs) zero d = refl
map_at f (x ∷ xs) (suc i) d = map_at f xs i d

-- one more packet on a link
pub link_push : {A B : Type 0} (f : A → B) (xs : List A) (y : A) (old new : List B) (b : B) → new ≡ old ++ b ∷ [] → old ≡ map f xs → b ≡ f y → new ≡ map f (xs ++ y ∷ [])
link_push f xs y old new b n o e = rw (n, o, e) (sym (map_push f xs y))

-- a packet is lifted from a link
pub link_lift : {A B : Type 0} (f : A → B) (xs : List A) (i : ℕ) (stays : Bool) (old new : List B) → new ≡ (if stays then old else remove old i) → old ≡ map f xs
    → new ≡ map f (if stays then xs else remove xs i)
link_lift f xs i true old new n o = n ∙ o
link_lift f xs i false old new n o = n ∙ rw o (map_remove f xs i)

-- an item that is there, spelled
pub at_map : {A B : Type 0} (f : A → B) (xs : List A) (i : ℕ) (x : A) (d : B) → i < length xs → x ≡ slice_index_or xs i x → slice_index_or (map f xs) i d ≡ f x
at_map f [] i x d lt e = absurd (omega arith)
at_map f (y ∷ ys) zero x d lt e = ap f (sym e)
at_map f (y ∷ ys) (suc i) x d lt e = at_map f ys i x d (omega arith) e

pub length-map : {A B : Type 0} (f : A → B) (xs : List A) → length (map f xs) ≡ length xs
length-map f [] = refl
length-map f (x ∷ xs) = ap suc (length-map f xs)
