-- Texts of lines, one behind the other, and how long an ordered list is.
use Rattle.std.proofs.Common.{◌≡◌, ◌∙◌, ◌+◌, ◌<◌, ◌++◌, ◌∷◌, [], ℕ, suc, List, Bool, true, false, cond, ap, refl, sym, take, length, get_or, map, flat_map}
use Rattle.std.proofs.lemmas.List.{flat_map_more, map_push, take_more}
use Rattle.std.specs.declared.cmp.Ordering.{Ordering}
use Rattle.std.specs.Ordering.{is_lt}
use Rattle.ch_lists.specs.Ordered.{ordered, placed}

pub one_more : {X : Type 0} (f : X → List ℕ) (front : List ℕ) (xs : List X) (i : ℕ) (d : X) → i < length xs
    → (front ++ flat_map f (take i xs)) ++ f (get_or xs i d) ≡ front ++ flat_map f (take (i + 1) xs)
one_more {X} f front xs i d lt = flat_map_more f front (take i xs) (get_or xs i d) ∙ ap (λ (ys : List X). front ++ flat_map f ys) (sym (take_more xs i d lt))

pub one_more_of : {X Y : Type 0} (f : Y → List ℕ) (g : X → Y) (front : List ℕ) (xs : List X) (i : ℕ) (d : X) → i < length xs
    → (front ++ flat_map f (map g (take i xs))) ++ f (g (get_or xs i d)) ≡ front ++ flat_map f (map g (take (i + 1) xs))
one_more_of {X} {Y} f g front xs i d lt =
    flat_map_more f front (map g (take i xs)) (g (get_or xs i d))
    ∙ ap (λ (ys : List Y). front ++ flat_map f ys) (sym (map_push g (take i xs) (get_or xs i d)) ∙ ap (map g) (sym (take_more xs i d lt)))

placed_length : {X : Type 0} (cmp : X → X → Ordering) (x : X) (ys : List X) → length (placed cmp x ys) ≡ suc (length ys)
placed_length cmp x [] = refl
placed_length {X} cmp x (y ∷ ys) = go (is_lt (cmp y x)) (placed_length cmp x ys)
  where
    go : (b : Bool) → length (placed cmp x ys) ≡ suc (length ys) → length (cond b (y ∷ placed cmp x ys) (x ∷ y ∷ ys)) ≡ suc (suc (length ys))
    go true ih = ap suc ih
    go false ih = refl

pub ordered_length : {X : Type 0} (cmp : X → X → Ordering) (xs : List X) → length (ordered cmp xs) ≡ length xs
ordered_length cmp [] = refl
ordered_length cmp (x ∷ xs) = placed_length cmp x (ordered cmp xs) ∙ ap suc (ordered_length cmp xs)
