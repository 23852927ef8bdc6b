-- The members of an ordered list, and the lengths of lists with the same elements.
use Rattle.std.proofs.Common.{◌≡◌, Bool, true, false, cond, List, [], ◌∷◌, length, refl, sym, ◌∙◌, arith, inl, inr}
use Rattle.std.specs.Prelude.{sum_by}
use Rattle.std.specs.declared.cmp.Ordering.{Ordering}
use Rattle.std.specs.Ordering.{is_lt}
use Rattle.std.proofs.lemmas.List.Sums.{sum_by-cons}
use Rattle.ch_lists.specs.Members.{In}
use Rattle.ch_lists.specs.Ordered.{placed, ordered, SameBag}

placed-In : {X : Type 0} (cmp : X → X → Ordering) (w x : X) (ys : List X) → In w (placed cmp x ys) → In w (x ∷ ys)
placed-In cmp w x [] i = i
placed-In {X} cmp w x (y ∷ ys) i = go (is_lt (cmp y x)) (placed-In cmp w x ys) i
  where
    go : (b : Bool) → (In w (placed cmp x ys) → In w (x ∷ ys)) → In w (cond b (y ∷ placed cmp x ys) (x ∷ y ∷ ys)) → In w (x ∷ y ∷ ys)
    go true ih (inl e) = inr (inl e)
    go true ih (inr j) = elim (ih j) [ inl e ↦ inl e | inr k ↦ inr (inr k) ]
    go false ih j = j

pub ordered-In : {X : Type 0} (cmp : X → X → Ordering) (w : X) (xs : List X) → In w (ordered cmp xs) → In w xs
ordered-In cmp w [] i = i
ordered-In cmp w (x ∷ xs) i = elim (placed-In cmp w x (ordered cmp xs) i) [ inl e ↦ inl e | inr j ↦ inr (ordered-In cmp w xs j) ]

ones : {X : Type 0} (xs : List X) → sum_by (λ _. 1) xs ≡ length xs
ones [] = refl
ones (x ∷ xs) = omega (arith, sum_by-cons (λ _. 1) x xs, ones xs)

pub bag_length : {X : Type 0} (xs ys : List X) → SameBag xs ys → length xs ≡ length ys
bag_length xs ys h = sym (ones xs) ∙ (h.sums (λ _. 1) ∙ ones ys)
