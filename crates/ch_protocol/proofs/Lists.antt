-- Membership in lists.
use Rattle.std.proofs.Common.{◌≡◌, ℕ, zero, suc, ◌+◌, ◌<◌, ◌≤◌, Bool, true, false, cond, not, List, [], ◌∷◌, ◌++◌, length, filter, remove, take, drop, slice_get, Option, Some, None, refl, ap, sym, ◌∙◌, arith, inl, inr, ◌⊎◌}
use Rattle.ch_protocol.specs.Sets.{numbers_from}
use Rattle.ch_lists.specs.Members.{In, Each, AreDifferent}

pub In-last : {X : Type 0} (x : X) (xs : List X) → In x (xs ++ x ∷ [])
In-last x [] = inl refl
In-last x (y ∷ xs) = inr (In-last x xs)

pub In-push : {X : Type 0} (x y : X) (xs : List X) → In x (xs ++ y ∷ []) → In x xs ⊎ (x ≡ y)
In-push x y [] (inl e) = inr e
In-push x y [] (inr h) = absurd h
In-push x y (z ∷ xs) (inl e) = inl (inl e)
In-push x y (z ∷ xs) (inr h) = elim (In-push x y xs h) [ inl i ↦ inl (inr i) | inr e ↦ inr e ]

pub In-remove : {X : Type 0} (x : X) (xs : List X) (i : ℕ) → In x (remove xs i) → In x xs
In-remove x [] zero h = h
In-remove x [] (suc i) h = h
In-remove x (y ∷ xs) zero h = inr h
In-remove x (y ∷ xs) (suc i) (inl e) = inl e
In-remove x (y ∷ xs) (suc i) (inr h) = inr (In-remove x xs i h)

pub In-get : {X : Type 0} (x : X) (xs : List X) (i : ℕ) → slice_get xs i ≡ Some x → In x xs
In-get x [] i e = absurd cc
In-get x (y ∷ xs) zero e = inl (cc)
In-get x (y ∷ xs) (suc i) e = inr (In-get x xs i e)

pub In-numbers : (k from count : ℕ) → In k (numbers_from from count) → (from ≤ k) × (k < from + count)
In-numbers k from zero h = absurd h
In-numbers k from (suc count) (inl e) = omega arith
In-numbers k from (suc count) (inr h) = let r = In-numbers k (suc from) count h in omega arith

pub In-numbers_from : (k from count : ℕ) → from ≤ k → k < from + count → In k (numbers_from from count)
In-numbers_from k from zero le lt = absurd (omega arith)
In-numbers_from k from (suc count) le lt = elim (Rattle.std.proofs.lemmas.Bool.cases_eq k from) [
  | inl e ↦ inl e
  | inr n ↦ inr (In-numbers_from k (suc from) count (omega arith) (omega arith))
]

-- each of a list with one more at its end
pub Each-push : {X : Type 0} (P : X → Type 0) (xs : List X) (y : X) → Each P xs → P y → Each P (xs ++ y ∷ [])
Each-push P xs y each here x h = elim (In-push x y xs h) [ inl i ↦ each x i | inr e ↦ Rattle.std.proofs.Common.subst P (sym e) here ]

pub AreDifferent-numbers : (from count : ℕ) → AreDifferent (numbers_from from count)
AreDifferent-numbers from zero = tt
AreDifferent-numbers from (suc count) = ((λ h. omega (arith, In-numbers from (suc from) count h)), AreDifferent-numbers (suc from) count)
