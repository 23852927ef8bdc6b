-- Two comparisons that agree on the elements of a list give it one order.
use Rattle.std.proofs.Common.{◌≡◌, Bool, true, false, cond, List, [], ◌∷◌, refl, ap, subst, sym, ◌∙◌, inl, inr}
use Rattle.std.specs.declared.cmp.Ordering.{Ordering}
use Rattle.std.specs.Ordering.{is_lt}
use Rattle.ch_lists.specs.Members.{In, Each}
use Rattle.ch_lists.specs.Ordered.{placed, ordered}

module _ {X : Type 0} (cmp next : X → X → Ordering) (P : X → Type 0) (agree : (a b : X) → P a → P b → next a b ≡ cmp a b) where
  placed_agree : (x : X) (ys : List X) → P x → Each P ys → placed next x ys ≡ placed cmp x ys
  placed_agree x [] p q = refl
  placed_agree x (y ∷ ys) p q = go (is_lt (next y x)) (is_lt (cmp y x)) (ap is_lt (agree y x (q y (inl refl)) p)) (placed_agree x ys p (λ z i. q z (inr i)))
    where
      go : (b c : Bool) → b ≡ c → placed next x ys ≡ placed cmp x ys → cond b (y ∷ placed next x ys) (x ∷ y ∷ ys) ≡ cond c (y ∷ placed cmp x ys) (x ∷ y ∷ ys)
      go true true e ih = ap (λ zs. y ∷ zs) ih
      go true false e ih = absurd cc
      go false true e ih = absurd cc
      go false false e ih = refl

  placed_each : (x : X) (ys : List X) → P x → Each P ys → Each P (placed cmp x ys)
  placed_each x [] p q z (inl e) = subst P (sym e) p
  placed_each x [] p q z (inr i) = absurd i
  placed_each x (y ∷ ys) p q z i = go (is_lt (cmp y x)) (placed_each x ys p (λ w k. q w (inr k)) z) i
    where
      go : (b : Bool) → (In z (placed cmp x ys) → P z) → In z (cond b (y ∷ placed cmp x ys) (x ∷ y ∷ ys)) → P z
      go true ih (inl e) = subst P (sym e) (q y (inl refl))
      go true ih (inr j) = ih j
      go false ih (inl e) = subst P (sym e) p
      go false ih (inr j) = q z j

  ordered_each : (xs : List X) → Each P xs → Each P (ordered cmp xs)
  ordered_each [] q = q
  ordered_each (x ∷ xs) q = placed_each x (ordered cmp xs) (q x (inl refl)) (ordered_each xs (λ z i. q z (inr i)))

  pub ordered_agree : (xs : List X) → Each P xs → ordered next xs ≡ ordered cmp xs
  ordered_agree [] q = refl
  ordered_agree (x ∷ xs) q =
      ap (placed next x) (ordered_agree xs (λ z i. q z (inr i))) ∙ placed_agree x (ordered cmp xs) (q x (inl refl)) (ordered_each xs (λ z i. q z (inr i)))
