-- A fact of each member of a list that is made of others.
use Rattle.std.proofs.Common.{◌≡◌, sym, refl, subst, Bool, true, false, List, [], ◌∷◌, ◌++◌, map, flat_map, ◌||◌, inl, inr, ap, ◌∙◌}
use Rattle.std.specs.List.{list_any}
use Rattle.std.proofs.lemmas.Bool.{or_left, or_right}
use Rattle.ch_lists.specs.Members.{In, Each}
use Rattle.ch_lists.proofs.Members.{In-left, In-right, In-append, In-map, In-map_from}

module _ {X : Type 0} (P : X → Type 0) where
  pub each_nil : Each P []
  each_nil x i = absurd i

  pub each_cons : (x : X) (xs : List X) → P x → Each P xs → Each P (x ∷ xs)
  each_cons x xs p ps y (inl e) = subst P (sym e) p
  each_cons x xs p ps y (inr i) = ps y i

  pub each_append : (xs ys : List X) → Each P xs → Each P ys → Each P (xs ++ ys)
  each_append xs ys a b x i = elim (In-append x xs ys i) [ inl h ↦ a x h | inr h ↦ b x h ]

  pub each_left : (xs ys : List X) → Each P (xs ++ ys) → Each P xs
  each_left xs ys h x i = h x (In-left x xs ys i)

  pub each_right : (xs ys : List X) → Each P (xs ++ ys) → Each P ys
  each_right xs ys h x i = h x (In-right x xs ys i)

module _ {X Y : Type 0} (P : Y → Type 0) (f : X → Y) where
  pub each_map : (xs : List X) → Each (λ x. P (f x)) xs → Each P (map f xs)
  each_map xs h y i = let r = In-map f y xs i in subst P (sym r.2) (h r.0 r.1)

  pub each_of_map : (xs : List X) → Each P (map f xs) → Each (λ x. P (f x)) xs
  each_of_map xs h x i = h (f x) (In-map_from f x xs i)

module _ {X Y : Type 0} (P : Y → Type 0) (f : X → List Y) where
  pub each_flat_map : (xs : List X) → Each (λ x. Each P (f x)) xs → Each P (flat_map f xs)
  each_flat_map [] h = each_nil P
  each_flat_map (x ∷ xs) h = each_append P (f x) (flat_map f xs) (h x (inl refl)) (each_flat_map xs (λ z i. h z (inr i)))

  pub each_of_flat_map : (xs : List X) → Each P (flat_map f xs) → Each (λ x. Each P (f x)) xs
  each_of_flat_map [] h x i = absurd i
  each_of_flat_map (y ∷ xs) h x (inl e) = subst (λ (z : X). Each P (f z)) (sym e) (each_left P (f y) (flat_map f xs) h)
  each_of_flat_map (y ∷ xs) h x (inr i) = each_of_flat_map xs (each_right P (f y) (flat_map f xs) h) x i

pub any-from_In : {X : Type 0} (p : X → Bool) (x : X) (xs : List X) → In x xs → p x ≡ true → list_any p xs ≡ true
any-from_In p x [] i e = absurd i
any-from_In p x (y ∷ xs) (inl q) e = or_left (p y) (list_any p xs) (ap p (sym q) ∙ e)
any-from_In p x (y ∷ xs) (inr i) e = or_right (p y) (list_any p xs) (any-from_In p x xs i e)

pub any-In : {X : Type 0} (p : X → Bool) (xs : List X) → list_any p xs ≡ true → (x : X) × In x xs × (p x ≡ true)
any-In p [] h = cc
any-In {X} p (y ∷ xs) h = go (λ k. any-In p xs k) (p y) refl h
  where
    go : (list_any p xs ≡ true → (x : X) × In x xs × (p x ≡ true)) → (b : Bool) → p y ≡ b → (b || list_any p xs) ≡ true → (x : X) × In x (y ∷ xs) × (p x ≡ true)
    go later true e k = (y, inl refl, e)
    go later false e k = let r = later k in (r.0, inr r.1, r.2)
