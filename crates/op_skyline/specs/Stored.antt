-- At most so many points are stored, and their scores never rise.
use Rattle.std.proofs.Common.{◌≡◌, ℕ, zero, suc, ◌≤◌, ℤ, ◌≤ℤ◌, int_le, Bool, true, false, cond, List, [], ◌∷◌, length, take, refl, ap, arith, inl, inr, length-take}
use Rattle.std.specs.List.{list_any}
use Rattle.std.proofs.lemmas.Int.{ints}
use Rattle.ch_lists.specs.Members.{In, Each}
use Rattle.ch_cover.specs.Rows.{Row}
use Rattle.op_skyline.specs.Policy.{dominates, inserted, point_of, score, stored}
use Rattle.op_skyline.specs.declared.sizes.Sizes.{Sizes}

-- no later point has a greater score
abbrev pub NeverRise : List (List ℤ) → Type 0
NeverRise [] = Unit {0}
NeverRise (s ∷ stored) = Each (λ t. score t ≤ℤ score s) stored × NeverRise stored

pub stored_short : (s : Sizes) (before : List (ℕ × Row)) → length (stored s before) ≤ s.points
stored_short s [] = omega arith
stored_short s (x ∷ before) = go (stored_short s before) x.1.bit (list_any (λ t. dominates t (point_of s x.1)) (stored s before))
  where
    go : length (stored s before) ≤ s.points → (b d : Bool)
        → length (cond b (cond d (stored s before) (take s.points (inserted (point_of s x.1) (stored s before)))) (stored s before)) ≤ s.points
    go ih false d = ih
    go ih true true = ih
    go ih true false = omega (arith, length-take s.points (inserted (point_of s x.1) (stored s before)))

true_le : (a b : ℤ) → int_le a b ≡ true → a ≤ℤ b
true_le a b h = grind (arith, ints)

false_le : (a b : ℤ) → int_le a b ≡ false → b ≤ℤ a
false_le a b h = grind (arith, ints)

In-taken : {X : Type 0} (x : X) (n : ℕ) (xs : List X) → In x (take n xs) → In x xs
In-taken x zero xs i = absurd i
In-taken x (suc n) [] i = i
In-taken x (suc n) (y ∷ xs) (inl e) = inl e
In-taken x (suc n) (y ∷ xs) (inr i) = inr (In-taken x n xs i)

In-inserted : (x p : List ℤ) (ss : List (List ℤ)) → In x (inserted p ss) → In x (p ∷ ss)
In-inserted x p [] i = i
In-inserted x p (s ∷ ss) i = go (In-inserted x p ss) (int_le (score p) (score s)) i
  where
    go : (In x (inserted p ss) → In x (p ∷ ss)) → (b : Bool) → In x (cond b (s ∷ inserted p ss) (p ∷ s ∷ ss)) → In x (p ∷ s ∷ ss)
    go ih true (inl e) = inr (inl e)
    go ih true (inr j) = elim (ih j) [ inl e ↦ inl e | inr k ↦ inr (inr k) ]
    go ih false j = j

rise_taken : (n : ℕ) (ss : List (List ℤ)) → NeverRise ss → NeverRise (take n ss)
rise_taken zero ss h = tt
rise_taken (suc n) [] h = tt
rise_taken (suc n) (s ∷ ss) h = ((λ x i. h.0 x (In-taken x n ss i)), rise_taken n ss h.1)

rise_inserted : (p : List ℤ) (ss : List (List ℤ)) → NeverRise ss → NeverRise (inserted p ss)
rise_inserted p [] h = ((λ x i. absurd i), tt)
rise_inserted p (s ∷ ss) h = go (rise_inserted p ss h.1) (int_le (score p) (score s)) refl
  where
    same : (x : List ℤ) → x ≡ p → score p ≤ℤ score s → score x ≤ℤ score s
    same x e l = let f = ap score e in omega (arith, ints)

    go : NeverRise (inserted p ss) → (b : Bool) → int_le (score p) (score s) ≡ b → NeverRise (cond b (s ∷ inserted p ss) (p ∷ s ∷ ss))
    go ih true e = ((λ x i. elim (In-inserted x p ss i) [ inl same_point ↦ same x same_point (true_le (score p) (score s) e) | inr j ↦ h.0 x j ]), ih)
    go ih false e = (
      λ x i.
          let low = false_le (score p) (score s) e in
          elim i [ inl f ↦ (let g = ap score f in omega (arith, ints)) | inr j ↦ (let l = h.0 x j in omega (arith, ints)) ],
      h,
    )

pub stored_ordered : (s : Sizes) (before : List (ℕ × Row)) → NeverRise (stored s before)
stored_ordered s [] = tt
stored_ordered s (x ∷ before) = go (stored_ordered s before) x.1.bit (list_any (λ t. dominates t (point_of s x.1)) (stored s before))
  where
    go : NeverRise (stored s before) → (b d : Bool)
        → NeverRise (cond b (cond d (stored s before) (take s.points (inserted (point_of s x.1) (stored s before)))) (stored s before))
    go ih false d = ih
    go ih true true = ih
    go ih true false = rise_taken s.points (inserted (point_of s x.1) (stored s before)) (rise_inserted (point_of s x.1) (stored s before) ih)
