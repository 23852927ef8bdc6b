-- Different elements, firsts, bests and sums with one element more.
use Rattle.std.proofs.Common.{◌≡◌, ℕ, ◌+◌, Bool, true, false, cond, ◌||◌, List, [], ◌∷◌, ◌++◌, take, refl, ap, sym, ◌∙◌, subst, inl, inr, arith, ℤ, pos, ◌+ℤ◌}
use Rattle.std.specs.Prelude.{sum_by}
use Rattle.std.specs.List.{list_any}
use Rattle.std.specs.declared.cmp.Ordering.{Ordering}
use Rattle.std.specs.Ordering.{is_lt, is_eq, int_cmp}
use Rattle.std.proofs.lemmas.Int.{ints}
use Rattle.std.proofs.lemmas.Bool.{cases_Bool}
use Rattle.std.proofs.lemmas.List.{take-take}
use Rattle.std.proofs.lemmas.List.Sums.{sum_by-cons, sum_by-append}
use Rattle.ch_lists.specs.Ordered.{placed, ordered, once, is_among, directed, IsExactOrder, SameBag}
use Rattle.ch_lists.proofs.Sorting.{ordered_same, placed_front}
use Rattle.ch_lists.proofs.Orders.{ints_exact, directed_exact, eq_exact}
use Rattle.ch_lists.proofs.Bags.{SameBag-trans, any_same}
use Rattle.ch_lists.proofs.Different.{once_same, once_bag, once-In, once-from, among-In, among-from}
use Rattle.ch_pred.specs.Meaning.{best_of, total, head_or}
use Rattle.ch_pred.specs.Values.{words}
use Rattle.ch_fold_laws.specs.Kept.{with_key, better}

-- an element at the end or in front
pub last_first : {X : Type 0} (xs : List X) (x : X) → SameBag (xs ++ x ∷ []) (x ∷ xs)
last_first xs x = record { sums = λ f. sum_by-append f xs (x ∷ []) ∙ omega (arith, sum_by-cons f x [], sum_by-cons f x xs) }

any_last : {X : Type 0} (p : X → Bool) (xs : List X) (x : X) → list_any p (xs ++ x ∷ []) ≡ (p x || list_any p xs)
any_last p xs x = any_same p (xs ++ x ∷ []) (x ∷ xs) (last_first xs x)

module _ {X : Type 0} (cmp : X → X → Ordering) (o : IsExactOrder cmp) where
  pub firsts : (limit : ℕ) (xs : List X) (x : X) → take limit (ordered cmp (xs ++ x ∷ [])) ≡ take limit (placed cmp x (take limit (ordered cmp xs)))
  firsts limit xs x = ap (take limit) (ordered_same cmp o (xs ++ x ∷ []) (x ∷ xs) (last_first xs x))
      ∙ placed_front cmp limit x (ordered cmp xs) (take limit (ordered cmp xs)) (sym (take-take limit limit (ordered cmp xs) (omega arith)))

  same_once : (x : X) (xs : List X) → is_among cmp x (once cmp xs) ≡ is_among cmp x xs
  same_once x xs = elim (cases_Bool (is_among cmp x xs)) [
    | inl t ↦ among-from cmp o x (once cmp xs) (once-from cmp o x xs (among-In cmp o x xs t)) ∙ sym t
    | inr f ↦ elim (cases_Bool (is_among cmp x (once cmp xs))) [
      | inl t ↦ absurd (cc (among-from cmp o x xs (once-In cmp o x xs (among-In cmp o x (once cmp xs) t)), f))
      | inr g ↦ g ∙ sym f
    ]
  ]

  -- one that is there changes no membership
  same_again : (xs : List X) (x y : X) → is_among cmp x xs ≡ true → is_among cmp y xs ≡ is_among cmp y (xs ++ x ∷ [])
  same_again xs x y t = go (is_eq (cmp y x)) refl ∙ sym (any_last (λ z. is_eq (cmp y z)) xs x)
    where
      go : (b : Bool) → is_eq (cmp y x) ≡ b → is_among cmp y xs ≡ (b || is_among cmp y xs)
      go true e = subst (λ (z : X). is_among cmp z xs ≡ true) (sym (eq_exact cmp o y x e)) t
      go false e = refl

  -- the different elements with one more
  pub keys_step : (keys xs : List X) (x : X) → SameBag keys (once cmp xs) → SameBag (with_key cmp keys x) (once cmp (xs ++ x ∷ []))
  keys_step keys xs x h = go (is_among cmp x xs) (is_among cmp x keys) refl (any_same (λ y. is_eq (cmp x y)) keys (once cmp xs) h ∙ same_once x xs)
    where
      go : (b c : Bool) → is_among cmp x xs ≡ b → c ≡ b → SameBag (cond c keys (keys ++ x ∷ [])) (once cmp (xs ++ x ∷ []))
      go true true e f = SameBag-trans keys (once cmp xs) (once cmp (xs ++ x ∷ [])) h (once_same cmp o xs (xs ++ x ∷ []) (λ y. same_again xs x y e))
      go true false e f = absurd cc
      go false true e f = absurd cc
      go false false e f =
          let new : once cmp (x ∷ xs) ≡ x ∷ once cmp xs = ap (λ b. cond b (once cmp xs) (x ∷ once cmp xs)) e in
          record {
            sums = λ k. (last_first keys x).sums k ∙ (sum_by-cons k x keys ∙ (ap (λ n. k x + n) (h.sums k) ∙ (sym (sum_by-cons k x (once cmp xs))
                ∙ (sym (ap (sum_by k) new) ∙ (once_bag cmp o (x ∷ xs) (xs ++ x ∷ []) (record { sums = λ f. sym ((last_first xs x).sums f) })).sums k))));
          }

head_take : (xs : List ℤ) → head_or (pos 0) xs ≡ head_or (pos 0) (take 1 xs)
head_take [] = refl
head_take (x ∷ xs) = refl

one_front : (cmp : ℤ → ℤ → Ordering) (x : ℤ) (ys : List ℤ) → take 1 (placed cmp x ys) ≡ head_or (pos 0) (placed cmp x ys) ∷ []
one_front cmp x [] = refl
one_front cmp x (y ∷ ys) = go (is_lt (cmp y x))
  where
    go : (b : Bool) → take 1 (cond b (y ∷ placed cmp x ys) (x ∷ y ∷ ys)) ≡ head_or (pos 0) (cond b (y ∷ placed cmp x ys) (x ∷ y ∷ ys)) ∷ []
    go true = refl
    go false = refl

two : (cmp : ℤ → ℤ → Ordering) (b w : ℤ) → head_or (pos 0) (take 1 (placed cmp w (b ∷ []))) ≡ cond (is_lt (cmp b w)) b w
two cmp b w = go (is_lt (cmp b w))
  where
    go : (c : Bool) → head_or (pos 0) (take 1 (cond c (b ∷ w ∷ []) (w ∷ b ∷ []))) ≡ cond c b w
    go true = refl
    go false = refl

pub best_more : (max : Bool) (vs : List ℤ) (v w : ℤ) → best_of words max ((v ∷ vs) ++ w ∷ []) ≡ better max (best_of words max (v ∷ vs)) w
best_more max vs v w =
    head_take (ordered (directed max int_cmp) ((v ∷ vs) ++ w ∷ []))
    ∙ (ap (head_or (pos 0)) (firsts (directed max int_cmp) (directed_exact max int_cmp ints_exact) 1 (v ∷ vs) w
    ∙ ap (λ l. take 1 (placed (directed max int_cmp) w l)) (one_front (directed max int_cmp) v (ordered (directed max int_cmp) vs)))
    ∙ two (directed max int_cmp) (best_of words max (v ∷ vs)) w)

pub total_last : (vs : List ℤ) (v : ℤ) → total (vs ++ v ∷ []) ≡ total vs +ℤ v
total_last [] v = omega (arith, ints)
total_last (u ∷ vs) v = ap (λ n. u +ℤ n) (total_last vs v) ∙ omega (arith, ints)
