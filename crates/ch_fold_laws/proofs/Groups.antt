-- A row more changes the value of its key alone, or adds one.
use Rattle.std.proofs.Common.{◌≡◌, Bool, true, false, cond, List, [], ◌∷◌, ◌++◌, map, filter, refl, ap, sym, ◌∙◌, subst, inl, inr, ℤ, ℕ, zero, suc, Some, slice_get, get_or, position}
use Rattle.std.specs.Prelude.{slice_set}
use Rattle.std.specs.Ordering.{int_cmp, is_eq}
use Rattle.std.specs.Cmp.Lexicographic.{slice_cmp}
use Rattle.std.proofs.lemmas.Bool.{cases_Bool}
use Rattle.std.proofs.lemmas.List.{map-append}
use Rattle.std.proofs.lemmas.List.Quantifiers.{position-Some}
use Rattle.std.proofs.lemmas.Option.{slice_get-get_or}
use Rattle.std.proofs.lemmas.List.Elements.{filter-append}
use Rattle.ch_lists.specs.Members.{In, AreDifferent}
use Rattle.ch_lists.specs.Ordered.{IsExactOrder}
use Rattle.ch_lists.proofs.Orders.{ints_exact, lists_exact, eq_itself, eq_exact}
use Rattle.ch_lists.proofs.Carried.{map_members}
use Rattle.ch_pred.specs.Meaning.{values_of}
use Rattle.ch_fold_laws.specs.Kept.{value_of}

exact : IsExactOrder (slice_cmp int_cmp)
exact = lists_exact int_cmp ints_exact

abbrev same : List ℤ → List ℤ → Bool
same a b = is_eq (slice_cmp int_cmp a b)

-- the values of a key with one row more
more : (groups : List (List ℤ × ℤ)) (key j : List ℤ) (value : ℤ) → values_of int_cmp (groups ++ (key, value) ∷ []) j ≡ values_of int_cmp groups j ++ cond (same j key) (value ∷ []) []
more groups key j value =
    ap (map (λ (r : List ℤ × ℤ). r.1)) (filter-append (λ (r : List ℤ × ℤ). same j r.0) groups ((key, value) ∷ []))
    ∙ (map-append (λ (r : List ℤ × ℤ). r.1) (filter (λ (r : List ℤ × ℤ). same j r.0) groups) (filter (λ (r : List ℤ × ℤ). same j r.0) ((key, value) ∷ []))
    ∙ ap (λ l. values_of int_cmp groups j ++ l) (one (same j key)))
  where
    one : (b : Bool) → map (λ (r : List ℤ × ℤ). r.1) (cond b ((key, value) ∷ []) []) ≡ cond b (value ∷ []) []
    one true = refl
    one false = refl

nothing : (vs : List ℤ) → vs ++ [] ≡ vs
nothing [] = refl
nothing (v ∷ vs) = ap (λ us. v ∷ us) (nothing vs)

In-got : (key : List ℤ) (ks : List (List ℤ)) (at : ℕ) → slice_get ks at ≡ Some key → In key ks
In-got key [] at e = absurd cc
In-got key (k ∷ ks) zero e = inl cc
In-got key (k ∷ ks) (suc at) e = inr (In-got key ks at e)

module _ {V : Type 0} (made : List ℤ → V) (groups : List (List ℤ × ℤ)) (key : List ℤ) (value : ℤ) where
  abbrev after : List ℤ → V
  after j = value_of made (groups ++ (key, value) ∷ []) j

  abbrev new_value : V
  new_value = made (values_of int_cmp groups key ++ value ∷ [])

  own : after key ≡ new_value
  own = ap made (more groups key key value ∙ ap (λ b. values_of int_cmp groups key ++ cond b (value ∷ []) []) (eq_itself (slice_cmp int_cmp) exact key))

  other : (j : List ℤ) → same j key ≡ false → value_of made groups j ≡ after j
  other j e = sym (ap made (more groups key j value ∙ (ap (λ b. values_of int_cmp groups j ++ cond b (value ∷ []) []) e ∙ nothing (values_of int_cmp groups j))))

  others : (ks : List (List ℤ)) → (In key ks → ⊥) → map (value_of made groups) ks ≡ map after ks
  others ks out = map_members (value_of made groups) after ks (λ j i. other j (elim (cases_Bool (same j key)) [
    | inl t ↦ absurd (out (subst (λ (z : List ℤ). In z ks) (eq_exact (slice_cmp int_cmp) exact j key t) i))
    | inr f ↦ f
  ]))

  set_at : (ks : List (List ℤ)) (at : ℕ) → AreDifferent ks → slice_get ks at ≡ Some key → slice_set (map (value_of made groups) ks) at new_value ≡ map after ks
  set_at [] at d e = cc
  set_at (k ∷ ks) zero d e =
      let is : key ≡ k = cc in
      λ i. (sym own ∙ ap after is) i ∷ others ks (λ j. d.0 (subst (λ (z : List ℤ). In z ks) is j)) i
  set_at (k ∷ ks) (suc at) d e = λ i. other k (elim (cases_Bool (same k key)) [
    | inl t ↦ absurd (d.0 (subst (λ (z : List ℤ). In z ks) (sym (eq_exact (slice_cmp int_cmp) exact k key t)) (In-got key ks at e)))
    | inr f ↦ f
  ]) i ∷ set_at ks at d.1 e i

  pub there : (ks : List (List ℤ)) (at : ℕ) → AreDifferent ks → position (λ k. same key k) ks ≡ Some at → slice_set (map (value_of made groups) ks) at new_value ≡ map after ks
  there ks at d e =
      let p = position-Some (λ k. same key k) ks at [] e in
      set_at ks at d (slice_get-get_or ks at [] p.0 ∙ ap Some (sym (eq_exact (slice_cmp int_cmp) exact key (get_or ks at []) p.1)))

  pub new : (ks : List (List ℤ)) → (In key ks → ⊥) → map (value_of made groups) ks ++ new_value ∷ [] ≡ map after (ks ++ key ∷ [])
  new ks out = (λ i. others ks out i ++ sym own i ∷ []) ∙ sym (map-append after ks (key ∷ []))
