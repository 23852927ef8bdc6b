-- A row more of a key that is there, or of a new one.
use Rattle.std.proofs.Common.{◌≡◌, ℕ, suc, ◌+◌, ◌<◌, ◌≤◌, not, Bool, true, false, cond, ◌||◌, List, [], ◌∷◌, ◌++◌, map, filter, length, get_or, refl, ap, sym, ◌∙◌, subst, length-append, inl, inr, arith, ℤ, pos, ◌+ℤ◌, Some, None, position}
use Rattle.std.specs.Prelude.{slice_set, nat_lt}
use Rattle.std.specs.List.{list_any, position_or_len}
use Rattle.std.specs.Ordering.{int_cmp, is_eq}
use Rattle.std.specs.declared.cmp.Ordering.{Ordering}
use Rattle.std.specs.Cmp.Lexicographic.{slice_cmp}
use Rattle.std.proofs.lemmas.Bool.{cases_Bool}
use Rattle.std.proofs.lemmas.Int.{ints}
use Rattle.std.proofs.lemmas.Bool.Decides.{nat_tests}
use Rattle.std.proofs.lemmas.List.{map-append, length-map, get_or-map}
use Rattle.std.proofs.lemmas.List.Folds.{list_any_at}
use Rattle.std.proofs.lemmas.List.Quantifiers.{position-Some}
use Rattle.ch_lists.specs.Members.{In}
use Rattle.ch_lists.specs.Ordered.{is_among, once, IsExactOrder, SameBag}
use Rattle.ch_lists.proofs.Bags.{any_same}
use Rattle.ch_lists.proofs.Different.{among-In, among-from, once-In, once-from}
use Rattle.ch_lists.proofs.Members.{AreDifferent-append}
use Rattle.ch_lists.proofs.Orders.{ints_exact, lists_exact, eq_exact}
use Rattle.ch_pred.specs.Meaning.{values_of, different_keys, best_of, total}
use Rattle.ch_pred.specs.Values.{words}
use Rattle.ch_fold_laws.specs.Kept.{with_key, value_of, better}
use Rattle.ch_fold_laws.proofs.Steps.{keys_step, best_more, total_last}
use Rattle.ch_fold_laws.proofs.Groups as groups_laws
use Rattle.ch_fold_groups.specs.Kept.{KeepsGroups, Valued}

abbrev pub key_cmp : List ℤ → List ℤ → Ordering
key_cmp = slice_cmp int_cmp

pub exact : IsExactOrder key_cmp
exact = lists_exact int_cmp ints_exact

abbrev pub is_key : List ℤ → List ℤ → Bool
is_key key k = is_eq (key_cmp key k)

-- a key that has no number isn't there, and one that has one is
none_passes : {X : Type 0} (p : X → Bool) (xs : List X) → length xs ≤ position_or_len p xs → list_any p xs ≡ false
none_passes p [] all = refl
none_passes {X} p (x ∷ xs) all = go (p x) (none_passes p xs) all
  where
    go : (t : Bool) → (length xs ≤ position_or_len p xs → list_any p xs ≡ false) → suc (length xs) ≤ cond (not t) (1 + position_or_len p xs) 0 → (t || list_any p xs) ≡ false
    go true ih h = absurd (omega arith)
    go false ih h = ih (omega arith)

any_none : {X : Type 0} (p : X → Bool) (xs : List X) → position p xs ≡ None → list_any p xs ≡ false
any_none p xs none = go (nat_lt (position_or_len p xs) (length xs)) refl none
  where
    go : (t : Bool) → nat_lt (position_or_len p xs) (length xs) ≡ t → cond t (Some (position_or_len p xs)) None ≡ None → list_any p xs ≡ false
    go true e h = absurd cc
    go false e h = none_passes p xs (grind (arith, nat_tests))

-- a key that isn't there has no values
no_values : (key : List ℤ) (gs : List (List ℤ × ℤ)) → is_among key_cmp key (map (λ (g : List ℤ × ℤ). g.0) gs) ≡ false → values_of int_cmp gs key ≡ []
no_values key [] f = refl
no_values key (g ∷ gs) f = go (is_key key g.0) (no_values key gs) f
  where
    go : (t : Bool) → (is_among key_cmp key (map (λ (g : List ℤ × ℤ). g.0) gs) ≡ false → values_of int_cmp gs key ≡ []) → (t || is_among key_cmp key (map (λ (g : List ℤ × ℤ). g.0) gs)) ≡ false
        → map (λ (r : List ℤ × ℤ). r.1) (cond t (g ∷ filter (λ r. is_key key r.0) gs) (filter (λ r. is_key key r.0) gs)) ≡ []
    go true ih h = absurd cc
    go false ih h = ih h

module _ {V : Type 0} (made : List ℤ → V) (groups : List (List ℤ × ℤ)) (keys : List (List ℤ)) (values : List V) (kept : KeepsGroups made groups (record { keys = keys; values = values })) (key : List ℤ) (value : ℤ) where
  abbrev more : List (List ℤ × ℤ)
  more = groups ++ (key, value) ∷ []

  keys_more : map (λ (g : List ℤ × ℤ). g.0) more ≡ map (λ (g : List ℤ × ℤ). g.0) groups ++ key ∷ []
  keys_more = map-append (λ (g : List ℤ × ℤ). g.0) groups ((key, value) ∷ [])

  keys_step_more : (t : Bool) → is_among key_cmp key keys ≡ t → SameBag (cond t keys (keys ++ key ∷ [])) (different_keys int_cmp more)
  keys_step_more t e = subst (λ (ks : List (List ℤ)). SameBag ks (different_keys int_cmp more)) (ap (λ b. cond b keys (keys ++ key ∷ [])) e)
      (subst (λ (ks : List (List ℤ)). SameBag (with_key key_cmp keys key) (once key_cmp ks)) (sym keys_more)
      (keys_step key_cmp exact keys (map (λ (g : List ℤ × ℤ). g.0) groups) key kept.keys))

  number_among : (at : ℕ) → position (is_key key) keys ≡ Some at → is_among key_cmp key keys ≡ true
  number_among at e =
      let p = position-Some (is_key key) keys at [] e in
      list_any_at (is_key key) keys at [] p.0 p.1

  -- a row more of the key of a number
  pub there : (at : ℕ) → position (is_key key) keys ≡ Some at → KeepsGroups made more (record { keys = keys; values = slice_set values at (made (values_of int_cmp groups key ++ value ∷ [])) })
  there at e = record {
    different = kept.different;
    keys = keys_step_more true (number_among at e);
    values = ap (λ vs. slice_set vs at (made (values_of int_cmp groups key ++ value ∷ []))) kept.values ∙ groups_laws.there made groups key value keys at kept.different e;
  }

  -- the value at that number, of the rows before
  pub value_there : (at : ℕ) (d : V) → position (is_key key) keys ≡ Some at → (at < length values) × (get_or values at d ≡ made (values_of int_cmp groups key))
  value_there at d e =
      let p = position-Some (is_key key) keys at [] e in
      let long : length values ≡ length keys = ap length kept.values ∙ length-map keys (value_of made groups) in (
        omega arith,
        ap (λ vs. get_or vs at d) kept.values ∙ (get_or-map (value_of made groups) keys at [] d p.0
            ∙ ap (value_of made groups) (sym (eq_exact key_cmp exact key (get_or keys at []) p.1))),
      )

  absent : position (is_key key) keys ≡ None → In key keys → ⊥
  absent e i = cc (any_none (is_key key) keys e, among-from key_cmp exact key keys i)

  -- the first row of a key
  pub new : position (is_key key) keys ≡ None → KeepsGroups made more (record { keys = keys ++ key ∷ []; values = values ++ made (value ∷ []) ∷ [] })
  new e = record {
    different = AreDifferent-append keys (key ∷ []) kept.different ((λ i. i), tt) (λ k i j. elim j [ inl s ↦ absent e (subst (λ (z : List ℤ). In z keys) s i) | inr n ↦ n ]);
    keys = keys_step_more false (any_none (is_key key) keys e);
    values = (λ i. kept.values i ++ made (sym none_yet i ++ value ∷ []) ∷ []) ∙ groups_laws.new made groups key value keys (absent e);
  }
    where
      none_yet : values_of int_cmp groups key ≡ []
      none_yet = no_values key groups (elim (cases_Bool (is_among key_cmp key (map (λ (g : List ℤ × ℤ). g.0) groups))) [
        | inr f ↦ f
        | inl t ↦ absurd (cc (
          any_none (is_key key) keys e,
          any_same (is_key key) keys (different_keys int_cmp groups) kept.keys,
          among-from key_cmp exact key (different_keys int_cmp groups) (once-from key_cmp exact key (map (λ (g : List ℤ × ℤ). g.0) groups) (among-In key_cmp exact key (map (λ (g : List ℤ × ℤ). g.0) groups) t)),
        ))
      ])

-- a key that isn't there goes to the end
pub key_new : (keys : List (List ℤ)) (key : List ℤ) → position (is_key key) keys ≡ None → cond (is_among key_cmp key keys) keys (keys ++ key ∷ []) ≡ keys ++ key ∷ []
key_new keys key e = ap (λ b. cond b keys (keys ++ key ∷ [])) (any_none (is_key key) keys e)

-- a value at a number, of at least one row
pub some_values : (key : List ℤ) (gs : List (List ℤ × ℤ)) → is_among key_cmp key (map (λ (g : List ℤ × ℤ). g.0) gs) ≡ true → (v : ℤ) × (vs : List ℤ) × (values_of int_cmp gs key ≡ v ∷ vs)
some_values key [] t = absurd cc
some_values key (g ∷ gs) t = go (is_key key g.0) (some_values key gs) t
  where
    go : (t : Bool) → (is_among key_cmp key (map (λ (g : List ℤ × ℤ). g.0) gs) ≡ true → (v : ℤ) × (vs : List ℤ) × (values_of int_cmp gs key ≡ v ∷ vs)) → (t || is_among key_cmp key (map (λ (g : List ℤ × ℤ). g.0) gs)) ≡ true
        → (v : ℤ) × (vs : List ℤ) × (map (λ (r : List ℤ × ℤ). r.1) (cond t (g ∷ filter (λ r. is_key key r.0) gs) (filter (λ r. is_key key r.0) gs)) ≡ v ∷ vs)
    go true ih h = (g.1, values_of int_cmp gs key, refl)
    go false ih h = ih h

-- a key that is kept is the key of a pair
pub kept_among : {V : Type 0} (made : List ℤ → V) (groups : List (List ℤ × ℤ)) (kept : Valued V) → KeepsGroups made groups kept → (key : List ℤ) → is_among key_cmp key kept.keys ≡ true → is_among key_cmp key (map (λ (g : List ℤ × ℤ). g.0) groups) ≡ true
kept_among made groups kept k key t =
    among-from key_cmp exact key (map (λ (g : List ℤ × ℤ). g.0) groups) (once-In key_cmp exact key (map (λ (g : List ℤ × ℤ). g.0) groups)
    (among-In key_cmp exact key (different_keys int_cmp groups) (sym (any_same (is_key key) kept.keys (different_keys int_cmp groups) k.keys) ∙ t)))

module _ (max : Bool) (groups : List (List ℤ × ℤ)) (kept : Valued ℤ) (k : KeepsGroups (best_of words max) groups kept) (key : List ℤ) (value : ℤ) where
  pub best_there : (at : ℕ) (d : ℤ) (new : Valued ℤ) (w : ℤ) → position (is_key key) kept.keys ≡ Some at → new.keys ≡ kept.keys → new.values ≡ slice_set kept.values at w → w ≡ better max (get_or kept.values at d) value
      → KeepsGroups (best_of words max) (groups ++ (key, value) ∷ []) new
  best_there at d new w e same set is =
      let some = some_values key groups (kept_among (best_of words max) groups kept k key (number_among (best_of words max) groups kept.keys kept.values k key value at e)) in
      let made : w ≡ best_of words max (values_of int_cmp groups key ++ value ∷ []) =
      is ∙ (ap (λ u. better max u value) ((value_there (best_of words max) groups kept.keys kept.values k key value at d e).1 ∙ ap (best_of words max) some.2)
      ∙ (sym (best_more max some.1 some.0 value) ∙ ap (λ vs. best_of words max (vs ++ value ∷ [])) (sym some.2))) in
      let n = there (best_of words max) groups kept.keys kept.values k key value at e in
      let all : record { keys = kept.keys; values = slice_set kept.values at (best_of words max (values_of int_cmp groups key ++ value ∷ [])) } ≡ new =
      (λ i. record { keys = sym same i; values = (ap (λ u. slice_set kept.values at u) (sym made) ∙ sym set) i }) in
      subst (λ (z : Valued ℤ). KeepsGroups (best_of words max) (groups ++ (key, value) ∷ []) z) all n

  pub best_new : (new : Valued ℤ) → position (is_key key) kept.keys ≡ None → new.keys ≡ kept.keys ++ key ∷ [] → new.values ≡ kept.values ++ value ∷ []
      → KeepsGroups (best_of words max) (groups ++ (key, value) ∷ []) new
  best_new new_kept e more_keys more_values =
      let all : record { keys = kept.keys ++ key ∷ []; values = kept.values ++ best_of words max (value ∷ []) ∷ [] } ≡ new_kept =
      (λ i. record { keys = sym more_keys i; values = sym more_values i }) in
      subst (λ (z : Valued ℤ). KeepsGroups (best_of words max) (groups ++ (key, value) ∷ []) z) all (new (best_of words max) groups kept.keys kept.values k key value e)

module _ (groups : List (List ℤ × ℤ)) (kept : Valued ℤ) (k : KeepsGroups total groups kept) (key : List ℤ) (value : ℤ) where
  pub sum_there : (at : ℕ) (d : ℤ) (new : Valued ℤ) (w : ℤ) → position (is_key key) kept.keys ≡ Some at → new.keys ≡ kept.keys → new.values ≡ slice_set kept.values at w → w ≡ get_or kept.values at d +ℤ value
      → KeepsGroups total (groups ++ (key, value) ∷ []) new
  sum_there at d new w e same set is =
      let made : w ≡ total (values_of int_cmp groups key ++ value ∷ []) =
      is ∙ (ap (λ u. u +ℤ value) (value_there total groups kept.keys kept.values k key value at d e).1 ∙ sym (total_last (values_of int_cmp groups key) value)) in
      let n = there total groups kept.keys kept.values k key value at e in
      let all : record { keys = kept.keys; values = slice_set kept.values at (total (values_of int_cmp groups key ++ value ∷ [])) } ≡ new =
      (λ i. record { keys = sym same i; values = (ap (λ u. slice_set kept.values at u) (sym made) ∙ sym set) i }) in
      subst (λ (z : Valued ℤ). KeepsGroups total (groups ++ (key, value) ∷ []) z) all n

  pub sum_new : (new : Valued ℤ) (w : ℤ) → w ≡ value → position (is_key key) kept.keys ≡ None → new.keys ≡ kept.keys ++ key ∷ [] → new.values ≡ kept.values ++ w ∷ []
      → KeepsGroups total (groups ++ (key, value) ∷ []) new
  sum_new new_kept w is e more_keys more_values =
      let own : total (value ∷ []) ≡ w = one value ∙ sym is in
      let all : record { keys = kept.keys ++ key ∷ []; values = kept.values ++ total (value ∷ []) ∷ [] } ≡ new_kept =
      (λ i. record { keys = sym more_keys i; values = (ap (λ u. kept.values ++ u ∷ []) own ∙ sym more_values) i }) in
      subst (λ (z : Valued ℤ). KeepsGroups total (groups ++ (key, value) ∷ []) z) all (new total groups kept.keys kept.values k key value e)
    where
      one : (n : ℤ) → n +ℤ pos 0 ≡ n
      one n = omega (arith, ints)

-- keys and values stay of one length
pub both_more : (keys more_keys : List (List ℤ)) (values more_values : List ℤ) (key : List ℤ) (v : ℤ) → length values ≡ length keys → more_keys ≡ keys ++ key ∷ [] → more_values ≡ values ++ v ∷ [] → length more_values ≡ length more_keys
both_more keys more_keys values more_values key v h e f = omega (arith, h, ap length e, ap length f, length-append keys (key ∷ []), length-append values (v ∷ []))
