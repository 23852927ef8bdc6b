-- Sums of words.
use Rattle.std.proofs.Common.{◌≡◌, ℕ, ◌*◌, ◌^◌, ◌≤◌, ◌<◌, Bool, true, false, cond, List, [], ◌∷◌, map, filter, length, get_or, arith, inl, inr, refl, subst, sym, ℤ, pos, negsuc, ◌+ℤ◌, position, Some}
use Rattle.std.specs.Prelude.{◌≤ℤ◌}
use Rattle.std.specs.Ordering.{int_cmp}
use Rattle.std.proofs.lemmas.Int.{ints}
use Rattle.ch_lists.specs.Members.{Each}
use Rattle.ch_lists.proofs.Members.{In-map, In-filter}
use Rattle.ch_pred.specs.Meaning.{total, values_of}
use Rattle.ch_fold_groups.specs.Kept.{IsWord, KeepsGroups, Valued}
use Rattle.ch_fold_groups.proofs.Steps.{is_key, value_there}

pub total_high : (vs : List ℤ) → Each IsWord vs → total vs ≤ℤ pos (length vs * 9223372036854775808)
total_high [] all = omega (arith, ints)
total_high (v ∷ vs) all = let h = all v (inl refl) in let ih = total_high vs (λ w i. all w (inr i)) in omega (arith, ints, h.high, ih)

pub total_low : (vs : List ℤ) → Each IsWord vs → pos 0 ≤ℤ (total vs +ℤ pos (length vs * 9223372036854775808))
total_low [] all = omega (arith, ints)
total_low (v ∷ vs) all = let h = all v (inl refl) in let ih = total_low vs (λ w i. all w (inr i)) in omega (arith, ints, h.low, ih)

values_short : (key : List ℤ) (gs : List (List ℤ × ℤ)) → length (values_of int_cmp gs key) ≤ length gs
values_short key [] = omega arith
values_short key (g ∷ gs) = go (is_key key g.0) (values_short key gs)
  where
    go : (t : Bool) → length (values_of int_cmp gs key) ≤ length gs → length (map (λ (r : List ℤ × ℤ). r.1) (cond t (g ∷ filter (λ r. is_key key r.0) gs) (filter (λ r. is_key key r.0) gs))) ≤ length (g ∷ gs)
    go true h = omega arith
    go false h = omega arith

values_words : (key : List ℤ) (gs : List (List ℤ × ℤ)) → Each (λ g. IsWord g.1) gs → Each IsWord (values_of int_cmp gs key)
values_words key gs all w i =
    let m = In-map (λ (g : List ℤ × ℤ). g.1) w (filter (λ r. is_key key r.0) gs) i in
    subst IsWord (sym m.2) (all m.0 (In-filter (λ r. is_key key r.0) m.0 gs m.1).0)

-- the sum at a number of fewer than 2^63 words is below 2^126
pub sum_within : (groups : List (List ℤ × ℤ)) (kept : Valued ℤ) → KeepsGroups total groups kept → Each (λ g. IsWord g.1) groups → length groups < 2 ^ 63 → (key : List ℤ) (at : ℕ) (d : ℤ) → position (is_key key) kept.keys ≡ Some at
    → (get_or kept.values at d ≤ℤ pos (2 ^ 126)) × (negsuc (2 ^ 126) ≤ℤ get_or kept.values at d)
sum_within groups kept k all room key at d e =
    let vs = values_of int_cmp groups key in
    let is : get_or kept.values at d ≡ total vs = (value_there total groups kept.keys kept.values k key (pos 0) at d e).1 in
    let short : length vs ≤ length groups = values_short key groups in
    let high = total_high vs (values_words key groups all) in
    let low = total_low vs (values_words key groups all) in
    (omega (arith, ints, is, short, high, room), omega (arith, ints, is, short, low, room))
