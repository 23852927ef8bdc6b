-- Where carried columns stand.
use Rattle.std.proofs.Common.{◌≡◌, ◌≤◌, ◌<◌, ℕ, zero, suc, ◌+◌, Bool, true, false, cond, List, [], ◌∷◌, map, length, get_or, refl, sym, arith, inl, inr, eqb, leb, ltb}
use Rattle.std.specs.Prelude.{slice_index_or}
use Rattle.std.specs.List.{list_all}
use Rattle.std.proofs.lemmas.Bool.{and_from, eq-eqb, lt-ltb, le-leb}
use Rattle.ch_lists.specs.Members.{In, Each}
use Rattle.ch_pred.specs.Sound.{IsCarried, carried_of, place_in}
use Rattle.ch_pred.specs.declared.bound.Bound.{Bound}
use Rattle.ch_pred.specs.declared.bound.Dim.{Dim}
use Rattle.op_moves.specs.Columns.{place_of}
use Rattle.op_skyline.specs.Fine.{is_place}
use Rattle.op_skyline.specs.Serves.{DimsStandAt}
use Rattle.ch_plan.specs.Needs.{greatest_length}

place_below : (cs : List ℕ) (at : ℕ) → In at cs → place_in cs at < length cs
place_below [] at i = elim i [ ]
place_below (c ∷ cs) at i = go (λ j. place_below cs at j) (eqb c at) refl i
  where
    go : (In at cs → place_in cs at < length cs) → (t : Bool) → eqb c at ≡ t → In at (c ∷ cs) → cond t 0 (suc (place_in cs at)) < suc (length cs)
    go more true e i = omega arith
    go more false e (inl same) = absurd (let k = eq-eqb c at (sym same) in cc)
    go more false e (inr j) = let k = more j in omega arith

-- no list is longer than the greatest
pub shorter : (lists : List (List ℕ)) (side : ℕ) → length (slice_index_or lists side []) ≤ greatest_length lists
shorter [] side = omega arith
shorter (cs ∷ lists) zero = omega arith
shorter (cs ∷ lists) (suc side) = let more = shorter lists side in omega arith

-- a carried column's word is one of the row's
pub placed : (b : Bound) (side at : ℕ) → IsCarried b side at → place_in (carried_of b side) at < greatest_length b.carried
placed b side at i = let here = place_below (carried_of b side) at i in let short = shorter b.carried side in omega arith

pub In-at : {X : Type 0} (xs : List X) (i : ℕ) (d : X) → i < length xs → In (get_or xs i d) xs
In-at [] i d h = absurd (omega arith)
In-at (x ∷ xs) zero d h = inl refl
In-at (x ∷ xs) (suc i) d h = inr (In-at xs i d (omega arith))

pub dims_placed : (b : Bound) (dims : List Dim) → Each (λ k. IsCarried b k.col.side k.col.at) dims
    → list_all (is_place (greatest_length b.carried + 3)) (map (λ k. place_of b k.col) dims) ≡ true
dims_placed b [] h = refl
dims_placed b (k ∷ dims) h =
    let p : ℕ = place_in (carried_of b k.col.side) k.col.at in
    let below = placed b k.col.side k.col.at (h k (inl refl)) in
    and_from (is_place (greatest_length b.carried + 3) (p + 3)) (list_all (is_place (greatest_length b.carried + 3)) (map (λ k. place_of b k.col) dims))
    (and_from (leb 2 (p + 3)) (ltb (p + 3) (greatest_length b.carried + 3)) (le-leb 2 (p + 3) (omega arith)) (lt-ltb (p + 3) (greatest_length b.carried + 3) (omega arith)))
    (dims_placed b dims (λ y i. h y (inr i)))

pub dims_stand : (b : Bound) (dims : List Dim) → DimsStandAt b dims (map (λ k. place_of b k.col) dims) (map (λ k. k.max) dims)
dims_stand b [] = tt
dims_stand b (k ∷ dims) = (refl, refl, dims_stand b dims)
