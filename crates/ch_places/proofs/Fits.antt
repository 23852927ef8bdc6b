-- The places of carried columns are places of a row.
use Rattle.std.proofs.Common.{◌≡◌, ◌≤◌, ◌<◌, ℕ, ◌+◌, true, List, [], ◌∷◌, length, map, refl, sym, arith, inl, inr}
use Rattle.std.specs.List.{list_all}
use Rattle.std.proofs.lemmas.Bool.{cases_eq, eq-eqb, ne_eqb, le-leb, lt-ltb}
use Rattle.ch_lists.specs.Members.{In, Each}
use Rattle.ch_pred.specs.Sound.{IsCarried, carried_of, place_in}
use Rattle.ch_pred.specs.declared.bound.Bound.{Bound}
use Rattle.ch_pred.specs.declared.pred.Col.{Col}
use Rattle.op_moves.specs.Columns.{place_of}
use Rattle.op_moves.specs.Values.{is_place}
use Rattle.ch_places.specs.Different.{different}
use Rattle.ch_places.proofs.Kept.{in_different_from}

pub place_below : (xs : List ℕ) (at : ℕ) → In at xs → place_in xs at < length xs
place_below [] at i = elim i [ ]
place_below (x ∷ xs) at i = elim (cases_eq x at) [
  | inl e ↦ rw (eq-eqb x at e) (omega arith)
  | inr n ↦ rw (ne_eqb x at n) (elim i [
    | inl e ↦ absurd (n (sym e))
    | inr j ↦ let rest = place_below xs at j in omega arith
  ])
]

module _ (b : Bound) (width : ℕ) (wide : (side : ℕ) → length (carried_of b side) + 3 ≤ width) where
  pub place_fits : (c : Col) → IsCarried b c.side c.at → is_place width (place_of b c) ≡ true
  place_fits c i =
      let below = place_below (carried_of b c.side) c.at i in
      let room = wide c.side in
      rw (le-leb 2 (place_of b c) (omega arith), lt-ltb (place_of b c) width (omega arith)) refl

  all_fit : (cols : List Col) → Each (λ c. IsCarried b c.side c.at) cols → list_all (is_place width) (map (place_of b) cols) ≡ true
  all_fit [] h = refl
  all_fit (c ∷ cols) h = rw (place_fits c (h c (inl refl))) (all_fit cols (λ d i. h d (inr i)))

  pub places_fit : (cols : List Col) → Each (λ c. IsCarried b c.side c.at) cols → list_all (is_place width) (map (place_of b) (different cols)) ≡ true
  places_fit cols h = all_fit (different cols) (λ c i. h c (in_different_from c cols i))
