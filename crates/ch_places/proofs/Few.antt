-- There are at most as many different columns of one table as columns that it carries.
use Rattle.std.proofs.Common.{◌≡◌, ◌≢◌, ◌≤◌, ℕ, zero, suc, Bool, true, false, List, [], ◌∷◌, length, refl, sym, ◌∙◌, ap, ap₂, arith, inl, inr, nat_eq}
use Rattle.std.specs.Prelude.{◌&&◌, if◌then◌else◌, slice_index_or}
use Rattle.std.specs.List.{list_any}
use Rattle.std.proofs.lemmas.Bool.{cases_eq, eq-eqb, ne_eqb, or_parts}
use Rattle.ch_lists.specs.Members.{In, Each}
use Rattle.ch_pred.specs.declared.pred.Col.{Col}
use Rattle.ch_places.specs.Different.{different, inserted, is_same_col}
use Rattle.ch_places.proofs.Kept.{length_inserted}

abbrev removed : ℕ → List ℕ → List ℕ
removed at [] = []
removed at (x ∷ xs) = if nat_eq x at then xs else x ∷ removed at xs

removed_long : (at : ℕ) (xs : List ℕ) → In at xs → length xs ≡ suc (length (removed at xs))
removed_long at [] i = elim i [ ]
removed_long at (x ∷ xs) i = elim (cases_eq x at) [
  | inl e ↦ rw (eq-eqb x at e) refl
  | inr n ↦ rw (ne_eqb x at n) (elim i [
    | inl e ↦ absurd (n (sym e))
    | inr j ↦ ap suc (removed_long at xs j)
  ])
]

in_removed : (at y : ℕ) (xs : List ℕ) → In y xs → y ≢ at → In y (removed at xs)
in_removed at y [] i n = elim i [ ]
in_removed at y (x ∷ xs) i n = elim (cases_eq x at) [
  | inl e ↦ rw (eq-eqb x at e) (elim i [ inl s ↦ absurd (n (omega arith)) | inr j ↦ j ])
  | inr m ↦ rw (ne_eqb x at m) (elim i [ inl s ↦ inl s | inr j ↦ inr (in_removed at y xs j n) ])
]

none_same : (c d : Col) (cols : List Col) → list_any (is_same_col c) cols ≡ false → In d cols → is_same_col c d ≡ false
none_same c d [] h i = elim i [ ]
none_same c d (e ∷ cols) h i =
    let parts = or_parts (is_same_col c e) (list_any (is_same_col c) cols) h in
    elim i [
      | inl same ↦ (λ k. is_same_col c (same k)) ∙ parts.0
      | inr j ↦ none_same c d cols parts.1 j
    ]

apart : (c d : Col) → c.side ≡ d.side → is_same_col c d ≡ false → d.at ≢ c.at
apart c d side h e = cc (ap₂ (λ (x y : Bool). x && y) (eq-eqb c.side d.side side) (eq-eqb c.at d.at (sym e)), h)

-- columns of the first side, at places of the list
abbrev pub AreAmong : List ℕ → List Col → Type 0
AreAmong xs cols = Each (λ c. (c.side ≡ 0) × In c.at xs) cols

pub few_different : (cols : List Col) (xs : List ℕ) → AreAmong xs cols → length (different cols) ≤ length xs
few_different [] xs h = omega arith
few_different (c ∷ cols) xs h = go (list_any (is_same_col c) cols) refl (few_different cols xs (λ d i. h d (inr i))) (λ ys k. few_different cols ys k)
  where
    go : (t : Bool) → list_any (is_same_col c) cols ≡ t → length (different cols) ≤ length xs → ((ys : List ℕ) → AreAmong ys cols → length (different cols) ≤ length ys)
        → length (if t then different cols else inserted c (different cols)) ≤ length xs
    go true e ih more = ih
    go false e ih more =
        let first = h c (inl refl) in
        let rest = more (removed c.at xs) (λ d i. let k = h d (inr i) in (k.0, in_removed c.at d.at xs k.1 (apart c d (first.0 ∙ sym k.0) (none_same c d cols e i)))) in
        let long = removed_long c.at xs first.1 in
        let more_by_one = length_inserted c (different cols) in
        omega arith

-- with one table a carried column is of the first side
pub first_side : (lists : List (List ℕ)) (side at : ℕ) → length lists ≡ 1 → In at (slice_index_or lists side []) → side ≡ 0
first_side lists zero at e i = refl
first_side [] (suc side) at e i = elim i [ ]
first_side (x ∷ []) (suc side) at e i = elim i [ ]
first_side (x ∷ y ∷ lists) (suc side) at e i = absurd (omega arith)
