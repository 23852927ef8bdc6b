-- The different columns are the columns, and their places are read.
use Rattle.std.proofs.Common.{◌≡◌, ◌<◌, ◌⊎◌, ℕ, zero, suc, Bool, arith, length, true, false, List, [], ◌∷◌, map, refl, sym, ap, ap₂, inl, inr, subst, nat_eq}
use Rattle.std.specs.Prelude.{if◌then◌else◌, nat_lt, slice_index_or}
use Rattle.std.specs.List.{list_any}
use Rattle.std.proofs.lemmas.Bool.{and_parts, eqb-true, or_cases}
use Rattle.ch_lists.specs.Members.{In}
use Rattle.ch_lists.proofs.Members.{In-map, In-map_from}
use Rattle.ch_pred.specs.declared.bound.Bound.{Bound}
use Rattle.ch_pred.specs.declared.pred.Col.{Col}
use Rattle.op_moves.specs.Columns.{AreOnly, AreRead, place_of}
use Rattle.ch_places.specs.Different.{different, inserted, is_same_col}

pub same_col : (c d : Col) → is_same_col c d ≡ true → c ≡ d
same_col c d h =
    let both = and_parts (nat_eq c.side d.side) (nat_eq c.at d.at) h in
    ap₂ {A = ℕ} {B = ℕ} {C = Col} (λ side at. record { side = side; at = at }) (eqb-true c.side d.side both.0) (eqb-true c.at d.at both.1)

any_in : (c : Col) (cols : List Col) → list_any (is_same_col c) cols ≡ true → In c cols
any_in c [] h = cc
any_in c (d ∷ cols) h = elim (or_cases (is_same_col c d) (list_any (is_same_col c) cols) h) [
  | inl e ↦ inl (same_col c d e)
  | inr e ↦ inr (any_in c cols e)
]

pub in_inserted : (d c : Col) (cols : List Col) → (d ≡ c) ⊎ In d cols → In d (inserted c cols)
in_inserted d c [] i = i
in_inserted d c (e ∷ cols) i = go (nat_lt c.at e.at) i (λ j. in_inserted d c cols j)
  where
    go : (t : Bool) → (d ≡ c) ⊎ In d (e ∷ cols) → ((d ≡ c) ⊎ In d cols → In d (inserted c cols)) → In d (if t then c ∷ e ∷ cols else e ∷ inserted c cols)
    go true i ih = i
    go false (inl same) ih = inr (ih (inl same))
    go false (inr (inl first)) ih = inl first
    go false (inr (inr j)) ih = inr (ih (inr j))

pub in_inserted_from : (d c : Col) (cols : List Col) → In d (inserted c cols) → (d ≡ c) ⊎ In d cols
in_inserted_from d c [] i = i
in_inserted_from d c (e ∷ cols) i = go (nat_lt c.at e.at) i (λ j. in_inserted_from d c cols j)
  where
    later : (d ≡ c) ⊎ In d cols → (d ≡ c) ⊎ In d (e ∷ cols)
    later (inl same) = inl same
    later (inr j) = inr (inr j)

    go : (t : Bool) → In d (if t then c ∷ e ∷ cols else e ∷ inserted c cols) → (In d (inserted c cols) → (d ≡ c) ⊎ In d cols) → (d ≡ c) ⊎ In d (e ∷ cols)
    go true i ih = i
    go false (inl first) ih = inr (inl first)
    go false (inr j) ih = later (ih j)

pub length_inserted : (c : Col) (cols : List Col) → length (inserted c cols) ≡ suc (length cols)
length_inserted c [] = refl
length_inserted c (e ∷ cols) = go (nat_lt c.at e.at) (length_inserted c cols)
  where
    go : (t : Bool) → length (inserted c cols) ≡ suc (length cols) → length (if t then c ∷ e ∷ cols else e ∷ inserted c cols) ≡ suc (suc (length cols))
    go true ih = refl
    go false ih = ap suc ih

pub in_different : (c : Col) (cols : List Col) → In c cols → In c (different cols)
in_different c [] i = elim i [ ]
in_different c (d ∷ cols) i = go (list_any (is_same_col d) cols) refl i (λ j. in_different c cols j)
  where
    go : (t : Bool) → list_any (is_same_col d) cols ≡ t → In c (d ∷ cols) → (In c cols → In c (different cols)) → In c (if t then different cols else inserted d (different cols))
    go true e i ih = elim i [
      | inl same ↦ ih (subst (λ (x : Col). In x cols) (sym same) (any_in d cols e))
      | inr j ↦ ih j
    ]
    go false e i ih = elim i [
      | inl same ↦ in_inserted c d (different cols) (inl same)
      | inr j ↦ in_inserted c d (different cols) (inr (ih j))
    ]

pub in_different_from : (c : Col) (cols : List Col) → In c (different cols) → In c cols
in_different_from c [] i = elim i [ ]
in_different_from c (d ∷ cols) i = go (list_any (is_same_col d) cols) i (λ j. in_different_from c cols j)
  where
    from : (In c (different cols) → In c cols) → (c ≡ d) ⊎ In c (different cols) → In c (d ∷ cols)
    from ih (inl same) = inl same
    from ih (inr j) = inr (ih j)

    go : (t : Bool) → In c (if t then different cols else inserted d (different cols)) → (In c (different cols) → In c cols) → In c (d ∷ cols)
    go true i ih = inr (ih i)
    go false i ih = from ih (in_inserted_from c d (different cols) i)

pub places_read : (b : Bound) (cols : List Col) → AreRead b cols (map (place_of b) (different cols))
places_read b cols c i = In-map_from (place_of b) c (different cols) (in_different c cols i)

pub places_only : (b : Bound) (cols : List Col) → AreOnly b cols (map (place_of b) (different cols))
places_only b cols p i = let m = In-map (place_of b) p (different cols) i in (m.0, in_different_from m.0 cols m.1, m.2)

pub in_at : (cols : List Col) (at : ℕ) (other : Col) → at < length cols → In (slice_index_or cols at other) cols
in_at [] at other h = absurd (omega arith)
in_at (c ∷ cols) zero other h = inl refl
in_at (c ∷ cols) (suc at) other h = inr (in_at cols at other (omega arith))
