-- The words of rows that are sent are ranks in their Text columns.
use Rattle.std.proofs.Common.{◌≡◌, ◌≢◌, ℕ, suc, ◌<◌, ◌≤◌, Bool, true, false, cond, eqb, eqb-true, eq-eqb, List, [], ◌∷◌, map, filter, length, refl, sym, ap, inl, inr, subst, arith}
use Rattle.std.specs.Prelude.{ℤ, pos, slice_index_or}
use Rattle.std.proofs.lemmas.Int.{ints}
use Rattle.std.specs.Ordering.{is_lt}
use Rattle.std.proofs.lemmas.Cmp.{nat_list_cmp_total, tied_itself}
use Rattle.std.proofs.lemmas.Bool.{cases_eq}
use Rattle.ch_cells.specs.declared.Cell.{Cell}
use Rattle.ch_cells.specs.declared.Cell.TheVariants as cell
use Rattle.ch_cells.specs.declared.Kind.{Kind}
use Rattle.ch_cells.specs.declared.Kind.TheVariants as kind
use Rattle.ch_lists.specs.Members.{In, Each}
use Rattle.ch_pred.specs.Meaning.{both}
use Rattle.ch_pred.specs.Sound.{IsCarried, carried_of, place_in}
use Rattle.ch_pred.specs.declared.bound.Bound.{Bound}
use Rattle.ch_pred.specs.declared.bound.Shape.{Shape}
use Rattle.ch_pred.specs.declared.bound.Shape.TheVariants as shape
use Rattle.ch_pred.specs.declared.pred.Col.{Col}
use Rattle.ch_ranks.specs.Dictionary.{rank_in, text_cmp}
use Rattle.ch_words.specs.Ranks.{word_of}
use Rattle.ch_words.specs.Readings.{rows_have}
use Rattle.ch_words.specs.Rows.{words_seen}
use Rattle.ch_words.specs.Packets.{AreSound, FitsKind, kinds_read, packed, table_of}
use Rattle.ch_words.proofs.Packets.{two_sides}
use Rattle.ch_word_cells.specs.Fits.{FitsWord, WordsFit}

kept_few : (p : List ℕ → Bool) (xs : List (List ℕ)) → length (filter p xs) ≤ length xs
kept_few p [] = omega arith
kept_few p (x ∷ xs) = go (p x) (kept_few p xs)
  where
    go : (b : Bool) → length (filter p xs) ≤ length xs → length (cond b (x ∷ filter p xs) (filter p xs)) ≤ length (x ∷ xs)
    go true l = omega (arith, l)
    go false l = omega (arith, l)

kept_fewer : (p : List ℕ → Bool) (x : List ℕ) (xs : List (List ℕ)) → In x xs → p x ≡ false → length (filter p xs) < length xs
kept_fewer p x [] i e = absurd i
kept_fewer p x (y ∷ xs) i e = go (p y) refl (λ j. kept_fewer p x xs j e) i
  where
    go : (b : Bool) → p y ≡ b → (In x xs → length (filter p xs) < length xs) → In x (y ∷ xs) → length (cond b (y ∷ filter p xs) (filter p xs)) < length (y ∷ xs)
    go true f ih (inl s) = absurd (cc (e, f, ap p s))
    go true f ih (inr j) = let l = ih j in omega (arith, l)
    go false f ih j = let l = kept_few p xs in omega (arith, l)

rank_below : (texts : List (List ℕ)) (t : List ℕ) → In t texts → rank_in texts t < length texts
rank_below texts t i = kept_fewer (λ s. is_lt (text_cmp s t)) t texts i (ap is_lt (tied_itself nat_list_cmp_total t))

word_fits : (texts : List (List ℕ)) (k : Kind) (c : Cell) → FitsKind texts k c → FitsWord texts k (word_of texts c)
word_fits texts kind.Number c f = λ e. absurd (cc e)
word_fits texts kind.Text (cell.Number n) f = absurd f
word_fits texts kind.Text (cell.Text t) f = λ e. let l = rank_below texts t f in (grind (arith, ints), grind (arith, ints, l))
word_fits texts kind.Void c f = absurd f

-- the word at a carried column's place
word_at : (f : ℕ → ℤ) (cs : List ℕ) (at : ℕ) → In at cs → slice_index_or (map f cs) (place_in cs at) (pos 0) ≡ f at
word_at f [] at h = absurd h
word_at f (c ∷ cs) at h = go (eqb c at) refl h (word_at f cs at)
  where
    go : (t : Bool) → eqb c at ≡ t → In at (c ∷ cs) → (In at cs → slice_index_or (map f cs) (place_in cs at) (pos 0) ≡ f at) → slice_index_or (map f (c ∷ cs)) (cond t 0 (suc (place_in cs at))) (pos 0) ≡ f at
    go true e h ih = ap f (eqb-true c at e)
    go false e (inl s) ih = absurd (cc (e, eq-eqb c at (sym s)))
    go false e (inr j) ih = ih j

module _ (texts : List (List ℕ)) (b : Bound) where
  abbrev kinds : ℕ → ℕ → Kind
  kinds = kinds_read b b.shape

  pub side_fits : (side : ℕ) (row : List Cell) → Each (λ at. FitsKind texts (kinds side at) (slice_index_or row at (cell.Number (pos 0)))) (carried_of b side)
      → (at : ℕ) → IsCarried b side at → FitsWord texts (kinds side at) (words_seen b (packed texts b side row) side at)
  side_fits side row f at c =
      subst (λ (w : ℤ). FitsWord texts (kinds side at) w)
      (sym (word_at (λ at. word_of texts (slice_index_or row at (cell.Number (pos 0)))) (carried_of b side) at c))
      (word_fits texts (kinds side at) (slice_index_or row at (cell.Number (pos 0))) (f at c))

pub first_alone : (s : Shape) → ((left right : Col) → s ≢ shape.Join left right) → (has : ℕ → ℕ → Type 0) (side at : ℕ) → rows_have s has side at → has side at × (side ≡ 0)
first_alone shape.Filter n has side at h = h
first_alone shape.Distinct n has side at h = h
first_alone (shape.Top by descending limit) n has side at h = h
first_alone (shape.Group keys max value) n has side at h = h
first_alone (shape.Having keys sum above) n has side at h = h
first_alone (shape.Join left right) n has side at h = absurd (n left right refl)
first_alone (shape.Skyline dims) n has side at h = h
first_alone (shape.Semi key within) n has side at h = h

pub of_pair : (s : Shape) (has : ℕ → ℕ → Type 0) (side at : ℕ) → rows_have s has side at → has side at
of_pair shape.Filter has side at h = h.0
of_pair shape.Distinct has side at h = h.0
of_pair (shape.Top by descending limit) has side at h = h.0
of_pair (shape.Group keys max value) has side at h = h.0
of_pair (shape.Having keys sum above) has side at h = h.0
of_pair (shape.Join left right) has side at h = h
of_pair (shape.Skyline dims) has side at h = h.0
of_pair (shape.Semi key within) has side at h = h.0

module _ (texts : List (List ℕ)) (b : Bound) (tables : List (List (List Cell))) (sound : AreSound texts (kinds_read b b.shape) b tables) where
  pub row_fits : ((left right : Col) → b.shape ≢ shape.Join left right) → (row : List Cell) → In row (table_of tables 0) → WordsFit texts b (words_seen b (packed texts b 0 row))
  row_fits n row i side at h =
      let p = first_alone b.shape n (IsCarried b) side at h in
      subst (λ (k : ℕ). FitsWord texts (kinds_read b b.shape k at) (words_seen b (packed texts b 0 row) k at)) (sym p.1)
      (side_fits texts b 0 row (sound.first row i) at (subst (λ (k : ℕ). IsCarried b k at) p.1 p.0))

  pub pair_fits : (row inner : List Cell) → In row (table_of tables 0) → In inner (table_of tables 1)
      → WordsFit texts b (both (words_seen b (packed texts b 0 row)) (words_seen b (packed texts b 1 inner)))
  pair_fits row inner i j side at h =
      let c = of_pair b.shape (IsCarried b) side at h in
      let Fits : ℕ → Type 0 = λ k. FitsWord texts (kinds_read b b.shape k at) (both (words_seen b (packed texts b 0 row)) (words_seen b (packed texts b 1 inner)) k at) in
      elim (cases_eq side 0) [
        | inl e ↦ subst Fits (sym e) (side_fits texts b 0 row (sound.first row i) at (subst (λ (k : ℕ). IsCarried b k at) e c))
        | inr n ↦ let e = two_sides b sound.sides side at c n in subst Fits (sym e) (side_fits texts b 1 inner (sound.second inner j) at (subst (λ (k : ℕ). IsCarried b k at) e c))
      ]
