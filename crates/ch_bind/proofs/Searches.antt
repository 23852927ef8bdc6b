-- Searches by place, from the place that a loop has come to.
use Rattle.std.proofs.Common.{◌≡◌, ◌∙◌, ap, sym, refl, ℕ, suc, ◌+◌, ◌<◌, Bool, true, false, cond, ltb, lt-ltb, inl, inr, List, [], ◌∷◌, length, map, get_or, drop, Option, Some, None, slice_get, drop-cons, add-one, arith}
use Rattle.std.proofs.lemmas.Option.{get_or_from_slice_get}
use Rattle.std.proofs.lemmas.Bool.{cases_lt, le-ltb}
use Rattle.std.specs.List.{position_or_len}
use Rattle.std.specs.Prelude.{pos, bytes_eq, option_map, position}
use Rattle.ch_cells.specs.declared.cell.Cell.{Cell}
use Rattle.ch_cells.specs.declared.cell.Cell.TheVariants as cell
use Rattle.ch_bind.specs.First.{first_from}
use Rattle.ch_bind.specs.Sums.{is_negative, has_negative}

pub first_step : {X : Type 0} (passes : X → Bool) (xs : List X) (k : ℕ) (d : X) (b : Bool) → k < length xs → passes (get_or xs k d) ≡ b
    → first_from passes k (drop k xs) ≡ cond b (Some k) (first_from passes (k + 1) (drop (k + 1) xs))
first_step passes xs k d b h e = rw (drop-cons xs k d, add-one) (ap (λ t. cond t (Some k) (first_from passes (suc k) (drop (suc k) xs))) e)

pub negative_at : (row : List Cell) (at : ℕ) (c : Cell) (b : Bool) → slice_get row at ≡ Some c → b ≡ is_negative c → has_negative at row ≡ b
negative_at row at c b e h = ap is_negative (get_or_from_slice_get row at c (cell.Number (pos 0)) e) ∙ sym h

shift : (k : ℕ) (o : Option ℕ) → option_map (λ i. k + 1 + i) o ≡ option_map (λ i. k + i) (option_map suc o)
shift k None = refl
shift k (Some i) = ap Some (omega arith)

-- one place later in a list that is one item longer
later : (p l : ℕ) → cond (ltb (1 + p) (suc l)) (Some (1 + p)) None ≡ option_map suc (cond (ltb p l) (Some p) None)
later p l = elim (cases_lt p l) [
  | inl h ↦ rw (lt-ltb (1 + p) (suc l) (omega arith), lt-ltb p l h) (ap Some (omega arith))
  | inr h ↦ rw (le-ltb (1 + p) (suc l) (omega arith), le-ltb p l h) refl
]

module _ {X : Type 0} (f : X → List ℕ) where
  -- a search by place is the search of a list of keys
  pub first_from-position : (text : List ℕ) (k : ℕ) (xs : List X) → first_from (bytes_eq text) k (map f xs) ≡ option_map (λ i. k + i) (position (λ x. bytes_eq text (f x)) xs)
  first_from-position text k [] = refl
  first_from-position text k (x ∷ xs) = by (bytes_eq text (f x)) refl (first_from-position text (k + 1) xs)
    where
      by : (b : Bool) → bytes_eq text (f x) ≡ b → first_from (bytes_eq text) (k + 1) (map f xs) ≡ option_map (λ i. k + 1 + i) (position (λ y. bytes_eq text (f y)) xs)
          → first_from (bytes_eq text) k (map f (x ∷ xs)) ≡ option_map (λ i. k + i) (position (λ y. bytes_eq text (f y)) (x ∷ xs))
      by true e h =
          let here : k ≡ k + 0 = omega arith in
          rw e (ap Some here ∙ sym (ap (λ b. option_map (λ i. k + i) (cond b (Some 0) None)) (lt-ltb 0 (suc (length xs)) (omega arith))))
      by false e h = rw e (h ∙ (shift k (position (λ y. bytes_eq text (f y)) xs) ∙ sym (ap (option_map (λ i. k + i)) (later (position_or_len (λ y. bytes_eq text (f y)) xs) (length xs)))))
