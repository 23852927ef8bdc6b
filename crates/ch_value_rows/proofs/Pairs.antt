-- A pair of rows of one word each.
use Rattle.std.proofs.Common.{ℕ, zero, suc, Bool, true, false, cond, eqb, List, [], ◌∷◌, length, arith}
use Rattle.std.specs.Prelude.{ℤ, pos, slice_index_or, ◌≤ℤ◌, ◌<ℤ◌}
use Rattle.std.proofs.lemmas.Int.{ints}
use Rattle.ch_pred.specs.Meaning.{both}
use Rattle.ch_pred.specs.Sound.{carried_of, place_in}
use Rattle.ch_pred.specs.declared.bound.Bound.{Bound}
use Rattle.ch_words.specs.Rows.{words_seen}
use Rattle.ch_word_cells.specs.Fits.{WordsFit}

module _ (size : ℕ) where
  abbrev IsRank : ℤ → Type 0
  IsRank w = (pos 0 ≤ℤ w) × (w <ℤ pos size)

  one_rank : (w : ℤ) (place : ℕ) → IsRank w → IsRank (slice_index_or (w ∷ []) place (pos 0))
  one_rank w zero r = r
  one_rank w (suc place) r = let low = r.0 in let high = r.1 in (grind (arith, ints), grind (arith, ints, low, high))

  either_rank : (first : Bool) (x y : ℤ) (place : ℕ) → IsRank x → IsRank y → IsRank (cond first (slice_index_or (x ∷ []) place (pos 0)) (slice_index_or (y ∷ []) place (pos 0)))
  either_rank true x y place r s = one_rank x place r
  either_rank false x y place r s = one_rank y place s

pub pair_fits : (texts : List (List ℕ)) (x y : ℤ) → IsRank (length texts) x → IsRank (length texts) y → (b : Bound) → WordsFit texts b (both (words_seen b (x ∷ [])) (words_seen b (y ∷ [])))
pair_fits texts x y r s b side at h k = either_rank (length texts) (eqb side 0) x y (place_in (carried_of b side) at) r s
