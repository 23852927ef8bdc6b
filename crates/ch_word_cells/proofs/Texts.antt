-- The text of a rank, and a pair of a row with itself.
use Rattle.std.proofs.Common.{◌≡◌, ℕ, zero, suc, Bool, true, false, cond, eqb, List, [], ◌∷◌, Some, slice_get, refl, ap, sym, subst}
use Rattle.std.specs.Prelude.{ℤ, pos}
use Rattle.ch_cells.specs.declared.Cell.TheVariants as cell
use Rattle.ch_pred.specs.Values.{View}
use Rattle.ch_pred.specs.Meaning.{both}
use Rattle.ch_words.specs.Ranks.{text_at, text_cell}

pub text_there : (last : List ℕ) (texts : List (List ℕ)) (rank : ℕ) (text : List ℕ) → slice_get texts rank ≡ Some text → text_at last texts rank ≡ text
text_there last [] rank text e = cc
text_there last (t ∷ ts) zero text e = cc
text_there last (t ∷ ts) (suc rank) text e = text_there t ts rank text e

pub lent : (texts : List (List ℕ)) (w : ℤ) (rank : ℕ) (text : List ℕ) → pos rank ≡ w → slice_get texts rank ≡ Some text → cell.Text text ≡ text_cell texts w
lent texts w rank text e g = subst (λ (x : ℤ). cell.Text text ≡ text_cell texts x) e (ap cell.Text (sym (text_there [] texts rank text g)))

-- a row paired with itself is that row
pub both_same : (v : View ℤ) → v ≡ both v v
both_same v = λ i side at. go (eqb side 0) side at i
  where
    go : (t : Bool) (side at : ℕ) → v side at ≡ cond t (v side at) (v side at)
    go true side at = refl
    go false side at = refl
