-- The number of different columns, counted one by one.
use Rattle.std.proofs.Common.{◌≡◌, ℕ, suc, Bool, true, false, List, [], ◌∷◌, length, refl, sym, ◌∙◌, ap}
use Rattle.std.specs.Prelude.{if◌then◌else◌}
use Rattle.std.specs.List.{list_any}
use Rattle.ch_pred.specs.declared.pred.Col.{Col}
use Rattle.ch_places.specs.Different.{different, inserted, is_same_col}
use Rattle.ch_places.proofs.Kept.{length_inserted}

abbrev pub counted : List Col → ℕ
counted [] = 0
counted (c ∷ cols) = if list_any (is_same_col c) cols then counted cols else suc (counted cols)

pub counted_length : (cols : List Col) → counted cols ≡ length (different cols)
counted_length [] = refl
counted_length (c ∷ cols) = go (list_any (is_same_col c) cols) (counted_length cols)
  where
    go : (t : Bool) → counted cols ≡ length (different cols) → (if t then counted cols else suc (counted cols)) ≡ length (if t then different cols else inserted c (different cols))
    go true ih = ih
    go false ih = ap suc ih ∙ sym (length_inserted c (different cols))
