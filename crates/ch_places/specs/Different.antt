-- The different columns of a list.
use Rattle.std.specs.Prelude.{◌==◌, nat_lt, Bool, ◌&&◌, if◌then◌else◌, List, [], ◌∷◌}
use Rattle.std.specs.List.{list_any}
use Rattle.ch_pred.specs.declared.pred.Col.{Col}

abbrev pub is_same_col : Col → Col → Bool
is_same_col c e = (c.side == e.side) && (c.at == e.at)

-- a column where it belongs among columns that ascend by their places in the header
abbrev pub inserted : Col → List Col → List Col
inserted c [] = c ∷ []
inserted c (e ∷ cols) = if nat_lt c.at e.at then c ∷ e ∷ cols else e ∷ inserted c cols

-- each different column once, ascending by its place in the header
abbrev pub different : List Col → List Col
different [] = []
different (c ∷ cols) = if list_any (is_same_col c) cols then different cols else inserted c (different cols)
