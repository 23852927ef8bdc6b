-- Places of words in rows.
use Rattle.std.specs.Prelude.{ℕ, zero, suc, List, [], ◌∷◌, ◌++◌}
use Rattle.ch_pred.specs.Sound.{carried_of, place_in}
use Rattle.ch_pred.specs.declared.bound.Bound.{Bound}
use Rattle.ch_pred.specs.declared.pred.Col.{Col}

-- where the word of a column stands in a row
abbrev pub place_of : Bound → Col → ℕ
place_of b c = place_in (carried_of b c.side) c.at

-- the first so many places
abbrev pub firsts : ℕ → List ℕ
firsts zero = []
firsts (suc n) = firsts n ++ n ∷ []

-- the place of a key, and the first places
abbrev pub keyed_places : Bound → Col → ℕ → List ℕ
keyed_places b key n = place_of b key ∷ firsts n
