-- Rows that arrived, one after another.
use Rattle.std.proofs.Common.{◌≡◌, ◌<◌, ℕ, zero, suc, true, List, [], ◌∷◌, ◌++◌, map, length, refl, ap, arith, inl, inr}
use Rattle.std.specs.Prelude.{slice_index_or}
use Rattle.ch_lists.specs.Members.{In}
use Rattle.ch_cover.specs.Rows.{Row}
use Rattle.ch_finish.specs.Received.{AreRowsOf, IsRowOf}
use Rattle.ch_finish.specs.declared.received.Arrived.{Arrived}

-- one of the rows that it may be
abbrev pub row_of : Arrived → Row
row_of a = record { side = a.side; bit = true; words = a.words }

pub some_rows : (received : List Arrived) → AreRowsOf received (map row_of received)
some_rows [] = tt
some_rows (a ∷ received) = (record { side = refl; words = refl }, some_rows received)

pub last_row : (received : List Arrived) (a : Arrived) (given : List Row) → AreRowsOf (received ++ a ∷ []) given → (before : List Row) × (r : Row) × AreRowsOf received before × IsRowOf a r × (given ≡ before ++ r ∷ [])
last_row [] a [] z = absurd z
last_row [] a (r ∷ []) z = ([], r, tt, z.0, refl)
last_row [] a (r ∷ q ∷ given) z = absurd z.1
last_row (x ∷ received) a [] z = absurd z
last_row (x ∷ received) a (q ∷ given) z =
    let l = last_row received a given z.1 in
    (q ∷ l.0, l.1, (z.0, l.2), l.3, ap (λ rs. q ∷ rs) l.4)

pub no_rows : (given : List Row) → AreRowsOf [] given → given ≡ []
no_rows [] z = refl
no_rows (r ∷ given) z = absurd z

pub item_In : {X : Type 0} (xs : List X) (d : X) (i : ℕ) → i < length xs → In (slice_index_or xs i d) xs
item_In [] d i h = absurd (omega arith)
item_In (x ∷ xs) d zero h = inl refl
item_In (x ∷ xs) d (suc i) h = inr (item_In xs d i (omega arith))
