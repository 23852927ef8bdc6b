-- The rows of packets as rows of a query: which word is which column's, and what the bit says.
use Rattle.std.specs.Prelude.{◌≡◌, ℕ, ◌==◌, Bool, true, ◌&&◌, List, [], map, filter, slice_index_or, ℤ, pos, if◌then◌else◌}
use Rattle.ch_cover.specs.Rows.{Row, same_bit}
use Rattle.ch_pred.specs.Values.{View}
use Rattle.ch_pred.specs.Meaning.{Asked, both, answer_to, of_held, in_order}
use Rattle.ch_pred.specs.Sound.{carried_of, has_one_table, place_in}
use Rattle.ch_pred.specs.declared.bound.Bound.{Bound}
use Rattle.ch_pred.specs.declared.bound.Shape.{Shape}
use Rattle.ch_pred.specs.declared.bound.Shape.TheVariants as shape
use Rattle.ch_words.specs.Words.{Reading, asked_of_words}

-- the words of a row as a row of the query: the word of each carried column
abbrev pub words_seen : Bound → List ℤ → View ℤ
words_seen b ws side at = slice_index_or ws (place_in (carried_of b side) at) (pos 0)

-- kept shut, so that a proof can name it
unfoldable pub row_seen : Bound → Row → View ℤ
row_seen b r = words_seen b r.words

abbrev pub side_seen : Bound → ℕ → List Row → List (View ℤ)
side_seen b side rows = map (row_seen b) (filter (λ r. r.side == side) rows)

-- the answer over rows of packets, as words
abbrev pub answer_over : Reading → Bound → List Row → List (List ℤ)
answer_over d b rows = answer_to (asked_of_words d b) (side_seen b 0 rows) (side_seen b 1 rows)

-- the gate of a row of each side
abbrev pub Gate : Type 0
Gate = ℕ → View ℤ → Bool

abbrev pub IsSameGate : Asked ℤ → Gate → Type 0
IsSameGate q gate = (v : View ℤ) → gate 0 v ≡ q.holds v

-- For one table the gate is whether the row holds. In a join it holds of both rows of each pair that holds. In a semi-join
-- it is whether an outer row holds, and it holds of every inner row
abbrev pub GateFits : Gate → Asked ℤ → Shape → Type 0
GateFits gate q shape.Filter = IsSameGate q gate
GateFits gate q shape.Distinct = IsSameGate q gate
GateFits gate q (shape.Top by descending limit) = IsSameGate q gate
GateFits gate q (shape.Group keys max value) = IsSameGate q gate
GateFits gate q (shape.Having keys sum above) = IsSameGate q gate
GateFits gate q (shape.Join left right) = (v w : View ℤ) → q.holds (both v w) ≡ true → (gate 0 v ≡ true) × (gate 1 w ≡ true)
GateFits gate q (shape.Skyline dims) = IsSameGate q gate
GateFits gate q (shape.Semi key within) = IsSameGate q gate × ((v : View ℤ) → gate 1 v ≡ true)

-- a row is of a table of the query, and its bit is its gate
abbrev pub is_sided : Shape → Row → Bool
is_sided s r = if has_one_table s then r.side == 0 else if r.side == 0 then true else r.side == 1

abbrev pub is_gated : Gate → Bound → Row → Bool
is_gated gate b r = is_sided b.shape r && same_bit r.bit (gate r.side (row_seen b r))

-- the rows of one table that hold are those whose bit is set
abbrev pub open_seen : Bound → List Row → List (View ℤ)
open_seen b rows = map (row_seen b) (filter (λ r. r.bit) rows)

-- what the kind makes of them, in the order of the answer
abbrev pub answer_of_open : Reading → Bound → List Row → List (List ℤ)
answer_of_open d b rows =
    let q = asked_of_words d b in
    in_order q.values.compare b.shape (of_held b.shape q (open_seen b rows) [])
