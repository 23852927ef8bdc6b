-- What Having prunes: each row in the first pass; in the second each row whose bit isn't set or whose key's estimate isn't
-- above.
use Rattle.std.specs.Prelude.{ℕ, zero, suc, ◌==◌, ℤ, pos, int_le, Bool, not, ◌&&◌, ◌||◌, List, map, filter, Option, Some, None}
use Rattle.std.specs.Int.{int_min}
use Rattle.ch_cover.specs.Rows.{Row, Policy}
use Rattle.ch_ir.specs.Hash.{hash_of}
use Rattle.ch_pred.specs.Meaning.{total}
use Rattle.op_moves.specs.Values.{word_at}
use Rattle.op_having.specs.declared.sizes.Sizes.{Sizes}

abbrev pub key_of : Sizes → Row → List ℤ
key_of d r = map (word_at r) d.keys

-- the summed word of a row, and 1 for COUNT
abbrev pub amount_at : Option ℕ → Row → ℤ
amount_at None r = pos 1
amount_at (Some p) r = word_at r p

-- the i-th cell of a key
abbrev pub cell_of : Sizes → ℕ → List ℤ → ℕ
cell_of d i k = hash_of i k d.cells

-- a row of the first pass whose bit is set and whose key has this i-th cell
abbrev pub shares : Sizes → ℕ → ℕ → ℕ × Row → Bool
shares d i c x = (x.0 == 1) && (x.1.bit && (cell_of d i (key_of d x.1) == c))

abbrev pub cell_sum : Sizes → List (ℕ × Row) → ℕ → ℕ → ℤ
cell_sum d before i c = total (map (λ x. amount_at d.value x.1) (filter (shares d i c) before))

abbrev pub largest : ℤ
largest = pos 9223372036854775807

-- the least of the first n sums, each cut at the largest word
abbrev pub least : (ℕ → ℤ) → ℕ → ℤ
least sums zero = largest
least sums (suc i) = int_min (int_min largest (sums i)) (least sums i)

abbrev pub estimate : Sizes → List (ℕ × Row) → List ℤ → ℤ
estimate d before k = least (λ i. cell_sum d before i (cell_of d i k)) d.hashes

abbrev pub prunes : Sizes → Policy
prunes d before x = (x.0 == 1) || (not x.1.bit || int_le (estimate d before (key_of d x.1)) d.above)
