-- What a semi-join prunes: each row in the first pass; in the second each row whose bit isn't set or that fails the Bloom
-- test, and each inner row whose key is listed.
use Rattle.std.specs.Prelude.{ℕ, ◌==◌, Bool, not, ◌&&◌, ◌||◌, if◌then◌else◌, List, [], ◌∷◌}
use Rattle.std.specs.Ordering.{int_cmp}
use Rattle.std.specs.Cmp.Lexicographic.{slice_cmp}
use Rattle.ch_lists.specs.Ordered.{is_among}
use Rattle.ch_cover.specs.Rows.{Row, Policy}
use Rattle.ch_ir.specs.Hash.{hash_of}
use Rattle.ch_words.specs.Policies.{Key, listed_after}
use Rattle.op_bloom.specs.Policy.{key_of, passes_bloom}
use Rattle.op_semi.specs.declared.sizes.Sizes.{Sizes}

-- an inner row of the second pass that passed its gate and the Bloom test
abbrev pub is_passed : Sizes → List (ℕ × Row) → ℕ × Row → Bool
is_passed d before x = (x.0 == 2) && ((x.1.side == 1) && (x.1.bit && passes_bloom d.bloom before x.1))

-- such rows of a history
abbrev pub passed : Sizes → List (ℕ × Row) → List (ℕ × Row)
passed d [] = []
passed d (x ∷ before) = if is_passed d before x then x ∷ passed d before else passed d before

abbrev pub inner_key : Sizes → Row → Key
inner_key d r = key_of d.bloom r ∷ []

abbrev pub hash_row : Sizes → Key → ℕ
hash_row d k = hash_of 0 k d.rows

-- the inner keys that a hash row lists, by the rows that passed alone
abbrev pub inner_keys : Sizes → List (ℕ × Row) → ℕ → List Key
inner_keys d before = listed_after d.cols (hash_row d) (inner_key d) (passed d before)

abbrev pub is_listed : Sizes → List (ℕ × Row) → Row → Bool
is_listed d before r = is_among (slice_cmp int_cmp) (inner_key d r) (inner_keys d before (hash_row d (inner_key d r)))

abbrev pub prunes : Sizes → Policy
prunes d before x = (x.0 == 1) || (not x.1.bit || (not (passes_bloom d.bloom before x.1) || ((x.1.side == 1) && is_listed d before x.1)))
