-- What GROUP BY with MAX or MIN prunes.
use Rattle.std.specs.Prelude.{ℕ, ◌-◌, ◌==◌, nat_lt, ℤ, neg_ℤ, int_lt, int_le, Bool, not, ◌&&◌, ◌||◌, if◌then◌else◌, List, [], ◌∷◌, ◌++◌, map, length, take}
use Rattle.std.specs.List.{list_any}
use Rattle.std.specs.Ordering.{int_cmp, is_eq}
use Rattle.std.specs.Cmp.Lexicographic.{slice_cmp}
use Rattle.ch_cover.specs.Rows.{Policy, Row}
use Rattle.ch_ir.specs.Hash.{hash_of}
use Rattle.ch_words.specs.Policies.{Key}
use Rattle.op_moves.specs.Values.{word_at}
use Rattle.op_group.specs.Sizes.{Sizes}

-- a listed key with its best
pub record Pair : Type 0 where
  pub key : Key
  pub best : ℤ

abbrev pub is_key : Key → Key → Bool
is_key k x = is_eq (slice_cmp int_cmp x k)

abbrev pub is_listed : Key → List Pair → Bool
is_listed k ps = list_any (λ p. is_key k p.key) ps

-- the key is listed with a best of at least the value
abbrev pub is_beaten : Key → ℤ → List Pair → Bool
is_beaten k v ps = list_any (λ p. is_key k p.key && int_le v p.best) ps

-- the key with a smaller best takes the value in place
abbrev pub raised : Key → ℤ → Pair → Pair
raised k v p = if is_key k p.key && int_lt p.best v then record { key = p.key; best = v } else p

-- an unlisted key is appended while there is room, otherwise it replaces the last pair
abbrev pub placed : ℕ → Key → ℤ → List Pair → List Pair
placed cols k v ps =
    if is_listed k ps then map (raised k v) ps
    else if nat_lt (length ps) cols then ps ++ record { key = k; best = v } ∷ []
    else take (cols - 1) ps ++ record { key = k; best = v } ∷ []

-- values are negated for MIN
abbrev pub oriented : Bool → ℤ → ℤ
oriented is_max v = if is_max then v else neg_ℤ v

abbrev pub key_of : Sizes → Row → Key
key_of s r = map (word_at r) s.key

abbrev pub value_of : Sizes → Row → ℤ
value_of s r = oriented s.is_max (word_at r s.value)

abbrev pub hash_row : Sizes → Key → ℕ
hash_row s k = hash_of 0 k s.rows

-- the pairs of a hash row, after the rows that were processed before, the newest first
abbrev pub pairs_after : Sizes → List (ℕ × Row) → ℕ → List Pair
pairs_after s [] i = []
pairs_after s (x ∷ before) i =
    if x.1.bit && (hash_row s (key_of s x.1) == i) then placed s.cols (key_of s x.1) (value_of s x.1) (pairs_after s before i) else pairs_after s before i

-- a row is pruned where its bit isn't set, or its key is listed with a best of at least its value
abbrev pub group_policy : Sizes → Policy
group_policy s before x = not x.1.bit || is_beaten (key_of s x.1) (value_of s x.1) (pairs_after s before (hash_row s (key_of s x.1)))
