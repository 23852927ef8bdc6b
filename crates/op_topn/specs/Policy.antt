-- What ORDER BY with LIMIT prunes: a value that enough earlier ones are above.
use Rattle.std.specs.Prelude.{ℕ, zero, suc, ◌-◌, ◌*◌, ◌^◌, nat_lt, nat_le, ℤ, pos, neg_ℤ, ◌+ℤ◌, int_lt, int_le, Bool, false, not, ◌&&◌, ◌||◌, if◌then◌else◌, List, [], ◌∷◌, map, filter, reverse, length, take, drop, count_by}
use Rattle.std.specs.Int.{int_min}
use Rattle.ch_cover.specs.Rows.{Policy, Row}
use Rattle.op_moves.specs.Values.{word_at}
use Rattle.op_topn.specs.declared.sizes.Sizes.{Sizes}

-- values are negated for ASC
abbrev pub oriented : Bool → ℤ → ℤ
oriented descending v = if descending then v else neg_ℤ v

abbrev pub value_of : Sizes → Row → ℤ
value_of s r = oriented s.descending (word_at r s.value)

-- the values of the rows before whose bit is set, the oldest first
abbrev pub values : Sizes → List (ℕ × Row) → List ℤ
values s before = reverse (map (λ x. value_of s x.1) (filter (λ x. x.1.bit) before))

-- the least of some values; 0 where there are none
abbrev pub least : List ℤ → ℤ
least [] = pos 0
least (v ∷ []) = v
least (v ∷ w ∷ vs) = int_min v (least (w ∷ vs))

-- how many values are at least the bound
abbrev pub reached : ℤ → List ℤ → ℕ
reached t vs = count_by (λ v. int_le t v) vs

-- how far the i-th threshold stands above the least of the first values
abbrev pub distance : ℕ → ℕ → ℕ
distance gap i = gap * (2 ^ i - 1)

abbrev pub threshold : Sizes → List ℤ → ℕ → ℤ
threshold s vs i = least (take s.limit vs) +ℤ pos (distance s.gap i)

-- the value is below the i-th threshold, and as many values as are printed, of those after the first, reach it
abbrev pub step_prunes : Sizes → List ℤ → ℤ → ℕ → Bool
step_prunes s vs v i = nat_le s.limit (reached (threshold s vs i) (drop s.limit vs)) && int_lt v (threshold s vs i)

-- one of the steps 1 to k does
abbrev pub some_step : Sizes → List ℤ → ℤ → ℕ → Bool
some_step s vs v zero = false
some_step s vs v (suc k) = step_prunes s vs v (suc k) || some_step s vs v k

-- where fewer values came before than are printed, none is pruned
abbrev pub value_prunes : Sizes → List ℤ → ℤ → Bool
value_prunes s vs v = not (nat_lt (length vs) s.limit) && (int_lt v (least (take s.limit vs)) || some_step s vs v s.steps)

abbrev pub top_policy : Sizes → Policy
top_policy s before x = not x.1.bit || value_prunes s (values s before) (value_of s x.1)
