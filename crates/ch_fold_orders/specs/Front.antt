-- Which rows of words dominate which, by some of their words.
use Rattle.std.specs.Prelude.{ℤ, pos, Bool, not, ◌&&◌, if◌then◌else◌, List, [], ◌∷◌, ◌++◌, filter, slice_index_or}
use Rattle.std.specs.List.{list_any, list_all}
use Rattle.std.specs.declared.cmp.Ordering.{Ordering}
use Rattle.std.specs.Ordering.{int_cmp, is_le, is_lt}
use Rattle.ch_lists.specs.Ordered.{directed}
use Rattle.ch_fold_orders.specs.declared.front.Axis.{Axis}

-- how two rows compare in one of their words; the better one is less
abbrev pub axis_cmp : List ℤ → List ℤ → Axis → Ordering
axis_cmp a b axis = directed axis.max int_cmp (slice_index_or a axis.place (pos 0)) (slice_index_or b axis.place (pos 0))

abbrev pub is_over : List Axis → List ℤ → List ℤ → Bool
is_over axes a b = list_all (λ x. is_le (axis_cmp a b x)) axes && list_any (λ x. is_lt (axis_cmp a b x)) axes

-- the rows that none dominates, with one more
abbrev pub with_point : {X : Type 0} → (X → X → Bool) → List X → X → List X
with_point over front x = if list_any (λ s. over s x) front then front else filter (λ s. not (over x s)) front ++ x ∷ []
