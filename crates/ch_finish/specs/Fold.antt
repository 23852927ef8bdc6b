-- When a fold stands for a list of rows, and how much is kept of them.
use Rattle.std.specs.Prelude.{ℕ, ◌+◌, List, map, min, length}
use Rattle.std.specs.Ordering.{int_cmp}
use Rattle.std.specs.Cmp.Lexicographic.{slice_cmp}
use Rattle.ch_lists.specs.Ordered.{once}
use Rattle.ch_cover.specs.Rows.{Row}
use Rattle.ch_pred.specs.Meaning.{at, at_each}
use Rattle.ch_pred.specs.declared.bound.Bound.{Bound}
use Rattle.ch_pred.specs.declared.bound.Shape.{Shape}
use Rattle.ch_pred.specs.declared.bound.Shape.TheVariants as shape
use Rattle.ch_words.specs.Rows.{answer_over, side_seen}
use Rattle.ch_fold_lines.specs.Rows.{held, held_lines, reading}
use Rattle.ch_fold_groups.specs.Group.{StandsForGroup}
use Rattle.ch_fold_groups.specs.Having.{StandsForHaving}
use Rattle.ch_fold_lines.specs.Distinct.{StandsForDistinct}
use Rattle.ch_fold_lines.specs.Filter.{StandsForFilter}
use Rattle.ch_fold_orders.specs.Skyline.{StandsForSkyline}
use Rattle.ch_fold_orders.specs.Top.{StandsForTop}
use Rattle.ch_fold_pairs.specs.Join.{StandsForJoin}
use Rattle.ch_fold_pairs.specs.Semi.{StandsForSemi}
use Rattle.ch_finish.specs.declared.fold.Fold.{Fold}
use Rattle.ch_finish.specs.declared.fold.Kept.{Kept}
use Rattle.ch_finish.specs.declared.fold.Kept.TheVariants as kept

-- each kind's relation says that the query is of this kind
abbrev pub StandsForKept : List (List ℕ) → Bound → Kept → List Row → Type 0
StandsForKept texts b (kept.Filter f) rows = StandsForFilter texts b f rows
StandsForKept texts b (kept.Distinct f) rows = StandsForDistinct texts b f rows
StandsForKept texts b (kept.Top f) rows = StandsForTop texts b f rows
StandsForKept texts b (kept.Group f) rows = StandsForGroup texts b f rows
StandsForKept texts b (kept.Having f) rows = StandsForHaving texts b f rows
StandsForKept texts b (kept.Join f) rows = StandsForJoin texts b f rows
StandsForKept texts b (kept.Skyline f) rows = StandsForSkyline texts b f rows
StandsForKept texts b (kept.Semi f) rows = StandsForSemi texts b f rows

abbrev pub StandsFor : List (List ℕ) → Bound → Fold → List Row → Type 0
StandsFor texts b fold rows = StandsForKept texts b fold.kept rows

-- how many entries are kept of some rows
abbrev pub kept_size : List (List ℕ) → Bound → Shape → List Row → ℕ
kept_size texts b shape.Filter rows = length (held texts b rows)
kept_size texts b shape.Distinct rows = length (once (slice_cmp int_cmp) (held_lines texts b rows))
kept_size texts b (shape.Top by descending limit) rows = min limit (length (held texts b rows))
kept_size texts b (shape.Group keys max value) rows = length (once (slice_cmp int_cmp) (map (λ r. at_each r keys) (held texts b rows)))
kept_size texts b (shape.Having keys sum above) rows = length (once (slice_cmp int_cmp) (map (λ r. at_each r keys) (held texts b rows)))
kept_size texts b (shape.Join left right) rows = length (side_seen b 0 rows) + length (side_seen b 1 rows)
kept_size texts b (shape.Skyline dims) rows = length (answer_over (reading texts b) b rows)
kept_size texts b (shape.Semi key inner) rows = length (held texts b rows) + length (once int_cmp (map (λ r. at r inner) (side_seen b 1 rows)))
