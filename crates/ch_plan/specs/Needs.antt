-- What a plan needs of each limit, by the query and the profile alone, and the first limit that it exceeds.
use Rattle.std.specs.Prelude.{ℕ, ◌+◌, ◌*◌, max, nat_lt, if◌then◌else◌, List, [], ◌∷◌, length, Option, Some, None}
use Rattle.ch_ir.specs.declared.profile.Profile.{Profile}
use Rattle.ch_ir.specs.declared.rules.LimitName.{LimitName}
use Rattle.ch_ir.specs.declared.rules.LimitName.TheVariants.{Width, Cells, Words, Stages}
use Rattle.ch_pred.specs.Named.{printed_cols}
use Rattle.ch_pred.specs.declared.pred.Col.{Col}
use Rattle.ch_pred.specs.declared.bound.Bound.{Bound}
use Rattle.ch_pred.specs.declared.bound.Shape.{Shape}
use Rattle.ch_pred.specs.declared.bound.Shape.TheVariants as shape
use Rattle.ch_places.specs.Different.{different}
use Rattle.ch_prune.specs.declared.operator.Need.{Need}
use Rattle.ch_plan.specs.declared.error.PlanError.{PlanError}
use Rattle.ch_plan.specs.declared.error.PlanError.TheVariants.{Limit}

-- the greatest number of carried columns of a table
abbrev pub greatest_length : List (List ℕ) → ℕ
greatest_length [] = 0
greatest_length (columns ∷ rest) = max (length columns) (greatest_length rest)

-- the number of different columns
abbrev pub different_cols : List Col → ℕ
different_cols cols = length (different cols)

-- the number of key columns or of dimensions
abbrev pub keys_of : Bound → Shape → ℕ
keys_of b shape.Filter = 1
keys_of b shape.Distinct = different_cols (printed_cols b.printed)
keys_of b (shape.Top by descending limit) = 1
keys_of b (shape.Group keys max value) = different_cols keys
keys_of b (shape.Having keys sum above) = different_cols keys
keys_of b (shape.Join left right) = 1
keys_of b (shape.Skyline dims) = length dims
keys_of b (shape.Semi key within) = 1

-- the stages of the operator
abbrev pub stages_of : Profile → Shape → ℕ
stages_of profile shape.Filter = 0
stages_of profile shape.Distinct = profile.distinct_cols
stages_of profile (shape.Top by descending limit) = profile.top_steps + 2
stages_of profile (shape.Group keys max value) = profile.group_cols
stages_of profile (shape.Having keys sum above) = profile.sketch_hashes
stages_of profile (shape.Join left right) = profile.bloom_hashes
stages_of profile (shape.Skyline dims) = profile.skyline_points
stages_of profile (shape.Semi key within) = profile.bloom_hashes + profile.distinct_cols

-- the cells of its greatest array, where it has so many key columns or dimensions
abbrev pub cells_for : Profile → ℕ → Shape → ℕ
cells_for profile n shape.Filter = 0
cells_for profile n shape.Distinct = profile.distinct_rows * (n + 1)
cells_for profile n (shape.Top by descending limit) = 1
cells_for profile n (shape.Group keys max value) = profile.group_rows * (n + 2)
cells_for profile n (shape.Having keys sum above) = profile.sketch_cells
cells_for profile n (shape.Join left right) = 2 * profile.bloom_cells
cells_for profile n (shape.Skyline dims) = n + 2
cells_for profile n (shape.Semi key within) = max (2 * profile.bloom_cells) (2 * profile.distinct_rows)

abbrev pub need_of : Bound → Profile → Need
need_of b profile =
    let width = greatest_length b.carried + 3 in
    let n = keys_of b b.shape in
    let stages = stages_of profile b.shape in
    record { width = width; cells = cells_for profile n b.shape; words = width + 32 + stages * (n + 32); stages = 2 + stages }

-- refused where the need is above what the profile has
abbrev pub exceeds : LimitName → ℕ → ℕ → Option PlanError
exceeds which need have = if nat_lt have need then Some (Limit which need have) else None

abbrev pub or_then : Option PlanError → Option PlanError → Option PlanError
or_then None next = next
or_then (Some refused) next = Some refused

-- the first limit that the need exceeds
abbrev pub plan_refusal : Need → Profile → Option PlanError
plan_refusal need profile =
    or_then (exceeds Width need.width profile.width)
    (or_then (exceeds Cells need.cells profile.cells)
    (or_then (exceeds Words need.words profile.words) (exceeds Stages need.stages profile.stages)))
