-- The policy of a plan, its program and its number of passes, by the query and the profile alone. A query's filter doesn't enter: the bit
-- of a row says whether it holds.
use Rattle.std.specs.Prelude.{ℕ, ◌+◌, ℤ, Bool, List, [], map, slice_index_or, Option, Some, None}
use Rattle.ch_cover.specs.Rows.{Policy}
use Rattle.ch_ir.specs.declared.profile.Profile.{Profile}
use Rattle.ch_ir.specs.declared.program.Program.{Program}
use Rattle.ch_places.specs.Different.{different}
use Rattle.ch_pred.specs.Named.{printed_cols}
use Rattle.ch_pred.specs.Sound.{place_in}
use Rattle.ch_pred.specs.declared.bound.Bound.{Bound}
use Rattle.ch_pred.specs.declared.bound.Dim.{Dim}
use Rattle.ch_pred.specs.declared.bound.Printed.{Printed}
use Rattle.ch_pred.specs.declared.bound.Shape.{Shape}
use Rattle.ch_pred.specs.declared.bound.Shape.TheVariants as shape
use Rattle.ch_pred.specs.declared.pred.Col.{Col}
use Rattle.ch_prune.specs.Filtering.{filter_program}
use Rattle.ch_words.specs.Policies.{by_bit}
use Rattle.op_bloom.specs.declared.sizes.Sizes as filters
use Rattle.op_distinct.specs.Program.{distinct_program}
use Rattle.op_distinct.specs.Serving.{distinct_policy}
use Rattle.op_distinct.specs.Sizes as distinct
use Rattle.op_group.specs.Policy.{group_policy}
use Rattle.op_group.specs.Program.{group_program}
use Rattle.op_group.specs.Sizes as group
use Rattle.op_having.specs.Policy as having_policy
use Rattle.op_having.specs.Program as having_program
use Rattle.op_having.specs.declared.sizes.Sizes as having
use Rattle.op_join.specs.Policy as join_policy
use Rattle.op_join.specs.Program as join_program
use Rattle.op_semi.specs.Policy as semi_policy
use Rattle.op_semi.specs.Program as semi_program
use Rattle.op_semi.specs.declared.sizes.Sizes as semi
use Rattle.op_skyline.specs.Emitted.{skyline_program}
use Rattle.op_skyline.specs.Policy.{skyline_policy}
use Rattle.op_skyline.specs.declared.sizes.Sizes as skyline
use Rattle.op_topn.specs.Emitted.{top_program}
use Rattle.op_topn.specs.Policy.{top_policy}
use Rattle.op_topn.specs.declared.sizes.Sizes as top
use Rattle.ch_plan.specs.Needs.{greatest_length}

-- the place of a column's word in a row that is sent, by the columns that each table carries
abbrev pub place_by : List (List ℕ) → Col → ℕ
place_by carried c = place_in (slice_index_or carried c.side []) c.at + 3

-- the places of a key: its different columns, ascending by their places in the header
abbrev pub key_by : List (List ℕ) → List Col → List ℕ
key_by carried cols = map (place_by carried) (different cols)

-- the place of what is summed
abbrev pub sum_by : List (List ℕ) → Option Col → Option ℕ
sum_by carried None = None
sum_by carried (Some c) = Some (place_by carried c)

-- the sizes of each operator

abbrev pub distinct_sizes : List (List ℕ) → Profile → List Col → distinct.Sizes
distinct_sizes carried profile cols = record {
  width = greatest_length carried + 3;
  rows = profile.distinct_rows;
  cols = profile.distinct_cols;
  key = key_by carried cols;
}

abbrev pub top_sizes : List (List ℕ) → Profile → Col → Bool → ℕ → top.Sizes
top_sizes carried profile by descending limit = record {
  width = greatest_length carried + 3;
  steps = profile.top_steps;
  gap = profile.top_gap;
  value = place_by carried by;
  descending = descending;
  limit = limit;
}

abbrev pub group_sizes : List (List ℕ) → Profile → List Col → Bool → Col → group.Sizes
group_sizes carried profile keys is_max value = record {
  width = greatest_length carried + 3;
  rows = profile.group_rows;
  cols = profile.group_cols;
  key = key_by carried keys;
  value = place_by carried value;
  is_max = is_max;
}

abbrev pub having_sizes : List (List ℕ) → Profile → List Col → Option Col → ℤ → having.Sizes
having_sizes carried profile keys sum above = record {
  width = greatest_length carried + 3;
  hashes = profile.sketch_hashes;
  cells = profile.sketch_cells;
  keys = key_by carried keys;
  value = sum_by carried sum;
  above = above;
}

abbrev pub filter_sizes : List (List ℕ) → Profile → Col → Col → filters.Sizes
filter_sizes carried profile left right = record {
  width = greatest_length carried + 3;
  hashes = profile.bloom_hashes;
  cells = profile.bloom_cells;
  left = place_by carried left;
  right = place_by carried right;
}

abbrev pub skyline_sizes : List (List ℕ) → Profile → List Dim → skyline.Sizes
skyline_sizes carried profile dims = record {
  width = greatest_length carried + 3;
  points = profile.skyline_points;
  places = map (λ k. place_by carried k.col) dims;
  max = map (λ k. k.max) dims;
}

abbrev pub semi_sizes : List (List ℕ) → Profile → Col → Col → semi.Sizes
semi_sizes carried profile key inner = record {
  bloom = filter_sizes carried profile key inner;
  rows = profile.distinct_rows;
  cols = profile.distinct_cols;
}

abbrev pub policy_by : List (List ℕ) → List Printed → Profile → Shape → Policy
policy_by carried printed profile shape.Filter = by_bit
policy_by carried printed profile shape.Distinct = distinct_policy (distinct_sizes carried profile (printed_cols printed))
policy_by carried printed profile (shape.Top by descending limit) = top_policy (top_sizes carried profile by descending limit)
policy_by carried printed profile (shape.Group keys max value) = group_policy (group_sizes carried profile keys max value)
policy_by carried printed profile (shape.Having keys sum above) = having_policy.prunes (having_sizes carried profile keys sum above)
policy_by carried printed profile (shape.Join left right) = join_policy.prunes (filter_sizes carried profile left right)
policy_by carried printed profile (shape.Skyline dims) = skyline_policy (skyline_sizes carried profile dims)
policy_by carried printed profile (shape.Semi key inner) = semi_policy.prunes (semi_sizes carried profile key inner)

-- the rows that the plan of a query prunes
abbrev pub policy_of : Bound → Profile → Policy
policy_of b profile = policy_by b.carried b.printed profile b.shape

abbrev pub program_by : List (List ℕ) → List Printed → Profile → Shape → Program
program_by carried printed profile shape.Filter = filter_program (greatest_length carried + 3)
program_by carried printed profile shape.Distinct = distinct_program (distinct_sizes carried profile (printed_cols printed))
program_by carried printed profile (shape.Top by descending limit) = top_program (top_sizes carried profile by descending limit)
program_by carried printed profile (shape.Group keys max value) = group_program (group_sizes carried profile keys max value)
program_by carried printed profile (shape.Having keys sum above) = having_program.program (having_sizes carried profile keys sum above)
program_by carried printed profile (shape.Join left right) = join_program.program (filter_sizes carried profile left right)
program_by carried printed profile (shape.Skyline dims) = skyline_program (skyline_sizes carried profile dims)
program_by carried printed profile (shape.Semi key inner) = semi_program.program (semi_sizes carried profile key inner)

-- the program that has these verdicts
abbrev pub program_of : Bound → Profile → Program
program_of b profile = program_by b.carried b.printed profile b.shape

-- in how many passes it processes the rows
abbrev pub passes_of : Shape → ℕ
passes_of shape.Filter = 1
passes_of shape.Distinct = 1
passes_of (shape.Top by descending limit) = 1
passes_of (shape.Group keys max value) = 1
passes_of (shape.Having keys sum above) = 2
passes_of (shape.Join left right) = 2
passes_of (shape.Skyline dims) = 1
passes_of (shape.Semi key inner) = 2
