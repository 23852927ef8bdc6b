-- The operators of plans, by cases on the kind: policy, program, needs, and what a plan of a query is.
use Rattle.std.specs.Prelude.{◌≡◌, ◌≤◌, ℕ, Bool, true, false, List, None, length, Option, Some}
use Rattle.ch_lists.specs.Members.{Each}
use Rattle.ch_cover.specs.Rows.{Policy, Row}
use Rattle.ch_cover.specs.Cover.{CoversOnce, CoversTwice}
use Rattle.ch_ir.specs.declared.program.Program.{Program}
use Rattle.ch_ir.specs.declared.profile.Profile.{Profile}
use Rattle.ch_ir.specs.Machine.{cleared}
use Rattle.ch_pred.specs.Sound.{IsCarried}
use Rattle.ch_pred.specs.declared.bound.Bound.{Bound}
use Rattle.ch_pred.specs.declared.bound.Shape.{Shape}
use Rattle.ch_pred.specs.declared.bound.Shape.TheVariants as shape
use Rattle.ch_verdicts.specs.Agrees.{Agrees}
use Rattle.ch_words.specs.Policies.{by_bit}
use Rattle.ch_words.specs.Rows.{Gate, GateFits, answer_over}
use Rattle.ch_words.specs.Words.{Reading, asked_of_words}
use Rattle.ch_prune.specs.declared.operator.Need.{Need}
use Rattle.ch_prune.specs.Filtering.{FilterServes, filter_need, filter_program}
use Rattle.ch_prune.specs.Sent.{is_cell_word, is_sent}
use Rattle.op_having.specs.Policy as having_policy
use Rattle.op_having.specs.Program as having_program
use Rattle.op_having.specs.Serves.{HavingServes}
use Rattle.op_join.specs.Policy as join_policy
use Rattle.op_join.specs.Program as join_program
use Rattle.op_join.specs.Serves.{JoinServes}
use Rattle.op_semi.specs.Policy as semi_policy
use Rattle.op_semi.specs.Program as semi_program
use Rattle.op_semi.specs.Serves.{SemiServes}
use Rattle.op_topn.specs.Emitted.{top_program}
use Rattle.op_topn.specs.Order.{top_need}
use Rattle.op_topn.specs.Policy.{top_policy}
use Rattle.op_topn.specs.Serves.{TopServes}
use Rattle.op_skyline.specs.Emitted.{skyline_program}
use Rattle.op_skyline.specs.Order.{skyline_need}
use Rattle.op_skyline.specs.Policy.{skyline_policy}
use Rattle.op_skyline.specs.Serves.{SkylineServes}
use Rattle.op_distinct.specs.Program.{distinct_need, distinct_program}
use Rattle.op_distinct.specs.Serving.{DistinctServes, distinct_policy}
use Rattle.op_distinct.specs.Shown as distinct
use Rattle.op_group.specs.Policy.{group_policy}
use Rattle.op_group.specs.Program.{group_need, group_program}
use Rattle.op_group.specs.Serving.{GroupServes}
use Rattle.op_group.specs.Shown as group
use Rattle.ch_pred.specs.Named.{printed_cols}
use Rattle.ch_pred.specs.declared.pred.Col.{Col}
use Rattle.ch_plan.specs.declared.kind.PlanKind.{PlanKind}
use Rattle.ch_plan.specs.declared.kind.PlanKind.TheVariants as kind
use Rattle.ch_plan.specs.Needs.{need_of, plan_refusal}
use Rattle.ch_plan.specs.Policy.{passes_of, policy_of, program_of}

abbrev pub kind_policy : PlanKind → Policy
kind_policy (kind.Filter o) = by_bit
kind_policy (kind.Distinct o) = distinct_policy (distinct.sizes o)
kind_policy (kind.Top o) = top_policy o.sizes
kind_policy (kind.Group o) = group_policy (group.sizes o)
kind_policy (kind.Skyline o) = skyline_policy o.sizes
kind_policy (kind.Having o) = having_policy.prunes o.sizes
kind_policy (kind.Join o) = join_policy.prunes o.sizes
kind_policy (kind.Semi o) = semi_policy.prunes o.sizes

abbrev pub kind_program : PlanKind → Program
kind_program (kind.Filter o) = filter_program o.width
kind_program (kind.Distinct o) = distinct_program (distinct.sizes o)
kind_program (kind.Top o) = top_program o.sizes
kind_program (kind.Group o) = group_program (group.sizes o)
kind_program (kind.Skyline o) = skyline_program o.sizes
kind_program (kind.Having o) = having_program.program o.sizes
kind_program (kind.Join o) = join_program.program o.sizes
kind_program (kind.Semi o) = semi_program.program o.sizes

abbrev pub kind_needs : PlanKind → Need
kind_needs (kind.Filter o) = filter_need o.width
kind_needs (kind.Distinct o) = distinct_need (distinct.sizes o)
kind_needs (kind.Top o) = top_need o.sizes
kind_needs (kind.Group o) = group_need (group.sizes o)
kind_needs (kind.Skyline o) = skyline_need o.sizes
kind_needs (kind.Having o) = having_program.having_need o.sizes
kind_needs (kind.Join o) = join_program.join_need o.sizes
kind_needs (kind.Semi o) = semi_program.semi_need o.sizes

-- the number of ops of a stage that it was made with
abbrev pub kind_most : PlanKind → ℕ
kind_most (kind.Filter o) = o.ops
kind_most (kind.Distinct o) = o.ops
kind_most (kind.Top o) = o.ops
kind_most (kind.Group o) = o.ops
kind_most (kind.Skyline o) = o.ops
kind_most (kind.Having o) = o.ops
kind_most (kind.Join o) = o.ops
kind_most (kind.Semi o) = o.ops

-- its number of passes
abbrev pub kind_times : PlanKind → ℕ
kind_times (kind.Filter o) = 1
kind_times (kind.Distinct o) = 1
kind_times (kind.Top o) = 1
kind_times (kind.Group o) = 1
kind_times (kind.Skyline o) = 1
kind_times (kind.Having o) = 2
kind_times (kind.Join o) = 2
kind_times (kind.Semi o) = 2

-- the queries that it serves
abbrev pub kind_serves : PlanKind → Reading → Bound → Gate → Type 0
kind_serves (kind.Filter o) d b gate = FilterServes d b gate
kind_serves (kind.Distinct o) d b gate = DistinctServes (distinct.sizes o) d b gate
kind_serves (kind.Top o) d b gate = TopServes o.sizes d b gate
kind_serves (kind.Group o) d b gate = GroupServes (group.sizes o) d b gate
kind_serves (kind.Skyline o) d b gate = SkylineServes o.sizes d b gate
kind_serves (kind.Having o) d b gate = HavingServes o.sizes d b gate
kind_serves (kind.Join o) d b gate = JoinServes o.sizes d b gate
kind_serves (kind.Semi o) d b gate = SemiServes o.sizes d b gate

-- the operator is of the query's own kind
abbrev pub is_own_kind : PlanKind → Shape → Bool
is_own_kind (kind.Filter o) shape.Filter = true
is_own_kind (kind.Distinct o) shape.Distinct = true
is_own_kind (kind.Top o) (shape.Top by descending limit) = true
is_own_kind (kind.Group o) (shape.Group keys max value) = true
is_own_kind (kind.Skyline o) (shape.Skyline dims) = true
is_own_kind (kind.Having o) (shape.Having keys sum above) = true
is_own_kind (kind.Join o) (shape.Join left right) = true
is_own_kind (kind.Semi o) (shape.Semi key inner) = true
is_own_kind _ _ = false

-- key columns of the query's one table, each of which it carries
abbrev pub AreKeys : Bound → List Col → Type 0
AreKeys b cols = Each (λ c. IsCarried b c.side c.at) cols × (length b.carried ≡ 1)

-- a column that is summed is carried
abbrev pub IsSumCarried : Bound → Option Col → Type 0
IsSumCarried b None = Unit {0}
IsSumCarried b (Some c) = IsCarried b c.side c.at

-- what the operator of a kind asks of a query: the columns that it reads are carried, and its numbers are in their ranges
abbrev pub IsPlannable : Bound → Shape → Type 0
IsPlannable b shape.Filter = Unit {0}
IsPlannable b shape.Distinct = AreKeys b (printed_cols b.printed)
IsPlannable b (shape.Top by descending limit) = IsCarried b by.side by.at × (1 ≤ limit)
IsPlannable b (shape.Group keys max value) = AreKeys b keys × IsCarried b value.side value.at
IsPlannable b (shape.Having keys sum above) = AreKeys b keys × IsSumCarried b sum × (is_cell_word above ≡ true)
IsPlannable b (shape.Join left right) = IsCarried b left.side left.at × IsCarried b right.side right.at × (left.side ≡ 0) × (right.side ≡ 1)
IsPlannable b (shape.Skyline dims) = Each (λ k. IsCarried b k.col.side k.col.at) dims × (1 ≤ length dims) × (length dims ≤ 4)
IsPlannable b (shape.Semi key inner) = IsCarried b key.side key.at × IsCarried b inner.side inner.at

-- the numbers that a query writes out are in their ranges
abbrev pub NumbersFit : Shape → Type 0
NumbersFit shape.Filter = Unit {0}
NumbersFit shape.Distinct = Unit {0}
NumbersFit (shape.Top by descending limit) = 1 ≤ limit
NumbersFit (shape.Group keys max value) = Unit {0}
NumbersFit (shape.Having keys sum above) = is_cell_word above ≡ true
NumbersFit (shape.Join left right) = Unit {0}
NumbersFit (shape.Skyline dims) = (1 ≤ length dims) × (length dims ≤ 4)
NumbersFit (shape.Semi key inner) = Unit {0}

-- the law of a policy of so many passes
pub record Covers {A : Type 0} (passes : ℕ) (is_row : Row → Bool) (prunes : Policy) (answer : List Row → A) : Type 0 where
  pub once : passes ≡ 1 → CoversOnce is_row prunes answer
  pub twice : passes ≡ 2 → CoversTwice is_row prunes answer

-- what the layers above need of an operator and a query that it serves
pub record Holds (k : PlanKind) (d : Reading) (b : Bound) (gate : Gate) : Type 0 where
  pub covers : Covers (kind_times k) (is_sent gate b) (kind_policy k) (answer_over d b)
  pub agrees : Agrees (is_sent gate b) (kind_program k) None (cleared (kind_program k).arrays) (kind_policy k)
  pub width : (kind_program k).width ≡ (kind_needs k).width

-- An operator that a query may be planned by: it is of the query's kind, its policy, program, passes and needs are the
-- query's, the needs are within the profile, and it serves the query wherever the rows' bits fit it
pub record IsPlanOf (k : PlanKind) (b : Bound) (profile : Profile) : Type 0 where
  pub own : is_own_kind k b.shape ≡ true
  pub policy : kind_policy k ≡ policy_of b profile
  pub program : kind_program k ≡ program_of b profile
  pub times : kind_times k ≡ passes_of b.shape
  pub needs : kind_needs k ≡ need_of b profile
  pub most : kind_most k ≡ profile.ops
  pub within : plan_refusal (need_of b profile) profile ≡ None
  pub serves : (d : Reading) (gate : Gate) → GateFits gate (asked_of_words d b) b.shape → kind_serves k d b gate
