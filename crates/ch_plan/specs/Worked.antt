-- Worked needs and refusals, of queries as far as a need reads them.
use Rattle.std.specs.Prelude.{◌≡◌, ℕ, true, List, [], ◌∷◌, pos, Some, None}
use Rattle.ch_ir.specs.Profile.{default_settings}
use Rattle.ch_ir.specs.declared.profile.Profile.{Profile}
use Rattle.ch_ir.specs.declared.rules.LimitName.TheVariants as limit
use Rattle.ch_pred.specs.declared.bound.Bound.{Bound}
use Rattle.ch_pred.specs.declared.bound.Printed.{Printed}
use Rattle.ch_pred.specs.declared.bound.Printed.TheVariants as printed
use Rattle.ch_pred.specs.declared.bound.Shape.{Shape}
use Rattle.ch_pred.specs.declared.bound.Shape.TheVariants as shape
use Rattle.ch_pred.specs.declared.pred.BoundPred.TheVariants as pred
use Rattle.ch_pred.specs.declared.pred.Col.{Col}
use Rattle.ch_prune.specs.declared.operator.Need.{Need}
use Rattle.ch_plan.specs.declared.error.PlanError.TheVariants.{Limit}
use Rattle.ch_plan.specs.Needs.{need_of, plan_refusal}

-- the first columns a and b of the first table, and a of the second
abbrev pub a : Col
a = record { side = 0; at = 0 }

abbrev pub b : Col
b = record { side = 0; at = 1 }

abbrev pub other : Col
other = record { side = 1; at = 0 }

abbrev pub query : List (List ℕ) → List Printed → Shape → Bound
query carried items s = record { tables = []; carried = carried; kinds = []; header = []; printed = items; filter = pred.Truth; shape = s }

abbrev pub one : List (List ℕ)
one = (0 ∷ []) ∷ []

abbrev pub two : List (List ℕ)
two = (0 ∷ 1 ∷ []) ∷ []

abbrev pub filter_query : Bound
filter_query = query one (printed.Column a ∷ []) shape.Filter

abbrev pub distinct_query : Bound
distinct_query = query two (printed.Column a ∷ printed.Column b ∷ printed.Column a ∷ []) shape.Distinct

abbrev pub top_query : Bound
top_query = query two (printed.Column a ∷ []) (shape.Top b true 3)

abbrev pub group_query : Bound
group_query = query two (printed.Column a ∷ printed.Best ∷ []) (shape.Group (a ∷ []) true b)

abbrev pub having_query : Bound
having_query = query two (printed.Column a ∷ []) (shape.Having (a ∷ b ∷ a ∷ []) (Some b) (pos 5))

abbrev pub join_query : Bound
join_query = query ((0 ∷ []) ∷ (0 ∷ 1 ∷ 2 ∷ []) ∷ []) (printed.Column a ∷ []) (shape.Join a other)

abbrev pub skyline_query : Bound
skyline_query = query two (printed.Column a ∷ []) (shape.Skyline (record { col = a; max = true } ∷ record { col = b; max = true } ∷ []))

abbrev pub semi_query : Bound
semi_query = query ((0 ∷ 1 ∷ []) ∷ (0 ∷ []) ∷ []) (printed.Column b ∷ []) (shape.Semi a other)

abbrev pub need : ℕ → ℕ → ℕ → ℕ → Need
need width cells words stages = record { width = width; cells = cells; words = words; stages = stages }

-- by the default sizes: 4096 hash rows of 4 keys, 8 thresholds, 3 hashes of 4096 cells, and 10 points
abbrev pub more_rows : Profile
more_rows = record default_settings { distinct_rows = 5000 }

pub record NeedsOfKinds : Type 0 where
  pub filter : need_of filter_query default_settings ≡ need 4 0 36 2
  pub distinct : need_of distinct_query default_settings ≡ need 5 12288 173 6
  pub top : need_of top_query default_settings ≡ need 5 1 367 12
  pub group : need_of group_query default_settings ≡ need 5 12288 169 6
  pub having : need_of having_query default_settings ≡ need 5 4096 139 5
  pub join : need_of join_query default_settings ≡ need 6 8192 137 5
  pub skyline : need_of skyline_query default_settings ≡ need 5 4 377 12
  pub semi : need_of semi_query default_settings ≡ need 5 8192 268 9
  pub semi_by_rows : need_of semi_query more_rows ≡ need 5 10000 268 9

-- too small for a plan of DISTINCT in each of the four, and then in fewer of them
abbrev pub small : ℕ → ℕ → ℕ → ℕ → Profile
small width cells words stages = record default_settings { width = width; cells = cells; words = words; stages = stages }

pub record RefusalsInOrder : Type 0 where
  pub width : plan_refusal (need_of distinct_query default_settings) (small 4 12287 172 5) ≡ Some (Limit limit.Width 5 4)
  pub cells : plan_refusal (need_of distinct_query default_settings) (small 5 12287 172 5) ≡ Some (Limit limit.Cells 12288 12287)
  pub words : plan_refusal (need_of distinct_query default_settings) (small 5 12288 172 5) ≡ Some (Limit limit.Words 173 172)
  pub stages : plan_refusal (need_of distinct_query default_settings) (small 5 12288 173 5) ≡ Some (Limit limit.Stages 6 5)
  pub reached : plan_refusal (need_of distinct_query default_settings) (small 5 12288 173 6) ≡ None
  pub filter_stages : plan_refusal (need_of filter_query default_settings) (record default_settings { stages = 1 }) ≡ Some (Limit limit.Stages 2 1)
  pub filter_width : plan_refusal (need_of filter_query default_settings) (record default_settings { width = 2 }) ≡ Some (Limit limit.Width 4 2)
