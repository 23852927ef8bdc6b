-- A worked plan: SELECT a FROM t WHERE a > 4, over the rows 3 and 5 of t.
use Rattle.std.specs.Prelude.{◌≡◌, ℕ, Bool, true, false, List, [], ◌∷◌, pos, codes}
use Rattle.ch_cells.specs.declared.Cell.{Cell}
use Rattle.ch_cells.specs.declared.Cell.TheVariants as cell
use Rattle.ch_cells.specs.declared.Kind.TheVariants as kind
use Rattle.ch_cover.specs.Rows.{Row}
use Rattle.ch_ir.specs.Profile.{default_settings}
use Rattle.ch_pred.specs.Meaning.{answer}
use Rattle.ch_pred.specs.declared.bound.Bound.{Bound}
use Rattle.ch_pred.specs.declared.bound.Printed.TheVariants as printed
use Rattle.ch_pred.specs.declared.bound.Shape.TheVariants as shape
use Rattle.ch_pred.specs.declared.pred.Arg.TheVariants as arg
use Rattle.ch_pred.specs.declared.pred.BoundPred.TheVariants as pred
use Rattle.ch_pred.specs.declared.pred.Cmp.TheVariants as cmp
use Rattle.ch_pred.specs.declared.pred.Col.{Col}
use Rattle.ch_pred.specs.declared.pred.Literal.TheVariants as literal
use Rattle.ch_plan.specs.Kinds.{IsPlanOf}
use Rattle.ch_plan.specs.declared.kind.PlanKind.{PlanKind}
use Rattle.ch_survival.specs.Asked.{IsAsked, answer_arrived, asked_rows}

abbrev pub a : Col
a = record { side = 0; at = 0 }

abbrev pub query : Bound
query = record {
  tables = 0 ∷ [];
  carried = (0 ∷ []) ∷ [];
  kinds = (kind.Number ∷ []) ∷ [];
  header = codes "a" ∷ [];
  printed = printed.Column a ∷ [];
  filter = pred.Compare a cmp.Gt (arg.Value (literal.Number (pos 4)));
  shape = shape.Filter;
}

abbrev pub number : ℕ → List Cell
number n = cell.Number (pos n) ∷ []

abbrev pub tables : List (List (List Cell))
tables = (number 3 ∷ number 5 ∷ []) ∷ []

abbrev pub row : Bool → ℕ → Row
row bit word = record { side = 0; bit = bit; words = pos word ∷ [] }

-- the premises hold, there is a plan, and the row that the switch may prune isn't missed
pub record FilterSurvives : Type 0 where
  pub asked : IsAsked [] query tables
  pub planned : (k : PlanKind) × IsPlanOf k query default_settings
  pub rows : asked_rows [] query tables ≡ row false 3 ∷ row true 5 ∷ []
  pub over_cells : answer query tables ≡ number 5 ∷ []
  pub without_pruned : answer_arrived [] query (row true 5 ∷ []) ≡ number 5 ∷ []
