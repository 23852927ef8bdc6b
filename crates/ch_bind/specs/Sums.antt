-- Which cell of a summed column is negative first.
use Rattle.std.specs.Prelude.{ℕ, ◌+◌, pos, int_lt, Bool, false, nat_lt, List, [], ◌∷◌, length, slice_get, slice_index_or, Option, Some, None, Result, Ok, Err, option_and_then, option_map, if◌then◌else◌}
use Rattle.std.specs.Option.{option_or}
use Rattle.ch_cells.specs.declared.cell.Cell.{Cell}
use Rattle.ch_cells.specs.declared.cell.Cell.TheVariants as cell
use Rattle.ch_pred.specs.declared.bound.Bound.{Bound}
use Rattle.ch_pred.specs.declared.bound.Shape.{Shape}
use Rattle.ch_pred.specs.declared.bound.Shape.TheVariants as shape
use Rattle.ch_pred.specs.declared.pred.Col.{Col}
use Rattle.ch_tables.specs.TableValue.{TableValue}
use Rattle.ch_bind.specs.First.{first}
use Rattle.ch_bind.specs.declared.error.SumError.{SumError}
use Rattle.ch_bind.specs.declared.error.SumError.TheVariants as error

abbrev pub is_negative : Cell → Bool
is_negative (cell.Number n) = int_lt n (pos 0)
is_negative (cell.Text text) = false

abbrev pub has_negative : ℕ → List Cell → Bool
has_negative at row = is_negative (slice_index_or row at (cell.Number (pos 0)))

abbrev pub part_refusal : ℕ → ℕ → List (List Cell) → Option SumError
part_refusal at part rows = option_map (λ row. error.NegativeSum part row) (first (has_negative at) rows)

-- the first negative cell of a column, where the parts are numbered from `part`
abbrev pub negative_from : ℕ → ℕ → List (List (List Cell)) → Option SumError
negative_from at part [] = None
negative_from at part (rows ∷ parts) = option_or (part_refusal at part rows) (negative_from at (part + 1) parts)

-- the column that a query sums
abbrev pub summed_column : Shape → Option Col
summed_column shape.Filter = None
summed_column shape.Distinct = None
summed_column (shape.Top by descending limit) = None
summed_column (shape.Group keys max value) = None
summed_column (shape.Having keys sum above) = sum
summed_column (shape.Join left right) = None
summed_column (shape.Skyline dims) = None
summed_column (shape.Semi key inner) = None

-- of a column that is there
abbrev pub table_refusal : ℕ → TableValue → Option SumError
table_refusal at table = if nat_lt at (length table.header) then negative_from at 0 table.parts else None

abbrev pub column_refusal : Bound → List TableValue → Col → Option SumError
column_refusal b tables col = option_and_then (λ number. option_and_then (table_refusal col.at) (slice_get tables number)) (slice_get b.tables col.side)

abbrev pub sum_refusal : Bound → List TableValue → Option SumError
sum_refusal b tables = option_and_then (column_refusal b tables) (summed_column b.shape)

abbrev pub answered : Option SumError → Result (Unit {0}) SumError
answered None = Ok tt
answered (Some e) = Err e
