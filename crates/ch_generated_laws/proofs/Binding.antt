-- The queries bind to the tables, no summed cell is negative, and their plans are within the default profile.
use Rattle.std.proofs.Common.{◌≡◌, ◌+◌, ℕ, zero, suc, false, List, [], ◌∷◌, Option, None, map, refl, ◌∙◌, ap, arith}
use Rattle.std.specs.Prelude.{pos, int_lt, nat_lt, option_and_then, slice_get}
use Rattle.std.proofs.lemmas.Bool.Decides.{nat_tests}
use Rattle.ch_bind.specs.Binding.{PlainBound, bound_of, plain_bound}
use Rattle.ch_bind.specs.Checks.{bind_refusal}
use Rattle.ch_bind.specs.First.{first_from}
use Rattle.ch_bind.specs.Sums.{has_negative, negative_from, sum_refusal, summed_column, table_refusal}
use Rattle.ch_bind.specs.declared.SumError.{SumError}
use Rattle.ch_generated.specs.TableText.{part_from, t_fields}
use Rattle.ch_generated.specs.declared.InputKind.{InputKind}
use Rattle.ch_generated.specs.declared.InputKind.TheVariants.{Filter, Distinct, Top, Group, Having, Join, Skyline}
use Rattle.ch_generated.specs.declared.Request.{Request}
use Rattle.ch_generated.specs.declared.TableRow.{TableRow}
use Rattle.ch_ir.specs.Profile.{default_settings}
use Rattle.ch_plan.specs.Needs.{need_of, plan_refusal}
use Rattle.ch_pred.specs.declared.Bound.{Bound}
use Rattle.ch_pred.specs.declared.BoundPred.TheVariants.{Truth}
use Rattle.ch_pred.specs.declared.Col.{Col}
use Rattle.ch_pred.specs.declared.Shape.{Shape}
use Rattle.ch_tables.specs.TableValue.{TableValue}
use Rattle.ch_generated_laws.specs.Queries.{select_of, shapes_of, tables_of}
use Rattle.ch_generated_laws.specs.Tables.{cells_of, part_cells, rows_of, t_table}

pub none_refused : (kind : InputKind) (seed rows : ℕ) → bind_refusal (select_of kind) (shapes_of (record { seed = seed; rows = rows; kind = kind })) ≡ None
none_refused Filter seed rows = refl
none_refused Distinct seed rows = refl
none_refused Top seed rows = refl
none_refused Group seed rows = refl
none_refused Having seed rows = refl
none_refused Join seed rows = refl
none_refused Skyline seed rows = refl

-- No cell is negative.
below_zero : (n : ℕ) → nat_lt n 0 ≡ false
below_zero n = grind (arith, nat_tests)

not_below_zero : (n : ℕ) → int_lt (pos n) (pos 0) ≡ false
not_below_zero n = below_zero n

cell_not : (row : List ℕ) (at : ℕ) → has_negative at (cells_of row) ≡ false
cell_not [] at = refl
cell_not (n ∷ ns) zero = not_below_zero n
cell_not (n ∷ ns) (suc at) = cell_not ns at

rows_not : (rows : List (List ℕ)) (at place : ℕ) → first_from (has_negative at) place (map cells_of rows) ≡ None
rows_not [] at place = refl
rows_not (row ∷ rows) at place = rw (cell_not row at) (rows_not rows at (place + 1))

none_in_part : (rows : List TableRow) (at part : ℕ) → first_from (has_negative at) 0 (part_cells rows part) ≡ None
none_in_part rows at part = rows_not (map t_fields (part_from part 0 rows)) at 0

four_parts : (rows : List TableRow) (at : ℕ) → negative_from at 0 (t_table rows).parts ≡ None
four_parts rows at =
    let a = none_in_part rows at 0 in
    let b = none_in_part rows at 1 in
    let c = none_in_part rows at 2 in
    let d = none_in_part rows at 3 in
    rw (a, b, c, d) refl

-- what a query sums, by its tables and its shape
abbrev sums_of : List ℕ → Shape → List TableValue → Option SumError
sums_of names shape tables =
    option_and_then (λ (col : Col). option_and_then (λ (number : ℕ). option_and_then (table_refusal col.at) (slice_get tables number)) (slice_get names col.side)) (summed_column shape)

no_sum : (kind : InputKind) (seed rows : ℕ) → let r : Request = record { seed = seed; rows = rows; kind = kind } in
    sums_of (bound_of (select_of kind) (shapes_of r)).tables (bound_of (select_of kind) (shapes_of r)).shape (tables_of r) ≡ None
no_sum Filter seed rows = refl
no_sum Distinct seed rows = refl
no_sum Top seed rows = refl
no_sum Group seed rows = refl
no_sum Having seed rows = four_parts (rows_of (record { seed = seed; rows = rows; kind = Having })) 1
no_sum Join seed rows = refl
no_sum Skyline seed rows = refl

pub sums_are : (kind : InputKind) (seed rows : ℕ) (b : Bound) → let r : Request = record { seed = seed; rows = rows; kind = kind } in
    plain_bound b ≡ bound_of (select_of kind) (shapes_of r) → sum_refusal b (tables_of r) ≡ None
sums_are kind seed rows b e =
    let r : Request = record { seed = seed; rows = rows; kind = kind } in
    ap (λ (p : PlainBound). sums_of p.tables p.shape (tables_of r)) e ∙ no_sum kind seed rows

-- The needs of a plan know nothing of the filter.
abbrev bare : PlainBound → Bound
bare q = record { tables = q.tables; carried = q.carried; kinds = q.kinds; header = q.header; printed = q.printed; filter = Truth; shape = q.shape }

within_profile : (kind : InputKind) (seed rows : ℕ) → let r : Request = record { seed = seed; rows = rows; kind = kind } in
    plan_refusal (need_of (bare (bound_of (select_of kind) (shapes_of r))) default_settings) default_settings ≡ None
within_profile Filter seed rows = refl
within_profile Distinct seed rows = refl
within_profile Top seed rows = refl
within_profile Group seed rows = refl
within_profile Having seed rows = refl
within_profile Join seed rows = refl
within_profile Skyline seed rows = refl

pub plan_is : (kind : InputKind) (seed rows : ℕ) (b : Bound) → let r : Request = record { seed = seed; rows = rows; kind = kind } in
    plain_bound b ≡ bound_of (select_of kind) (shapes_of r) → plan_refusal (need_of b default_settings) default_settings ≡ None
plan_is kind seed rows b e =
    ap (λ (p : PlainBound). plan_refusal (need_of (bare p) default_settings) default_settings) e ∙ within_profile kind seed rows
