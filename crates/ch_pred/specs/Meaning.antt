-- What a bound query means, over rows of any values: cells, or words. It knows nothing of a network.
use Rattle.std.specs.Prelude.{ℕ, ◌==◌, Bool, not, ◌&&◌, if◌then◌else◌, List, [], ◌∷◌, map, filter, flat_map, take, slice_index_or, Option, Some, None, ℤ, pos, ◌+ℤ◌, int_lt}
use Rattle.std.specs.List.{list_any, list_all}
use Rattle.std.specs.declared.cmp.Ordering.{Ordering}
use Rattle.std.specs.Ordering.{is_lt, is_le, is_eq, ordering_then}
use Rattle.std.specs.Cmp.Lexicographic.{slice_cmp}
use Rattle.ch_lists.specs.Ordered.{ordered, once, directed}
use Rattle.ch_cells.specs.declared.Answer.{Answer}
use Rattle.ch_cells.specs.declared.Cell.{Cell}
use Rattle.ch_pred.specs.Values.{Values, View, cells, cells_seen}
use Rattle.ch_pred.specs.Plain.{plain_of}
use Rattle.ch_pred.specs.Holds.{holds_of}
use Rattle.ch_pred.specs.declared.pred.Col.{Col}
use Rattle.ch_pred.specs.declared.bound.Bound.{Bound}
use Rattle.ch_pred.specs.declared.bound.Dim.{Dim}
use Rattle.ch_pred.specs.declared.bound.Printed.{Printed}
use Rattle.ch_pred.specs.declared.bound.Printed.TheVariants as printed
use Rattle.ch_pred.specs.declared.bound.Shape.{Shape}
use Rattle.ch_pred.specs.declared.bound.Shape.TheVariants as shape

abbrev pub at : {V : Type 0} → View V → Col → V
at row col = row col.side col.at

abbrev pub at_each : {V : Type 0} → View V → List Col → List V
at_each row cols = map (at row) cols

-- what a row prints; `best` is the value of its group
abbrev pub printed_value : {V : Type 0} → V → View V → Printed → V
printed_value best row (printed.Column col) = at row col
printed_value best row printed.Best = best

abbrev pub line : {V : Type 0} → List Printed → V → View V → List V
line items best row = map (printed_value best row) items

-- the key of a group as a row that has the key's columns
abbrev pub key_seen : {V : Type 0} → V → List Col → List V → View V
key_seen none [] key side place = none
key_seen none (c ∷ cs) [] side place = none
key_seen none (c ∷ cs) (v ∷ vs) side place = if (c.side == side) && (c.at == place) then v else key_seen none cs vs side place

-- Top: of values with what their rows print, the first ones by value, equal ones by what they print
abbrev pub top_cmp : {V : Type 0} → (V → V → Ordering) → Bool → V × List V → V × List V → Ordering
top_cmp cmp descending a b = ordering_then (directed descending cmp a.0 b.0) (slice_cmp cmp a.1 b.1)

abbrev pub first_lines : {V : Type 0} → (V → V → Ordering) → Bool → ℕ → List (V × List V) → List (List V)
first_lines cmp descending limit rows = map (λ r. r.1) (take limit (ordered (top_cmp cmp descending) rows))

-- Group and Having: of keys with values, the values of one key
abbrev pub values_of : {V W : Type 0} → (V → V → Ordering) → List (List V × W) → List V → List W
values_of cmp rows key = map (λ r. r.1) (filter (λ r. is_eq (slice_cmp cmp key r.0)) rows)

abbrev pub different_keys : {V W : Type 0} → (V → V → Ordering) → List (List V × W) → List (List V)
different_keys cmp rows = once (slice_cmp cmp) (map (λ r. r.0) rows)

abbrev pub head_or : {V : Type 0} → V → List V → V
head_or none [] = none
head_or none (v ∷ vs) = v

-- the greatest value, or the least
abbrev pub best_of : {V : Type 0} → Values V → Bool → List V → V
best_of v max vs = head_or v.none (ordered (directed max v.compare) vs)

abbrev pub total : List ℤ → ℤ
total [] = pos 0
total (n ∷ ns) = n +ℤ total ns

-- what a row adds to the sum of its group: in a COUNT each row counts 1
abbrev pub amount : {V : Type 0} → Values V → Option Col → View V → ℤ
amount v None row = pos 1
amount v (Some col) row = v.number (at row col)

-- Join: a pair has the row of the first table at side 0, and that of the second elsewhere
abbrev pub both : {V : Type 0} → View V → View V → View V
both a b side place = if side == 0 then a side place else b side place

abbrev pub pairs : {V : Type 0} → List (View V) → List (View V) → List (View V)
pairs rows inner = flat_map (λ a. map (both a) inner) rows

-- Skyline: a is at least as good as b in each dimension, and better in one
abbrev pub dominates : {V : Type 0} → (V → V → Ordering) → List Dim → View V → View V → Bool
dominates cmp dims a b =
    list_all (λ d. is_le (directed d.max cmp (at a d.col) (at b d.col))) dims && list_any (λ d. is_lt (directed d.max cmp (at a d.col) (at b d.col))) dims

-- a query over rows of some values: its test of a row or a pair, what it prints, and its kind
pub record Asked (V : Type 0) : Type 0 where
  pub values : Values V
  pub holds : View V → Bool
  pub printed : List Printed
  pub shape : Shape

abbrev pub lines : {V : Type 0} → Asked V → List (View V) → List (List V)
lines q rows = map (line q.printed q.values.none) rows

-- what the test is asked of: the rows of the first table, and for a join the pairs of rows
abbrev pub candidates : {V : Type 0} → Shape → List (View V) → List (View V) → List (View V)
candidates shape.Filter rows inner = rows
candidates shape.Distinct rows inner = rows
candidates (shape.Top by descending limit) rows inner = rows
candidates (shape.Group keys max value) rows inner = rows
candidates (shape.Having keys sum above) rows inner = rows
candidates (shape.Join left right) rows inner = pairs rows inner
candidates (shape.Skyline dims) rows inner = rows
candidates (shape.Semi key within) rows inner = rows

-- what a kind makes of the rows that hold, and a semi-join of them and the inner rows
abbrev pub of_held : {V : Type 0} → Shape → Asked V → List (View V) → List (View V) → List (List V)
of_held shape.Filter q held inner = lines q held
of_held shape.Distinct q held inner = once (slice_cmp q.values.compare) (lines q held)
of_held (shape.Top by descending limit) q held inner = first_lines q.values.compare descending limit (map (λ r. (at r by, line q.printed q.values.none r)) held)
of_held (shape.Group keys max value) q held inner =
    let groups = map (λ r. (at_each r keys, at r value)) held in
    map (λ key. line q.printed (best_of q.values max (values_of q.values.compare groups key)) (key_seen q.values.none keys key)) (different_keys q.values.compare groups)
of_held (shape.Having keys sum above) q held inner =
    let groups = map (λ r. (at_each r keys, amount q.values sum r)) held in
    map (λ key. line q.printed q.values.none (key_seen q.values.none keys key))
    (filter (λ key. int_lt above (total (values_of q.values.compare groups key))) (different_keys q.values.compare groups))
of_held (shape.Join left right) q held inner = lines q (filter (λ p. is_eq (q.values.compare (at p left) (at p right))) held)
of_held (shape.Skyline dims) q held inner = lines q (filter (λ r. not (list_any (λ s. dominates q.values.compare dims s r) held)) held)
of_held (shape.Semi key within) q held inner = lines q (filter (λ r. list_any (λ s. is_eq (q.values.compare (at r key) (at s within))) inner) held)

-- the answer's rows, as a list for Top and a bag for each other kind
abbrev pub meaning_by : {V : Type 0} → Shape → Asked V → List (View V) → List (View V) → List (List V)
meaning_by s q rows inner = of_held s q (filter q.holds (candidates s rows inner)) inner

-- the answer's rows in their order: those of Top as they are, and all others ascending
abbrev pub in_order : {V : Type 0} → (V → V → Ordering) → Shape → List (List V) → List (List V)
in_order cmp shape.Filter rows = ordered (slice_cmp cmp) rows
in_order cmp shape.Distinct rows = ordered (slice_cmp cmp) rows
in_order cmp (shape.Top by descending limit) rows = rows
in_order cmp (shape.Group keys max value) rows = ordered (slice_cmp cmp) rows
in_order cmp (shape.Having keys sum above) rows = ordered (slice_cmp cmp) rows
in_order cmp (shape.Join left right) rows = ordered (slice_cmp cmp) rows
in_order cmp (shape.Skyline dims) rows = ordered (slice_cmp cmp) rows
in_order cmp (shape.Semi key within) rows = ordered (slice_cmp cmp) rows

abbrev pub answer_to : {V : Type 0} → Asked V → List (View V) → List (View V) → List (List V)
answer_to q rows inner = in_order q.values.compare q.shape (meaning_by q.shape q rows inner)

-- the query over rows of cells
abbrev pub asked_of_cells : Bound → Asked Cell
asked_of_cells b = record { values = cells; holds = (λ row. holds_of row (plain_of b.filter)); printed = b.printed; shape = b.shape }

abbrev pub table_seen : List (List (List Cell)) → ℕ → List (View Cell)
table_seen tables side = map cells_seen (slice_index_or tables side [])

-- the answer's rows, from the rows of the query's tables, the first table's first: a list for Top, and a bag for each other kind
abbrev pub meaning : Bound → List (List (List Cell)) → List (List Cell)
meaning b tables = meaning_by b.shape (asked_of_cells b) (table_seen tables 0) (table_seen tables 1)

-- the same in the order in which it is printed: each kind but Top ascends
abbrev pub answer : Bound → List (List (List Cell)) → List (List Cell)
answer b tables = answer_to (asked_of_cells b) (table_seen tables 0) (table_seen tables 1)

abbrev pub answer_of : Bound → List (List (List Cell)) → Answer
answer_of b tables = record { header = b.header; rows = answer b tables }

-- the rows of a table that hold
abbrev pub holding : Bound → List (List Cell) → List (List Cell)
holding b rows = filter (λ row. holds_of (cells_seen row) (plain_of b.filter)) rows

-- what rows of a table print
abbrev pub printed_of : Bound → List (List Cell) → List (List Cell)
printed_of b rows = map (λ row. line b.printed cells.none (cells_seen row)) rows
