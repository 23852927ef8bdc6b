-- The nine checks of binding, each over the whole query, and the first of them that finds something.
use Rattle.std.specs.Prelude.{ℕ, ◌+◌, pos, int_lt, Bool, true, false, not, ◌&&◌, ◌||◌, ◌==◌, nat_lt, List, [], ◌∷◌, map, filter, length, Option, Some, None, is_none, option_map, bytes_eq, if◌then◌else◌}
use Rattle.std.specs.Option.{option_or}
use Rattle.std.specs.List.{list_any, range_with_len}
use Rattle.ch_sql_grammar.specs.declared.query.ColumnRef.{ColumnRef}
use Rattle.ch_sql_grammar.specs.declared.query.Item.{Item}
use Rattle.ch_sql_grammar.specs.declared.query.Item.TheVariants as item
use Rattle.ch_sql_grammar.specs.declared.query.Source.{Source}
use Rattle.ch_sql_grammar.specs.declared.query.Source.TheVariants as source
use Rattle.ch_sql_grammar.specs.declared.query.Tail.{Tail}
use Rattle.ch_sql_grammar.specs.declared.query.Tail.TheVariants as tail
use Rattle.ch_sql_grammar.specs.Tree.{Select}
use Rattle.ch_bind.specs.First.{first}
use Rattle.ch_bind.specs.Scope.{col_of, found_in, names_of, number_of, scope_of}
use Rattle.ch_bind.specs.References.{is_named, mere, references_of}
use Rattle.ch_bind.specs.declared.error.BindError.{BindError}
use Rattle.ch_bind.specs.declared.error.BindError.TheVariants as error
use Rattle.ch_bind.specs.declared.references.Reference.{Reference}
use Rattle.ch_bind.specs.declared.scope.Candidate.{Candidate}
use Rattle.ch_bind.specs.declared.scope.Found.{Found}
use Rattle.ch_bind.specs.declared.scope.Found.TheVariants as found
use Rattle.ch_bind.specs.declared.scope.Scope.{Scope}
use Rattle.ch_bind.specs.declared.shape.TableShape.{TableShape}

-- 1: a table of the source is unknown
abbrev pub is_unknown : List TableShape → List ℕ → Bool
is_unknown shapes name = is_none (number_of shapes name)

abbrev pub table_refusal : Source → List TableShape → Option BindError
table_refusal s shapes = option_map error.NoTable (first (is_unknown shapes) (names_of s))

abbrev pub same_names : List ℕ → List ℕ → Option BindError
same_names a b = if bytes_eq a b then Some error.SelfJoin else None

-- 2: both tables are the same
abbrev pub self_refusal : Source → Option BindError
self_refusal (source.One table) = None
self_refusal (source.Join left right first_on second_on) = same_names left right
self_refusal (source.Semi outer inner key inner_key) = same_names outer inner

-- 3: a column is unknown, or ambiguous
abbrev pub column_error : ℕ → Found → Option BindError
column_error place found.Nowhere = Some (error.NoColumn place)
column_error place found.Twice = Some (error.Ambiguous place)
column_error place (found.At col) = None

abbrev pub column_refusal : ℕ → List Reference → Option BindError
column_refusal place [] = None
column_refusal place (r ∷ rs) = option_or (column_error place r.found) (column_refusal (place + 1) rs)

-- 4: the columns of ON are of one table
abbrev pub on_refusal : Scope → Source → Option BindError
on_refusal scope (source.One table) = None
on_refusal scope (source.Join left right first_on second_on) = if (col_of scope first_on).side == (col_of scope second_on).side then Some error.BadOn else None
on_refusal scope (source.Semi outer inner key inner_key) = None

-- 5: an item isn't allowed
abbrev pub is_best : Item → Bool
is_best item.Star = false
is_best (item.Column col) = false
is_best (item.Max col) = true
is_best (item.Min col) = true

-- a group has one table
abbrev pub is_key_at : List Reference → Found → Bool
is_key_at keys found.Nowhere = false
is_key_at keys found.Twice = false
is_key_at keys (found.At col) = col.side == 0 && is_named keys 0 col.at

abbrev pub is_key : Scope → List ColumnRef → ColumnRef → Bool
is_key scope keys col = is_key_at (map (mere scope) keys) (found_in scope col)

-- keys, and the one best value: `behind` tells whether one stands before
abbrev pub group_allows : Scope → List ColumnRef → Bool → Item → Bool
group_allows scope keys behind item.Star = false
group_allows scope keys behind (item.Column col) = is_key scope keys col
group_allows scope keys behind (item.Max col) = not behind
group_allows scope keys behind (item.Min col) = not behind

abbrev pub allows : Scope → Tail → Bool → Item → Bool
allows scope (tail.Group keys None) behind i = group_allows scope keys behind i
allows scope (tail.Group keys (Some having)) behind i = group_allows scope keys true i
allows scope tail.Nothing behind i = not (is_best i)
allows scope (tail.Top by descending limit) behind i = not (is_best i)
allows scope (tail.Skyline dims) behind i = not (is_best i)

-- the place of the first item that isn't allowed behind those before it
abbrev pub refused_item : (Bool → Item → Bool) → ℕ → Bool → List Item → Option ℕ
refused_item allowed at behind [] = None
refused_item allowed at behind (i ∷ items) = if allowed behind i then refused_item allowed (at + 1) (behind || is_best i) items else Some at

-- a group without its best value misses it behind the last item
abbrev pub missing_best : Tail → List Item → Option ℕ
missing_best (tail.Group keys None) items = if list_any is_best items then None else Some (length items)
missing_best (tail.Group keys (Some having)) items = None
missing_best tail.Nothing items = None
missing_best (tail.Top by descending limit) items = None
missing_best (tail.Skyline dims) items = None

abbrev pub item_refusal : Scope → Select → Option BindError
item_refusal scope q = option_map error.BadItem (option_or (refused_item (allows scope q.tail) 0 false q.items) (missing_best q.tail q.items))

-- 6: kinds don't suit each other
abbrev pub kind_refusal : List Reference → Option BindError
kind_refusal refs = option_map error.KindClash (first (λ r. r.clash) refs)

-- 7: a table has more than 16 columns that the query names
abbrev pub is_star : Item → Bool
is_star item.Star = true
is_star (item.Column col) = false
is_star (item.Max col) = false
is_star (item.Min col) = false

-- a * names all columns of the first table, and in a join of both
abbrev pub first_whole : Select → Bool
first_whole q = list_any is_star q.items

abbrev pub second_whole : Scope → Select → Bool
second_whole scope q = scope.is_join && list_any is_star q.items

abbrev pub carried_in : Candidate → ℕ → Bool → List Reference → List ℕ
carried_in table side whole refs = filter (λ at. whole || is_named refs side at) (range_with_len 0 (length table.header))

abbrev pub first_carried : Scope → Select → List ℕ
first_carried scope q = carried_in scope.first 0 (first_whole q) (references_of scope q)

abbrev pub second_carried : Scope → Select → List ℕ
second_carried scope q = carried_in scope.second 1 (second_whole scope q) (references_of scope q)

abbrev pub too_many : ℕ → List ℕ → Option BindError
too_many side carried = if nat_lt 16 (length carried) then Some (error.TooManyColumns side (length carried)) else None

abbrev pub width_refusal : Scope → Select → Option BindError
width_refusal scope q = option_or (too_many 0 (first_carried scope q)) (too_many 1 (second_carried scope q))

-- 8: more than four dimensions
abbrev pub dims_count : Tail → ℕ
dims_count tail.Nothing = 0
dims_count (tail.Top by descending limit) = 0
dims_count (tail.Group keys having) = 0
dims_count (tail.Skyline dims) = length dims

abbrev pub dims_refusal : Tail → Option BindError
dims_refusal tail.Nothing = None
dims_refusal (tail.Top by descending limit) = None
dims_refusal (tail.Group keys having) = None
dims_refusal (tail.Skyline dims) = if nat_lt 4 (length dims) then Some (error.TooManyDims (length dims)) else None

-- 9: the limit isn't from 1 to 65,536
abbrev pub limit_refusal : Tail → Option BindError
limit_refusal tail.Nothing = None
limit_refusal (tail.Top by descending limit) = if int_lt limit (pos 1) || int_lt (pos 65536) limit then Some (error.LimitRange limit) else None
limit_refusal (tail.Group keys having) = None
limit_refusal (tail.Skyline dims) = None

abbrev pub first_of : List (Option BindError) → Option BindError
first_of [] = None
first_of (check ∷ checks) = option_or check (first_of checks)

abbrev pub refusal_in : Scope → Select → Option BindError
refusal_in scope q = first_of (column_refusal 0 (references_of scope q)
    ∷ on_refusal scope q.source
    ∷ item_refusal scope q
    ∷ kind_refusal (references_of scope q)
    ∷ width_refusal scope q
    ∷ dims_refusal q.tail
    ∷ limit_refusal q.tail
    ∷ [])

abbrev pub bind_refusal : Select → List TableShape → Option BindError
bind_refusal q shapes = first_of (table_refusal q.source shapes ∷ self_refusal q.source ∷ refusal_in (scope_of q.source shapes) q ∷ [])
