-- What the names of a query can stand for: the tables of its source and their columns.
use Rattle.std.specs.Prelude.{ℕ, ◌==◌, Bool, true, false, List, [], ◌∷◌, slice_index_or, Option, Some, None, bytes_eq, if◌then◌else◌}
use Rattle.ch_cells.specs.declared.cell.Kind.{Kind}
use Rattle.ch_cells.specs.declared.cell.Kind.TheVariants as kind
use Rattle.ch_pred.specs.declared.pred.Col.{Col}
use Rattle.ch_sql_grammar.specs.declared.query.ColumnRef.{ColumnRef}
use Rattle.ch_sql_grammar.specs.declared.query.Source.{Source}
use Rattle.ch_sql_grammar.specs.declared.query.Source.TheVariants as source
use Rattle.ch_bind.specs.First.{first}
use Rattle.ch_bind.specs.declared.shape.TableShape.{TableShape}
use Rattle.ch_bind.specs.declared.scope.Candidate.{Candidate}
use Rattle.ch_bind.specs.declared.scope.Scope.{Scope}
use Rattle.ch_bind.specs.declared.scope.Found.{Found}
use Rattle.ch_bind.specs.declared.scope.Found.TheVariants as found

abbrev pub names_of : Source → List (List ℕ)
names_of (source.One table) = table ∷ []
names_of (source.Join left right first_on second_on) = left ∷ right ∷ []
names_of (source.Semi outer inner key inner_key) = outer ∷ inner ∷ []

-- the number of the table of this name
abbrev pub number_of : List TableShape → List ℕ → Option ℕ
number_of shapes name = first (λ s. bytes_eq name s.name) shapes

abbrev pub candidate_of : TableShape → Candidate
candidate_of s = record { name = s.name; header = s.header; kinds = s.kinds }

-- in place of a table that isn't there
abbrev pub no_shape : TableShape
no_shape = record { name = []; header = []; kinds = [] }

abbrev pub no_table : Candidate
no_table = candidate_of no_shape

abbrev pub table_at : List TableShape → Option ℕ → Candidate
table_at shapes None = no_table
table_at shapes (Some n) = candidate_of (slice_index_or shapes n no_shape)

abbrev pub table_of : List TableShape → List ℕ → Candidate
table_of shapes name = table_at shapes (number_of shapes name)

abbrev pub scope_of : Source → List TableShape → Scope
scope_of (source.One table) shapes = record { first = table_of shapes table; second = no_table; is_join = false }
scope_of (source.Join left right first_on second_on) shapes = record { first = table_of shapes left; second = table_of shapes right; is_join = true }
scope_of (source.Semi outer inner key inner_key) shapes = record { first = table_of shapes outer; second = table_of shapes inner; is_join = false }

-- a name with a qualifier is of the table that it names alone
abbrev pub is_of : Option (List ℕ) → List ℕ → Bool
is_of None table = true
is_of (Some qualifier) table = bytes_eq qualifier table

-- where a column stands in a table that it can be of
abbrev pub place_on : Candidate → ColumnRef → Option ℕ
place_on table col = if is_of col.table table.name then first (bytes_eq col.name) table.header else None

abbrev pub found_among : Option ℕ → Option ℕ → Found
found_among None None = found.Nowhere
found_among (Some at) None = found.At (record { side = 0; at = at })
found_among None (Some at) = found.At (record { side = 1; at = at })
found_among (Some at) (Some other) = found.Twice

-- a column of a join is of either table, and all others are of the first one
abbrev pub found_in : Scope → ColumnRef → Found
found_in scope col = found_among (place_on scope.first col) (if scope.is_join then place_on scope.second col else None)

-- but for the inner key of a semi-join
abbrev pub found_inner : Scope → ColumnRef → Found
found_inner scope col = found_among None (place_on scope.second col)

abbrev pub col_at : Found → Col
col_at found.Nowhere = record { side = 0; at = 0 }
col_at found.Twice = record { side = 0; at = 0 }
col_at (found.At col) = col

abbrev pub col_of : Scope → ColumnRef → Col
col_of scope col = col_at (found_in scope col)

abbrev pub inner_col_of : Scope → ColumnRef → Col
inner_col_of scope col = col_at (found_inner scope col)

abbrev pub kind_at : Candidate → ℕ → Kind
kind_at table at = slice_index_or table.kinds at kind.Void

abbrev pub kind_of : Scope → Col → Kind
kind_of scope col = if col.side == 0 then kind_at scope.first col.at else kind_at scope.second col.at
