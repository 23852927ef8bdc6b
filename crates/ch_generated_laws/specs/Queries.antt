-- The queries as the grammar derives them.
use Rattle.std.specs.Prelude.{pos, true, false, List, [], ◌∷◌, map, Some, None, codes, if◌then◌else◌}
use Rattle.ch_bind.specs.declared.TableShape.{TableShape}
use Rattle.ch_generated.specs.Inputs.{is_join, u_begins}
use Rattle.ch_generated.specs.declared.InputKind.{InputKind}
use Rattle.ch_generated.specs.declared.InputKind.TheVariants.{Filter, Distinct, Top, Group, Having, Join, Skyline}
use Rattle.ch_generated.specs.declared.Request.{Request}
use Rattle.ch_pred.specs.declared.Cmp.TheVariants as cmp
use Rattle.ch_pred.specs.declared.Literal.TheVariants as literal
use Rattle.ch_sql_grammar.specs.declared.query.Agg.TheVariants as agg
use Rattle.ch_sql_grammar.specs.declared.query.ColumnRef.{ColumnRef}
use Rattle.ch_sql_grammar.specs.declared.query.Item.TheVariants as item
use Rattle.ch_sql_grammar.specs.declared.query.Side.TheVariants as side
use Rattle.ch_sql_grammar.specs.Grammar as grammar
use Rattle.ch_sql_grammar.specs.Grammar.{Form, form_tree}
use Rattle.ch_sql_grammar.specs.Tree.{Select, bare_col, col_of}
use Rattle.ch_tables.specs.TableValue.{TableValue}
use Rattle.ch_generated_laws.specs.Tables.{rows_of, t_table, u_table}

abbrev pub k_col : ColumnRef
k_col = bare_col (codes "k")

abbrev pub v_col : ColumnRef
v_col = bare_col (codes "v")

abbrev pub b_col : ColumnRef
b_col = bare_col (codes "b")

abbrev pub form_of : InputKind → Form
form_of Filter = grammar.one (item.Column k_col ∷ []) (item.Column v_col) (codes "t") (Some (grammar.conj (grammar.neg (grammar.atom (grammar.compare v_col cmp.Lt (side.Value (literal.Number (pos 1000)))))))) None
form_of Distinct = grammar.distinct [] (item.Column k_col) (codes "t") None
form_of Top = grammar.one (item.Column k_col ∷ []) (item.Column v_col) (codes "t") None (Some (grammar.top v_col grammar.descending (pos 10)))
form_of Group = grammar.one (item.Column k_col ∷ []) (item.Max v_col) (codes "t") None (Some (grammar.group [] k_col None))
form_of Having = grammar.one [] (item.Column k_col) (codes "t") None (Some (grammar.group [] k_col (Some (record { agg = agg.Sum v_col; above = pos 100000000 }))))
form_of Join = grammar.join (item.Column v_col ∷ []) (item.Column (bare_col (codes "y"))) (codes "t") (codes "u") (col_of (codes "t") (codes "k")) (col_of (codes "u") (codes "k")) None
form_of Skyline = grammar.one (item.Column v_col ∷ []) (item.Column b_col) (codes "t") None (Some (grammar.skyline (record { col = v_col; max = true } ∷ []) (record { col = b_col; max = false })))

-- the query of each kind
abbrev pub select_of : InputKind → Select
select_of kind = form_tree (form_of kind)

-- the tables of a request
abbrev pub tables_of : Request → List TableValue
tables_of request = t_table (rows_of request) ∷ (if is_join request.kind then u_table (u_begins request) ∷ [] else [])

-- what binding has to know of a table
abbrev pub shape_of : TableValue → TableShape
shape_of table = record { name = table.name; header = table.header; kinds = table.kinds }

abbrev pub shapes_of : Request → List TableShape
shapes_of request = map shape_of (tables_of request)
