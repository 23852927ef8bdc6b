-- Tables and queries that were worked out by hand.
use Rattle.std.specs.Prelude.{ℕ, pos, codes, true, false, List, [], ◌∷◌, Some, None, map, neg_ℤ}
use Rattle.std.specs.List.{range_with_len}
use Rattle.ch_cells.specs.declared.cell.Cell.{Cell}
use Rattle.ch_cells.specs.declared.cell.Cell.TheVariants as cell
use Rattle.ch_sql_grammar.specs.declared.query.SkyDim.{SkyDim}
use Rattle.ch_cells.specs.declared.cell.Kind.TheVariants as kind
use Rattle.ch_pred.specs.declared.pred.Cmp.TheVariants as cmp
use Rattle.ch_pred.specs.declared.pred.Col.{Col}
use Rattle.ch_pred.specs.declared.pred.Literal.TheVariants as literal
use Rattle.ch_sql_grammar.specs.declared.query.ColumnRef.{ColumnRef}
use Rattle.ch_sql_grammar.specs.declared.query.Side.TheVariants as side
use Rattle.ch_sql_grammar.specs.declared.query.Item.{Item}
use Rattle.ch_sql_grammar.specs.declared.query.Item.TheVariants as item
use Rattle.ch_sql_grammar.specs.declared.query.Source.TheVariants as source
use Rattle.ch_sql_grammar.specs.declared.query.Agg.TheVariants as agg
use Rattle.ch_sql_grammar.specs.declared.query.Tail.{Tail}
use Rattle.ch_sql_grammar.specs.declared.query.Tail.TheVariants as tail
use Rattle.ch_sql_grammar.specs.Tree.{bare_col, col_of, Plain, Compare, And, plains, Select}
use Rattle.ch_bind.specs.declared.shape.TableShape.{TableShape}

abbrev pub sales : TableShape
sales = record {
  name = codes "sales";
  header = codes "order_id" ∷ codes "customer" ∷ codes "country" ∷ codes "cents" ∷ codes "time" ∷ [];
  kinds = kind.Number ∷ kind.Text ∷ kind.Text ∷ kind.Number ∷ kind.Number ∷ [];
}

abbrev pub customers : TableShape
customers = record { name = codes "customers"; header = codes "customer" ∷ codes "city" ∷ []; kinds = kind.Text ∷ kind.Text ∷ [] }

abbrev pub shapes : List TableShape
shapes = customers ∷ sales ∷ []

abbrev pub left : ℕ → Col
left at = record { side = 0; at = at }

abbrev pub right : ℕ → Col
right at = record { side = 1; at = at }

abbrev pub select : List Item → Tail → Select
select items t = record { distinct = false; items = items; source = source.One (codes "sales"); filter = None; tail = t }

abbrev pub column : List ℕ → Item
column name = item.Column (bare_col name)

-- SELECT order_id, cents FROM sales WHERE country <> 'ES' AND cents >= 1200
abbrev pub not_spain : Plain
not_spain = And (plains (Compare (bare_col (codes "country")) cmp.Ne (side.Value (literal.Text (codes "ES"))) ∷ Compare (bare_col (codes "cents")) cmp.Ge (side.Value (literal.Number (pos 1200))) ∷ []))

abbrev pub filtered : Select
filtered = record (select (column (codes "order_id") ∷ column (codes "cents") ∷ []) tail.Nothing) { filter = Some not_spain }

-- SELECT DISTINCT country FROM sales
abbrev pub countries : Select
countries = record (select (column (codes "country") ∷ []) tail.Nothing) { distinct = true }

-- SELECT order_id, cents FROM sales ORDER BY cents DESC LIMIT 2
abbrev pub dearest : Select
dearest = select (column (codes "order_id") ∷ column (codes "cents") ∷ []) (tail.Top (bare_col (codes "cents")) true (pos 2))

-- SELECT customer, MAX(time) FROM sales GROUP BY customer
abbrev pub latest : Select
latest = select (column (codes "customer") ∷ item.Max (bare_col (codes "time")) ∷ []) (tail.Group (bare_col (codes "customer") ∷ []) None)

-- SELECT customer FROM sales GROUP BY customer HAVING SUM(cents) > 3000
abbrev pub spenders : Select
spenders = select (column (codes "customer") ∷ []) (tail.Group (bare_col (codes "customer") ∷ []) (Some (record { agg = agg.Sum (bare_col (codes "cents")); above = pos 3000 })))

-- SELECT city, order_id FROM sales JOIN customers ON sales.customer = customers.customer WHERE cents < 2000
abbrev pub joined : ColumnRef → ColumnRef → List Item → Select
joined a b items = record {
  distinct = false;
  items = items;
  source = source.Join (codes "sales") (codes "customers") a b;
  filter = Some (Compare (bare_col (codes "cents")) cmp.Lt (side.Value (literal.Number (pos 2000))));
  tail = tail.Nothing;
}

abbrev pub cities : Select
cities = joined (col_of (codes "sales") (codes "customer")) (col_of (codes "customers") (codes "customer")) (column (codes "city") ∷ column (codes "order_id") ∷ [])

-- SELECT order_id, cents, time FROM sales SKYLINE OF cents MAX, time MIN
abbrev pub dear_or_early : Select
dear_or_early = select (column (codes "order_id") ∷ column (codes "cents") ∷ column (codes "time") ∷ [])
    (tail.Skyline (record { col = bare_col (codes "cents"); max = true } ∷ record { col = bare_col (codes "time"); max = false } ∷ []))

-- SELECT * FROM sales WHERE customer IN (SELECT customer FROM customers)
abbrev pub known : Select
known = record {
  distinct = false;
  items = item.Star ∷ [];
  source = source.Semi (codes "sales") (codes "customers") (bare_col (codes "customer")) (bare_col (codes "customer"));
  filter = None;
  tail = tail.Nothing;
}

abbrev pub dim : SkyDim
dim = record { col = bare_col (codes "cents"); max = true }

-- SELECT * FROM empty WHERE a < 1 AND a = 'x', over a table without rows
abbrev pub spread : Select
spread = record {
  distinct = false;
  items = item.Star ∷ [];
  source = source.One (codes "empty");
  filter = Some (And (plains (Compare (bare_col (0 ∷ [])) cmp.Lt (side.Value (literal.Number (pos 1))) ∷ Compare (bare_col (0 ∷ [])) cmp.Eq (side.Value (literal.Text (codes "x"))) ∷ [])));
  tail = tail.Nothing;
}

-- as many columns, named by a byte each, and no rows
abbrev pub wide : ℕ → TableShape
wide n = record { name = codes "wide"; header = map (λ at. at ∷ []) (range_with_len 0 n); kinds = map (λ at. kind.Void) (range_with_len 0 n) }

abbrev pub shapes_of_none : List TableShape
shapes_of_none = record (wide 1) { name = codes "empty" } ∷ []

abbrev pub six : Cell
six = cell.Number (pos 6)

abbrev pub minus : Cell
minus = cell.Number (neg_ℤ (pos 1))
