-- The plain tree of a query.
use Rattle.std.specs.Prelude.{ℕ, Bool, List, [], ◌∷◌, Option, Some, None, option_map}
use Rattle.ch_sql_grammar.specs.declared.query.ColumnRef.{ColumnRef}
use Rattle.ch_pred.specs.declared.pred.Cmp.{Cmp}
use Rattle.ch_pred.specs.declared.pred.Literal.{Literal}
use Rattle.ch_sql_grammar.specs.declared.query.Side.{Side}
use Rattle.ch_sql_grammar.specs.declared.query.Pred.{Pred}
use Rattle.ch_sql_grammar.specs.declared.query.Pred.TheOpen.{Pred-F}
use Rattle.ch_sql_grammar.specs.declared.query.Pred.TheOpen as layer
use Rattle.ch_sql_grammar.specs.declared.query.Pred.TheFolds.{fold-Pred}
use Rattle.ch_sql_grammar.specs.declared.query.Item.{Item}
use Rattle.ch_sql_grammar.specs.declared.query.Source.{Source}
use Rattle.ch_sql_grammar.specs.declared.query.Source.TheVariants as source
use Rattle.ch_sql_grammar.specs.declared.query.Tail.{Tail}
use Rattle.ch_sql_grammar.specs.declared.query.Query.{Query}

abbrev pub bare_col : List ℕ → ColumnRef
bare_col n = record { table = None; name = n }

abbrev pub col_of : List ℕ → List ℕ → ColumnRef
col_of t n = record { table = Some t; name = n }

-- the table, where there is one alone
abbrev pub one_table : Source → Option (List ℕ)
one_table (source.One table) = Some table
one_table s = None

mutual
  pub data Plain : Type 0 where
    Compare : (col : ColumnRef) (cmp : Cmp) (side : Side) → Plain
    Between : (col : ColumnRef) (low high : Literal) → Plain
    Within : (col : ColumnRef) (literals : List Literal) → Plain
    Like : (col : ColumnRef) (prefix : List ℕ) → Plain
    And : (members : Plains) → Plain
    Or : (members : Plains) → Plain
    Not : (inner : Plain) → Plain

  pub data Plains : Type 0 where
    nil : Plains
    cons : (first : Plain) (rest : Plains) → Plains

abbrev pub plains : List Plain → Plains
plains [] = nil
plains (p ∷ ps) = cons p (plains ps)

abbrev pub plain_step : Pred-F Plain → Plain
plain_step (layer.Compare col cmp side) = Compare col cmp side
plain_step (layer.Between col low high) = Between col low high
plain_step (layer.Within col literals) = Within col literals.items
plain_step (layer.Like col prefix) = Like col prefix
plain_step (layer.And members) = And (plains members.items)
plain_step (layer.Or members) = Or (plains members.items)
plain_step (layer.Not inner) = Not inner.value

abbrev pub plain_of : Pred → Plain
plain_of = fold-Pred Plain plain_step

-- one member stands for itself
abbrev pub all_of : List Plain → Plain
all_of (p ∷ []) = p
all_of ps = And (plains ps)

abbrev pub any_of : List Plain → Plain
any_of (p ∷ []) = p
any_of ps = Or (plains ps)

-- a query whose filter is a plain tree
pub record Select : Type 0 where
  pub distinct : Bool
  pub items : List Item
  pub source : Source
  pub filter : Option Plain
  pub tail : Tail

abbrev pub select_of : Query → Select
select_of q = record { distinct = q.distinct; items = q.items; source = q.source; filter = option_map plain_of q.filter; tail = q.tail }
