-- The grammar of queries: a derivation, the tokens that it spells and the tree that it stands for.
use Rattle.std.specs.Prelude.{ℕ, ℤ, Bool, true, false, List, [], ◌∷◌, ◌++◌, ◌-◌, ◌≡◌, length, take, ◌⊎◌, Option, Some, None, option_map}
use Rattle.std.specs.List.{list_all}
use Rattle.ch_sql_grammar.specs.declared.terminal.Mark.{Mark}
use Rattle.ch_sql_grammar.specs.declared.terminal.Mark.TheVariants as mark
use Rattle.ch_sql_grammar.specs.declared.terminal.Terminal.{Terminal}
use Rattle.ch_sql_grammar.specs.declared.terminal.Terminal.TheVariants as terminal
use Rattle.ch_sql_grammar.specs.declared.query.ColumnRef.{ColumnRef}
use Rattle.ch_pred.specs.declared.pred.Cmp.{Cmp}
use Rattle.ch_pred.specs.declared.pred.Cmp.TheVariants as cmp
use Rattle.ch_pred.specs.declared.pred.Literal.{Literal}
use Rattle.ch_pred.specs.declared.pred.Literal.TheVariants as literal
use Rattle.ch_sql_grammar.specs.declared.query.Side.{Side}
use Rattle.ch_sql_grammar.specs.declared.query.Side.TheVariants as side
use Rattle.ch_sql_grammar.specs.Tree.{Plain, Compare, Between, Within, Like, Not, all_of, any_of, Select}
use Rattle.ch_sql_grammar.specs.declared.query.Item.{Item}
use Rattle.ch_sql_grammar.specs.declared.query.Item.TheVariants as item
use Rattle.ch_sql_grammar.specs.declared.query.Source.TheVariants as source
use Rattle.ch_sql_grammar.specs.declared.query.Agg.{Agg}
use Rattle.ch_sql_grammar.specs.declared.query.Agg.TheVariants as agg
use Rattle.ch_sql_grammar.specs.declared.query.Having.{Having}
use Rattle.ch_sql_grammar.specs.declared.query.SkyDim.{SkyDim}
use Rattle.ch_sql_grammar.specs.declared.query.Tail.{Tail}
use Rattle.ch_sql_grammar.specs.declared.query.Tail.TheVariants as tail

pub data Atom : Type 0 where
  compare : (col : ColumnRef) (cmp : Cmp) (side : Side) → Atom
  between : (col : ColumnRef) (low high : Literal) → Atom
  within : (col : ColumnRef) (front : List Literal) (last : Literal) → Atom
  like : (col : ColumnRef) (text : List ℕ) → Atom

mutual
  -- pred = conj {OR conj}
  pub data Pred : Type 0 where
    conj : (only : Conj) → Pred
    or : (front : Pred) (last : Conj) → Pred

  -- conj = neg {AND neg}
  pub data Conj : Type 0 where
    neg : (only : Neg) → Conj
    and : (front : Conj) (last : Neg) → Conj

  -- neg = NOT neg | "(" pred ")" | atom
  pub data Neg : Type 0 where
    not : (inner : Neg) → Neg
    parens : (inner : Pred) → Neg
    atom : (only : Atom) → Neg

-- the tokens of each

abbrev pub qualifier : Option (List ℕ) → List Terminal
qualifier None = []
qualifier (Some t) = terminal.Name t ∷ terminal.Mark mark.Dot ∷ []

abbrev pub col_tokens : ColumnRef → List Terminal
col_tokens col = qualifier col.table ++ (terminal.Name col.name ∷ [])

abbrev pub literal_token : Literal → Terminal
literal_token (literal.Number n) = terminal.Number n
literal_token (literal.Text t) = terminal.Text t

abbrev pub cmp_mark : Cmp → Mark
cmp_mark cmp.Eq = mark.Eq
cmp_mark cmp.Ne = mark.Ne
cmp_mark cmp.Lt = mark.Lt
cmp_mark cmp.Le = mark.Le
cmp_mark cmp.Gt = mark.Gt
cmp_mark cmp.Ge = mark.Ge

abbrev pub side_tokens : Side → List Terminal
side_tokens (side.Column col) = col_tokens col
side_tokens (side.Value v) = literal_token v ∷ []

abbrev pub listed_tokens : List Literal → List Terminal
listed_tokens [] = []
listed_tokens (v ∷ vs) = literal_token v ∷ terminal.Mark mark.Comma ∷ listed_tokens vs

abbrev pub atom_tokens : Atom → List Terminal
atom_tokens (compare col c s) = col_tokens col ++ (terminal.Mark (cmp_mark c) ∷ side_tokens s)
atom_tokens (between col low high) = col_tokens col ++ (terminal.Mark mark.Between ∷ literal_token low ∷ terminal.Mark mark.And ∷ literal_token high ∷ [])
atom_tokens (within col front last) = col_tokens col ++ (terminal.Mark mark.In ∷ terminal.Mark mark.LeftParen ∷ (listed_tokens front ++ (literal_token last ∷ terminal.Mark mark.RightParen ∷ [])))
atom_tokens (like col text) = col_tokens col ++ (terminal.Mark mark.Like ∷ terminal.Text text ∷ [])

abbrev mutual
  pub pred_tokens : Pred → List Terminal
  pred_tokens (conj c) = conj_tokens c
  pred_tokens (or p c) = pred_tokens p ++ (terminal.Mark mark.Or ∷ conj_tokens c)

  pub conj_tokens : Conj → List Terminal
  conj_tokens (neg n) = neg_tokens n
  conj_tokens (and c n) = conj_tokens c ++ (terminal.Mark mark.And ∷ neg_tokens n)

  pub neg_tokens : Neg → List Terminal
  neg_tokens (not n) = terminal.Mark mark.Not ∷ neg_tokens n
  neg_tokens (parens p) = terminal.Mark mark.LeftParen ∷ (pred_tokens p ++ (terminal.Mark mark.RightParen ∷ []))
  neg_tokens (atom a) = atom_tokens a

-- the tree of each

abbrev pub atom_tree : Atom → Plain
atom_tree (compare col c s) = Compare col c s
atom_tree (between col low high) = Between col low high
atom_tree (within col front last) = Within col (front ++ (last ∷ []))
atom_tree (like col text) = Like col (take (length text - 1) text)

abbrev mutual
  pub conj_trees : Pred → List Plain
  conj_trees (conj c) = all_of (neg_trees c) ∷ []
  conj_trees (or p c) = conj_trees p ++ (all_of (neg_trees c) ∷ [])

  pub neg_trees : Conj → List Plain
  neg_trees (neg n) = neg_tree n ∷ []
  neg_trees (and c n) = neg_trees c ++ (neg_tree n ∷ [])

  pub neg_tree : Neg → Plain
  neg_tree (not n) = Not (neg_tree n)
  neg_tree (parens p) = any_of (conj_trees p)
  neg_tree (atom a) = atom_tree a

abbrev pub pred_tree : Pred → Plain
pred_tree p = any_of (conj_trees p)

-- the forms of select; `front` and `last` are x {"," x}

pub data Direction : Type 0 where
  unsaid : Direction
  ascending : Direction
  descending : Direction

-- tail = ORDER BY col [ASC | DESC] LIMIT number | GROUP BY col {"," col} [HAVING agg ">" number] | SKYLINE OF dim {"," dim}
pub data Ending : Type 0 where
  top : (by : ColumnRef) (direction : Direction) (number : ℤ) → Ending
  group : (front : List ColumnRef) (last : ColumnRef) (having : Option Having) → Ending
  skyline : (front : List SkyDim) (last : SkyDim) → Ending

pub data Form : Type 0 where
  -- SELECT DISTINCT plain {"," plain} FROM name [WHERE pred]
  distinct : (front : List Item) (last : Item) (table : List ℕ) (filter : Option Pred) → Form
  -- SELECT item {"," item} FROM name JOIN name ON col "=" col [WHERE pred]
  join : (front : List Item) (last : Item) (left right : List ℕ) (first_on second_on : ColumnRef) (filter : Option Pred) → Form
  -- SELECT plain {"," plain} FROM name WHERE col IN "(" SELECT col FROM name ")" [AND conj]
  semi : (front : List Item) (last : Item) (outer : List ℕ) (key inner_key : ColumnRef) (inner : List ℕ) (filter : Option Conj) → Form
  -- SELECT item {"," item} FROM name [WHERE pred] [tail]
  one : (front : List Item) (last : Item) (table : List ℕ) (filter : Option Pred) (ending : Option Ending) → Form

abbrev pub is_plain_item : Item → Bool
is_plain_item item.Star = true
is_plain_item (item.Column col) = true
is_plain_item (item.Max col) = false
is_plain_item (item.Min col) = false

-- items of DISTINCT and of a semi-join are plain
abbrev pub ArePlain : List Item → Item → Type 0
ArePlain front last = list_all is_plain_item (front ++ (last ∷ [])) ≡ true

abbrev pub IsForm : Form → Type 0
IsForm (distinct front last table filter) = ArePlain front last
IsForm (join front last left right first_on second_on filter) = Unit {0}
IsForm (semi front last outer key inner_key inner filter) = ArePlain front last
IsForm (one front last table filter ending) = Unit {0}

-- each with a comma behind it
abbrev pub each : {A : Type 0} → (A → List Terminal) → List A → List Terminal
each f [] = []
each f (x ∷ xs) = f x ++ (terminal.Mark mark.Comma ∷ each f xs)

abbrev pub extreme_tokens : Mark → ColumnRef → List Terminal
extreme_tokens m col = terminal.Mark m ∷ terminal.Mark mark.LeftParen ∷ (col_tokens col ++ (terminal.Mark mark.RightParen ∷ []))

abbrev pub item_tokens : Item → List Terminal
item_tokens item.Star = terminal.Mark mark.Star ∷ []
item_tokens (item.Column col) = col_tokens col
item_tokens (item.Max col) = extreme_tokens mark.Max col
item_tokens (item.Min col) = extreme_tokens mark.Min col

abbrev pub items_tokens : List Item → Item → List Terminal
items_tokens front last = each item_tokens front ++ item_tokens last

abbrev pub where_tokens : Option Pred → List Terminal
where_tokens None = []
where_tokens (Some p) = terminal.Mark mark.Where ∷ pred_tokens p

abbrev pub and_tokens : Option Conj → List Terminal
and_tokens None = []
and_tokens (Some c) = terminal.Mark mark.And ∷ conj_tokens c

abbrev pub direction_tokens : Direction → List Terminal
direction_tokens unsaid = []
direction_tokens ascending = terminal.Mark mark.Asc ∷ []
direction_tokens descending = terminal.Mark mark.Desc ∷ []

abbrev pub agg_tokens : Agg → List Terminal
agg_tokens (agg.Sum col) = extreme_tokens mark.Sum col
agg_tokens agg.Count = terminal.Mark mark.Count ∷ terminal.Mark mark.LeftParen ∷ terminal.Mark mark.Star ∷ terminal.Mark mark.RightParen ∷ []

abbrev pub having_tokens : Option Having → List Terminal
having_tokens None = []
having_tokens (Some h) = terminal.Mark mark.Having ∷ (agg_tokens h.agg ++ (terminal.Mark mark.Gt ∷ terminal.Number h.above ∷ []))

abbrev pub dim_mark : Bool → Mark
dim_mark true = mark.Max
dim_mark false = mark.Min

abbrev pub dim_tokens : SkyDim → List Terminal
dim_tokens d = col_tokens d.col ++ (terminal.Mark (dim_mark d.max) ∷ [])

abbrev pub ending_tokens : Ending → List Terminal
ending_tokens (top by direction number) = terminal.Mark mark.Order ∷ terminal.Mark mark.By ∷ (col_tokens by ++ (direction_tokens direction ++ (terminal.Mark mark.Limit ∷ terminal.Number number ∷ [])))
ending_tokens (group front last having) = terminal.Mark mark.Group ∷ terminal.Mark mark.By ∷ (each col_tokens front ++ (col_tokens last ++ having_tokens having))
ending_tokens (skyline front last) = terminal.Mark mark.Skyline ∷ terminal.Mark mark.Of ∷ (each dim_tokens front ++ dim_tokens last)

abbrev pub endings_tokens : Option Ending → List Terminal
endings_tokens None = []
endings_tokens (Some e) = ending_tokens e

-- what stands before the filter

abbrev pub one_tokens : List Item → Item → List ℕ → List Terminal
one_tokens front last table = terminal.Mark mark.Select ∷ (items_tokens front last ++ (terminal.Mark mark.From ∷ terminal.Name table ∷ []))

abbrev pub distinct_tokens : List Item → Item → List ℕ → List Terminal
distinct_tokens front last table = terminal.Mark mark.Select ∷ terminal.Mark mark.Distinct ∷ (items_tokens front last ++ (terminal.Mark mark.From ∷ terminal.Name table ∷ []))

abbrev pub join_tokens : List Item → Item → List ℕ → List ℕ → ColumnRef → ColumnRef → List Terminal
join_tokens front last left right first_on second_on = one_tokens front last left ++ (terminal.Mark mark.Join ∷ terminal.Name right ∷ terminal.Mark mark.On ∷ (col_tokens first_on ++ (terminal.Mark mark.Eq ∷ col_tokens second_on)))

abbrev pub semi_tokens : List Item → Item → List ℕ → ColumnRef → ColumnRef → List ℕ → List Terminal
semi_tokens front last outer key inner_key inner = one_tokens front last outer ++ (terminal.Mark mark.Where ∷ (col_tokens key ++ (terminal.Mark mark.In ∷ terminal.Mark mark.LeftParen ∷ terminal.Mark mark.Select ∷ (col_tokens inner_key ++ (terminal.Mark mark.From ∷ terminal.Name inner ∷ terminal.Mark mark.RightParen ∷ [])))))

abbrev pub form_tokens : Form → List Terminal
form_tokens (distinct front last table filter) = distinct_tokens front last table ++ where_tokens filter
form_tokens (join front last left right first_on second_on filter) = join_tokens front last left right first_on second_on ++ where_tokens filter
form_tokens (semi front last outer key inner_key inner filter) = semi_tokens front last outer key inner_key inner ++ and_tokens filter
form_tokens (one front last table filter ending) = one_tokens front last table ++ (where_tokens filter ++ endings_tokens ending)

-- the tree of each

abbrev pub is_descending : Direction → Bool
is_descending unsaid = false
is_descending ascending = false
is_descending descending = true

abbrev pub ending_tree : Ending → Tail
ending_tree (top by direction number) = tail.Top by (is_descending direction) number
ending_tree (group front last having) = tail.Group (front ++ (last ∷ [])) having
ending_tree (skyline front last) = tail.Skyline (front ++ (last ∷ []))

abbrev pub endings_tree : Option Ending → Tail
endings_tree None = tail.Nothing
endings_tree (Some e) = ending_tree e

abbrev pub conj_tree : Conj → Plain
conj_tree c = all_of (neg_trees c)

abbrev pub form_tree : Form → Select
form_tree (distinct front last table filter) = record { distinct = true; items = front ++ (last ∷ []); source = source.One table; filter = option_map pred_tree filter; tail = tail.Nothing }
form_tree (join front last left right first_on second_on filter) = record { distinct = false; items = front ++ (last ∷ []); source = source.Join left right first_on second_on; filter = option_map pred_tree filter; tail = tail.Nothing }
form_tree (semi front last outer key inner_key inner filter) = record { distinct = false; items = front ++ (last ∷ []); source = source.Semi outer inner key inner_key; filter = option_map conj_tree filter; tail = tail.Nothing }
form_tree (one front last table filter ending) = record { distinct = false; items = front ++ (last ∷ []); source = source.One table; filter = option_map pred_tree filter; tail = endings_tree ending }

-- these tokens are a query, with or without a semicolon, which has this tree
pub record IsQuery (tokens : List Terminal) (tree : Select) : Type 0 where
  pub form : Form
  pub is_form : IsForm form
  pub spelled : (tokens ≡ form_tokens form) ⊎ (tokens ≡ form_tokens form ++ (terminal.Mark mark.Semicolon ∷ []))
  pub stands_for : tree ≡ form_tree form

-- these tokens begin a query
abbrev pub Begins : List Terminal → Type 0
Begins tokens = (rest : List Terminal) × (tree : Select) × IsQuery (tokens ++ rest) tree

-- what follows the front ends it: with the next token it begins none, and with no token it is none
abbrev pub IsEnd : List Terminal → List Terminal → Type 0
IsEnd front [] = (tree : Select) → IsQuery front tree → ⊥
IsEnd front (t ∷ ts) = Begins (front ++ (t ∷ [])) → ⊥
