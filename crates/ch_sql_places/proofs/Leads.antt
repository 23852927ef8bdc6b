-- The tokens that lead to a place, and what a test says of a token.
use Rattle.std.proofs.Common.{◌≡◌, ℕ, ◌⊎◌, Bool, true, false, if◌then◌else◌, List, [], ◌∷◌, ◌++◌, Option, Some, None, option_map, refl, sym, ap, ◌∙◌, append_assoc, subst, arith, get_or, IfSome}
use Rattle.std.proofs.lemmas.Bool.Decides.{nat_tests}
use Rattle.ch_sql_grammar.specs.declared.terminal.Mark.{Mark}
use Rattle.ch_sql_grammar.specs.declared.terminal.Mark.TheVariants as mark
use Rattle.ch_sql_grammar.specs.declared.terminal.Terminal.{Terminal}
use Rattle.ch_sql_grammar.specs.declared.terminal.Terminal.TheVariants as terminal
use Rattle.ch_sql_grammar.specs.declared.query.ColumnRef.{ColumnRef}
use Rattle.ch_pred.specs.declared.pred.Cmp.{Cmp}
use Rattle.ch_pred.specs.declared.pred.Literal.{Literal}
use Rattle.ch_pred.specs.declared.pred.Literal.TheVariants as literal
use Rattle.ch_sql_grammar.specs.Tree.{Plain}
use Rattle.ch_sql_grammar.specs.Tokens.{has_mark, mark_number, name_in, literal_in, text_in, cmp_in, mark_cmp}
use Rattle.ch_sql_grammar.specs.declared.query.Item.{Item}
use Rattle.ch_sql_grammar.specs.declared.query.Source.{Source}
use Rattle.ch_sql_grammar.specs.declared.query.Source.TheVariants as source
use Rattle.ch_sql_grammar.specs.declared.query.SkyDim.{SkyDim}
use Rattle.ch_sql_grammar.specs.declared.query.Tail.{Tail}
use Rattle.ch_sql_grammar.specs.declared.query.Tail.TheVariants as tail
use Rattle.ch_sql_grammar.specs.declared.head.Head.{Head}
use Rattle.ch_sql_grammar.specs.declared.head.HeadPlace.{HeadPlace}
use Rattle.ch_sql_grammar.specs.declared.head.HeadPlace.TheVariants as head
use Rattle.ch_sql_grammar.specs.declared.head.HeadTaker.{HeadTaker}
use Rattle.ch_sql_grammar.specs.declared.head.HeadTaker.TheVariants as headtaker
use Rattle.ch_sql_grammar.specs.declared.tail.TailPlace.{TailPlace}
use Rattle.ch_sql_grammar.specs.declared.tail.TailPlace.TheVariants as place
use Rattle.ch_sql_grammar.specs.declared.tail.TailTaker.{TailTaker}
use Rattle.ch_sql_grammar.specs.declared.tail.TailTaker.TheVariants as tailtaker
use Rattle.ch_sql_places.specs.Machine.{Around, Member, Negated, Level, Whole, Group, First, Second, Leading, Place, Heading, Lead, LeadCol, LeadIn, LeadListed, Want, Name, Dot, Atom, Compared, Low, LowAnd, High, In, Listed, Next, LikeText, Negs, Conjs, Closed, Tailing, given, takes_or, takes_tail, may_be_outer, is_semi}
use Rattle.ch_sql_places.proofs.Walked.{FitAll}
pub use Rattle.ch_sql_places.specs.Refusal.{ors_tokens, ands_tokens, OrsFit}
use Rattle.ch_sql_grammar.specs.Grammar as grammar
use Rattle.ch_sql_grammar.specs.Grammar.{Pred, conj, or, Conj, neg, and, Neg, not, parens, atom, compare, between, within, like, col_tokens, qualifier, literal_token, listed_tokens, cmp_mark, side_tokens, atom_tokens, pred_tokens, conj_tokens, neg_tokens, atom_tree, conj_trees, neg_trees, neg_tree, pred_tree, conj_tree, each, extreme_tokens, item_tokens, items_tokens, where_tokens, and_tokens, direction_tokens, agg_tokens, having_tokens, dim_mark, dim_tokens, ending_tokens, endings_tokens, one_tokens, distinct_tokens, join_tokens, semi_tokens, form_tokens, is_descending, ending_tree, endings_tree, form_tree, is_plain_item, ArePlain, IsForm, IsQuery}

-- the negs before an AND, and the conjs before an OR

abbrev pub ands_trees : Option Conj → List Plain
ands_trees None = []
ands_trees (Some c) = neg_trees c

abbrev pub ors_trees : Option Pred → List Plain
ors_trees None = []
ors_trees (Some p) = conj_trees p

abbrev pub PredFits : Pred → Bool → Type 0
PredFits (conj c) b = Unit {0}
PredFits (or p c) b = b ≡ true

-- the tokens of a head

abbrev pub one : Mark → List Terminal
one m = terminal.Mark m ∷ []

abbrev pub HeadedBy : Source → Bool → List Item → Item → List Terminal → Type 0
HeadedBy (source.One table) true front last toks = ArePlain front last × (toks ≡ distinct_tokens front last table)
HeadedBy (source.One table) false front last toks = toks ≡ one_tokens front last table
HeadedBy (source.Join left right first_on second_on) d front last toks = (d ≡ false) × (toks ≡ join_tokens front last left right first_on second_on)
HeadedBy (source.Semi outer inner key inner_key) d front last toks = (d ≡ false) × ArePlain front last × (toks ≡ semi_tokens front last outer key inner_key inner)

pub record IsHead (h : Head) (toks : List Terminal) : Type 0 where
  pub front : List Item
  pub last : Item
  pub items : h.items ≡ front ++ (last ∷ [])
  pub spelled : HeadedBy h.source h.distinct front last toks

-- what opens the filter
abbrev pub opening : Bool → Mark
opening true = mark.And
opening false = mark.Where

abbrev mutual
  pub IsAround : Around → List Terminal → Type 0
  IsAround (Member conjs negs level) toks = (f : List Terminal) × (os : Option Pred) × (ns : Option Conj) × IsLevel level f × (conjs ≡ ors_trees os) × (negs ≡ ands_trees ns) × (toks ≡ (f ++ ors_tokens os) ++ ands_tokens ns) × OrsFit os (takes_or level)
  IsAround (Negated around) toks = (f : List Terminal) × IsAround around f × (toks ≡ f ++ (terminal.Mark mark.Not ∷ []))

  pub IsLevel : Level → List Terminal → Type 0
  IsLevel (Whole h) toks = (f : List Terminal) × IsHead h f × (toks ≡ f ++ (terminal.Mark (opening (is_semi h.source)) ∷ []))
  IsLevel (Group around) toks = (f : List Terminal) × IsAround around f × (toks ≡ f ++ (terminal.Mark mark.LeftParen ∷ []))

-- the tokens are those around an atom, and then these of the atom
abbrev pub After : Around → List Terminal → List Terminal → Type 0
After around toks xs = (f : List Terminal) × IsAround around f × (toks ≡ f ++ xs)

-- the tokens of a place in a head

abbrev pub select_tokens : Bool → List Terminal
select_tokens true = terminal.Mark mark.Select ∷ terminal.Mark mark.Distinct ∷ []
select_tokens false = terminal.Mark mark.Select ∷ []

abbrev pub extreme_mark : Bool → Mark
extreme_mark max = dim_mark max

abbrev pub ItemsLead : Bool → List Item → List Terminal → Type 0
ItemsLead d items x = FitAll d items × (x ≡ select_tokens d ++ each item_tokens items)

abbrev pub ListLeads : Bool → List Item → List Terminal → Type 0
ListLeads d items x = (front : List Item) × (last : Item) × (items ≡ front ++ (last ∷ [])) × FitAll d items × (x ≡ (select_tokens d ++ each item_tokens front) ++ item_tokens last)

abbrev pub TableLeads : Bool → List Item → List ℕ → List Terminal → Type 0
TableLeads d items table x = (y : List Terminal) × ListLeads d items y × (x ≡ (y ++ one mark.From) ++ (terminal.Name table ∷ []))

abbrev pub extreme_open : List Item → Bool → List Terminal
extreme_open items max = ((select_tokens false ++ each item_tokens items) ++ one (extreme_mark max)) ++ one mark.LeftParen

abbrev pub joined_on : List Terminal → List ℕ → List Terminal
joined_on y right = ((y ++ one mark.Join) ++ (terminal.Name right ∷ [])) ++ one mark.On

-- the tokens up to the inner key of a semi-join
abbrev pub InnerLeads : List Item → List ℕ → ColumnRef → List Terminal → Type 0
InnerLeads items outer key x = (front : List Item) × (last : Item) × (items ≡ front ++ (last ∷ [])) × ArePlain front last
    × (x ≡ ((((one_tokens front last outer ++ one mark.Where) ++ col_tokens key) ++ one mark.In) ++ one mark.LeftParen) ++ one mark.Select)

abbrev pub HeadBefore : HeadTaker → List Terminal → Type 0
HeadBefore (headtaker.Item d items) x = ItemsLead d items x
HeadBefore (headtaker.Extreme items max) x = x ≡ extreme_open items max
HeadBefore (headtaker.FirstOn items left right) x = (y : List Terminal) × TableLeads false items left y × (x ≡ joined_on y right)
HeadBefore (headtaker.SecondOn items left right first_on) x = (y : List Terminal) × TableLeads false items left y × (x ≡ (joined_on y right ++ col_tokens first_on) ++ one mark.Eq)
HeadBefore (headtaker.InnerKey items outer key) x = InnerLeads items outer key x

abbrev pub HeadLeads : HeadPlace → List Terminal → Type 0
HeadLeads head.Start x = x ≡ []
HeadLeads head.Select x = x ≡ one mark.Select
HeadLeads (head.Items d items) x = ItemsLead d items x
HeadLeads (head.Extreme items max) x = x ≡ (select_tokens false ++ each item_tokens items) ++ one (extreme_mark max)
HeadLeads (head.Taking taker) x = HeadBefore taker x
HeadLeads (head.Name taker n) x = (y : List Terminal) × HeadBefore taker y × (x ≡ y ++ (terminal.Name n ∷ []))
HeadLeads (head.Dot taker n) x = (y : List Terminal) × HeadBefore taker y × (x ≡ (y ++ (terminal.Name n ∷ [])) ++ one mark.Dot)
HeadLeads (head.Closing items max col) x = x ≡ extreme_open items max ++ col_tokens col
HeadLeads (head.Listing d items) x = ListLeads d items x
HeadLeads (head.From d items) x = (y : List Terminal) × ListLeads d items y × (x ≡ y ++ one mark.From)
HeadLeads (head.Table d items table) x = TableLeads d items table x
HeadLeads (head.JoinTable items left) x = (y : List Terminal) × TableLeads false items left y × (x ≡ y ++ one mark.Join)
HeadLeads (head.On items left right) x = (y : List Terminal) × TableLeads false items left y × (x ≡ (y ++ one mark.Join) ++ (terminal.Name right ∷ []))
HeadLeads (head.Equals items left right first_on) x = (y : List Terminal) × TableLeads false items left y × (x ≡ joined_on y right ++ col_tokens first_on)
HeadLeads (head.InnerFrom items outer key inner_key) x = (y : List Terminal) × InnerLeads items outer key y × (x ≡ y ++ col_tokens inner_key)
HeadLeads (head.InnerTable items outer key inner_key) x = (y : List Terminal) × InnerLeads items outer key y × (x ≡ (y ++ col_tokens inner_key) ++ one mark.From)
HeadLeads (head.InnerClose items outer key inner_key inner) x = (y : List Terminal) × InnerLeads items outer key y × (x ≡ ((y ++ col_tokens inner_key) ++ one mark.From) ++ (terminal.Name inner ∷ []))
HeadLeads (head.Whole h) x = IsHead h x

-- the tokens of a place in a tail

abbrev pub group_by : List Terminal
group_by = one mark.Group ++ one mark.By

abbrev pub skyline_of : List Terminal
skyline_of = one mark.Skyline ++ one mark.Of

abbrev pub order_by : List Terminal
order_by = one mark.Order ++ one mark.By

abbrev pub KeysLead : List ColumnRef → List Terminal → Type 0
KeysLead keys x = (front : List ColumnRef) × (last : ColumnRef) × (keys ≡ front ++ (last ∷ [])) × (x ≡ (group_by ++ each col_tokens front) ++ col_tokens last)

abbrev pub TailBefore : TailTaker → List Terminal → Type 0
TailBefore tailtaker.By x = x ≡ order_by
TailBefore (tailtaker.Key keys) x = x ≡ group_by ++ each col_tokens keys
TailBefore (tailtaker.Sum keys) x = (y : List Terminal) × KeysLead keys y × (x ≡ ((y ++ one mark.Having) ++ one mark.Sum) ++ one mark.LeftParen)
TailBefore (tailtaker.Dim dims) x = x ≡ skyline_of ++ each dim_tokens dims

-- a whole tail
abbrev pub TailDone : Bool → Tail → List Terminal → Type 0
TailDone b t x = (e : grammar.Ending) × (b ≡ true) × (t ≡ ending_tree e) × (x ≡ ending_tokens e)

-- a whole tail, or none
abbrev pub TailIs : Bool → Tail → List Terminal → Type 0
TailIs b t x = TailDone b t x ⊎ ((t ≡ tail.Nothing) × (x ≡ []))

abbrev pub TailLeads : Bool → TailPlace → List Terminal → Type 0
TailLeads b (place.Start begins) x = (begins ≡ b) × (x ≡ [])
TailLeads b place.Order x = (b ≡ true) × (x ≡ one mark.Order)
TailLeads b place.Group x = (b ≡ true) × (x ≡ one mark.Group)
TailLeads b place.Skyline x = (b ≡ true) × (x ≡ one mark.Skyline)
TailLeads b (place.Taking taker) x = (b ≡ true) × TailBefore taker x
TailLeads b (place.Name taker n) x = (k : b ≡ true) × (y : List Terminal) × TailBefore taker y × (x ≡ y ++ (terminal.Name n ∷ []))
TailLeads b (place.Dot taker n) x = (k : b ≡ true) × (y : List Terminal) × TailBefore taker y × (x ≡ (y ++ (terminal.Name n ∷ [])) ++ one mark.Dot)
TailLeads b (place.Direction by) x = (b ≡ true) × (x ≡ order_by ++ col_tokens by)
TailLeads b (place.Limit by descending) x = (k : b ≡ true) × (d : grammar.Direction) × (descending ≡ is_descending d) × (x ≡ (order_by ++ col_tokens by) ++ direction_tokens d)
TailLeads b (place.LimitNumber by descending) x = (k : b ≡ true) × (d : grammar.Direction) × (descending ≡ is_descending d) × (x ≡ ((order_by ++ col_tokens by) ++ direction_tokens d) ++ one mark.Limit)
TailLeads b (place.Keys keys) x = (b ≡ true) × KeysLead keys x
TailLeads b (place.Having keys) x = (k : b ≡ true) × (y : List Terminal) × KeysLead keys y × (x ≡ y ++ one mark.Having)
TailLeads b (place.SumOpen keys) x = (k : b ≡ true) × (y : List Terminal) × KeysLead keys y × (x ≡ (y ++ one mark.Having) ++ one mark.Sum)
TailLeads b (place.SumClose keys col) x = (k : b ≡ true) × (y : List Terminal) × KeysLead keys y × (x ≡ (((y ++ one mark.Having) ++ one mark.Sum) ++ one mark.LeftParen) ++ col_tokens col)
TailLeads b (place.CountOpen keys) x = (k : b ≡ true) × (y : List Terminal) × KeysLead keys y × (x ≡ (y ++ one mark.Having) ++ one mark.Count)
TailLeads b (place.CountStar keys) x = (k : b ≡ true) × (y : List Terminal) × KeysLead keys y × (x ≡ ((y ++ one mark.Having) ++ one mark.Count) ++ one mark.LeftParen)
TailLeads b (place.CountClose keys) x = (k : b ≡ true) × (y : List Terminal) × KeysLead keys y × (x ≡ (((y ++ one mark.Having) ++ one mark.Count) ++ one mark.LeftParen) ++ one mark.Star)
TailLeads b (place.Above keys a) x = (k : b ≡ true) × (y : List Terminal) × KeysLead keys y × (x ≡ (y ++ one mark.Having) ++ agg_tokens a)
TailLeads b (place.AboveNumber keys a) x = (k : b ≡ true) × (y : List Terminal) × KeysLead keys y × (x ≡ ((y ++ one mark.Having) ++ agg_tokens a) ++ one mark.Gt)
TailLeads b (place.DimDirection dims col) x = (b ≡ true) × (x ≡ (skyline_of ++ each dim_tokens dims) ++ col_tokens col)
TailLeads b (place.Dims dims) x = (k : b ≡ true) × (front : List SkyDim) × (last : SkyDim) × (dims ≡ front ++ (last ∷ [])) × (x ≡ (skyline_of ++ each dim_tokens front) ++ dim_tokens last)
TailLeads b (place.Whole t) x = TailDone b t x
TailLeads b (place.Ended t) x = (y : List Terminal) × TailIs b t y × (x ≡ y ++ one mark.Semicolon)

-- the tokens of a filter, by whether it is that of a semi-join
abbrev pub FilterIs : Bool → Option Plain → List Terminal → Type 0
FilterIs b None x = x ≡ []
FilterIs true (Some p) x = (c : Conj) × (p ≡ conj_tree c) × (x ≡ and_tokens (Some c))
FilterIs false (Some p) x = (q : Pred) × (p ≡ pred_tree q) × (x ≡ where_tokens (Some q))

-- behind WHERE, where a semi-join may come
abbrev pub LeadAfter : Head → List Terminal → List Terminal → Type 0
LeadAfter h toks xs = (f : List Terminal) × IsLevel (Whole h) f × (toks ≡ f ++ xs) × (may_be_outer h ≡ true)

-- these tokens lead from the start to the place
abbrev pub Leads : Place → List Terminal → Type 0
Leads (Heading at) toks = HeadLeads at toks
Leads (Lead h) toks = IsLevel (Whole h) toks × (may_be_outer h ≡ true)
Leads (LeadCol h col) toks = LeadAfter h toks (col_tokens col)
Leads (LeadIn h col) toks = LeadAfter h toks (col_tokens col ++ one mark.In)
Leads (LeadListed h col) toks = LeadAfter h toks ((col_tokens col ++ one mark.In) ++ one mark.LeftParen)
Leads (Name (Leading h) n) toks = LeadAfter h toks (terminal.Name n ∷ [])
Leads (Dot (Leading h) n) toks = LeadAfter h toks (terminal.Name n ∷ terminal.Mark mark.Dot ∷ [])
Leads (Tailing h filter at) toks = (f g x : List Terminal) × IsHead h f × FilterIs (is_semi h.source) filter g × TailLeads (takes_tail h) at x × (toks ≡ (f ++ g) ++ x)
Leads (Want around) toks = IsAround around toks
Leads (Name (First around) n) toks = After around toks (terminal.Name n ∷ [])
Leads (Name (Second around col c) n) toks = After around toks ((col_tokens col ++ one (cmp_mark c)) ++ (terminal.Name n ∷ []))
Leads (Dot (First around) n) toks = After around toks (terminal.Name n ∷ terminal.Mark mark.Dot ∷ [])
Leads (Dot (Second around col c) n) toks = After around toks (((col_tokens col ++ one (cmp_mark c)) ++ (terminal.Name n ∷ [])) ++ one mark.Dot)
Leads (Atom around col) toks = After around toks (col_tokens col)
Leads (Compared around col c) toks = After around toks (col_tokens col ++ one (cmp_mark c))
Leads (Low around col) toks = After around toks (col_tokens col ++ one mark.Between)
Leads (LowAnd around col low) toks = After around toks ((col_tokens col ++ one mark.Between) ++ (literal_token low ∷ []))
Leads (High around col low) toks = After around toks (((col_tokens col ++ one mark.Between) ++ (literal_token low ∷ [])) ++ one mark.And)
Leads (In around col) toks = After around toks (col_tokens col ++ one mark.In)
Leads (Listed around col literals) toks = After around toks (((col_tokens col ++ one mark.In) ++ one mark.LeftParen) ++ listed_tokens literals)
Leads (Next around col literals) toks = (front : List Literal) × (last : Literal) × (literals ≡ front ++ (last ∷ []))
    × After around toks ((((col_tokens col ++ one mark.In) ++ one mark.LeftParen) ++ listed_tokens front) ++ (literal_token last ∷ []))
Leads (LikeText around col) toks = After around toks (col_tokens col ++ one mark.Like)
Leads (Negs conjs negs level) toks = (f : List Terminal) × (os : Option Pred) × (c : Conj) × IsLevel level f × (conjs ≡ ors_trees os) × (negs ≡ neg_trees c) × (toks ≡ (f ++ ors_tokens os) ++ conj_tokens c) × OrsFit os (takes_or level)
Leads (Conjs conjs level) toks = (f : List Terminal) × (p : Pred) × IsLevel level f × (conjs ≡ conj_trees p) × (toks ≡ f ++ pred_tokens p) × PredFits p (takes_or level)
Leads (Closed p level) toks = (f : List Terminal) × (q : Pred) × IsLevel level f × (p ≡ pred_tree q) × (toks ≡ f ++ pred_tokens q) × PredFits q (takes_or level)

-- what a test says of the token

marks : List Mark
marks = mark.Select ∷ mark.Distinct ∷ mark.From ∷ mark.Join ∷ mark.On ∷ mark.Where ∷ mark.Order ∷ mark.By ∷ mark.Asc ∷ mark.Desc ∷ mark.Limit ∷ mark.Group ∷ mark.Having ∷ mark.Sum ∷ mark.Count ∷ mark.Skyline ∷ mark.Of ∷ mark.Max ∷ mark.Min ∷ mark.And ∷ mark.Or ∷ mark.Not ∷ mark.Between ∷ mark.In ∷ mark.Like ∷ mark.Eq ∷ mark.Ne ∷ mark.Lt ∷ mark.Le ∷ mark.Gt ∷ mark.Ge ∷ mark.LeftParen ∷ mark.RightParen ∷ mark.Comma ∷ mark.Dot ∷ mark.Star ∷ mark.Semicolon ∷ []

numbered : (m : Mark) → get_or marks (mark_number m) mark.Select ≡ m
unfolding marks
numbered mark.Select = refl
numbered mark.Distinct = refl
numbered mark.From = refl
numbered mark.Join = refl
numbered mark.On = refl
numbered mark.Where = refl
numbered mark.Order = refl
numbered mark.By = refl
numbered mark.Asc = refl
numbered mark.Desc = refl
numbered mark.Limit = refl
numbered mark.Group = refl
numbered mark.Having = refl
numbered mark.Sum = refl
numbered mark.Count = refl
numbered mark.Skyline = refl
numbered mark.Of = refl
numbered mark.Max = refl
numbered mark.Min = refl
numbered mark.And = refl
numbered mark.Or = refl
numbered mark.Not = refl
numbered mark.Between = refl
numbered mark.In = refl
numbered mark.Like = refl
numbered mark.Eq = refl
numbered mark.Ne = refl
numbered mark.Lt = refl
numbered mark.Le = refl
numbered mark.Gt = refl
numbered mark.Ge = refl
numbered mark.LeftParen = refl
numbered mark.RightParen = refl
numbered mark.Comma = refl
numbered mark.Dot = refl
numbered mark.Star = refl
numbered mark.Semicolon = refl

same_mark : (m k : Mark) → mark_number m ≡ mark_number k → m ≡ k
same_mark m k e = sym (numbered m) ∙ ap (λ n. get_or marks n mark.Select) e ∙ numbered k

pub mark_is : (m : Mark) (t : Terminal) → has_mark m t ≡ true → t ≡ terminal.Mark m
mark_is m (terminal.Mark k) h = let e : mark_number m ≡ mark_number k = grind (arith, nat_tests) in ap terminal.Mark (sym (same_mark m k e))
mark_is m (terminal.Name n) h = cc
mark_is m (terminal.Number n) h = cc
mark_is m (terminal.Text n) h = cc

pub name_is : (t : Terminal) (n : List ℕ) → name_in t ≡ Some n → t ≡ terminal.Name n
name_is (terminal.Name k) n h = cc
name_is (terminal.Mark m) n h = cc
name_is (terminal.Number k) n h = cc
name_is (terminal.Text k) n h = cc

pub text_is : (t : Terminal) (n : List ℕ) → text_in t ≡ Some n → t ≡ terminal.Text n
text_is (terminal.Name k) n h = cc
text_is (terminal.Mark m) n h = cc
text_is (terminal.Number k) n h = cc
text_is (terminal.Text k) n h = cc

pub literal_is : (t : Terminal) (v : Literal) → literal_in t ≡ Some v → t ≡ literal_token v
literal_is (terminal.Name k) v h = cc
literal_is (terminal.Mark m) v h = cc
literal_is (terminal.Number k) (literal.Number n) h = cc
literal_is (terminal.Number k) (literal.Text n) h = cc
literal_is (terminal.Text k) (literal.Number n) h = cc
literal_is (terminal.Text k) (literal.Text n) h = cc

abbrev pub cmps : Mark → Option Cmp → Type 0
cmps m (Some c) = m ≡ cmp_mark c
cmps m None = Unit {0}

pub cmp_of_mark : (m : Mark) → cmps m (mark_cmp m)
cmp_of_mark mark.Select = tt
cmp_of_mark mark.Distinct = tt
cmp_of_mark mark.From = tt
cmp_of_mark mark.Join = tt
cmp_of_mark mark.On = tt
cmp_of_mark mark.Where = tt
cmp_of_mark mark.Order = tt
cmp_of_mark mark.By = tt
cmp_of_mark mark.Asc = tt
cmp_of_mark mark.Desc = tt
cmp_of_mark mark.Limit = tt
cmp_of_mark mark.Group = tt
cmp_of_mark mark.Having = tt
cmp_of_mark mark.Sum = tt
cmp_of_mark mark.Count = tt
cmp_of_mark mark.Skyline = tt
cmp_of_mark mark.Of = tt
cmp_of_mark mark.Max = tt
cmp_of_mark mark.Min = tt
cmp_of_mark mark.And = tt
cmp_of_mark mark.Or = tt
cmp_of_mark mark.Not = tt
cmp_of_mark mark.Between = tt
cmp_of_mark mark.In = tt
cmp_of_mark mark.Like = tt
cmp_of_mark mark.Eq = refl
cmp_of_mark mark.Ne = refl
cmp_of_mark mark.Lt = refl
cmp_of_mark mark.Le = refl
cmp_of_mark mark.Gt = refl
cmp_of_mark mark.Ge = refl
cmp_of_mark mark.LeftParen = tt
cmp_of_mark mark.RightParen = tt
cmp_of_mark mark.Comma = tt
cmp_of_mark mark.Dot = tt
cmp_of_mark mark.Star = tt
cmp_of_mark mark.Semicolon = tt

pub cmp_is : (t : Terminal) (c : Cmp) → cmp_in t ≡ Some c → t ≡ terminal.Mark (cmp_mark c)
cmp_is (terminal.Mark m) c h = ap terminal.Mark (subst (cmps m) h (cmp_of_mark m))
cmp_is (terminal.Name k) c h = cc
cmp_is (terminal.Number k) c h = cc
cmp_is (terminal.Text k) c h = cc

-- what holds of each place that a step can give, and of each way that a step can go

pub each_way : {A : Type 0} → (P : A → Type 0) (b : Bool) (p r : A) → (b ≡ true → P p) → P r → P (if b then p else r)
each_way P true p r here else_ = here refl
each_way P false p r here else_ = else_

pub each_if : {A : Type 0} → (P : A → Type 0) (b : Bool) (p : A) (r : Option A) → (b ≡ true → P p) → IfSome r P → IfSome (if b then Some p else r) P
each_if P true p r here else_ = here refl
each_if P false p r here else_ = else_

pub each_map : {A B : Type 0} → (P : B → Type 0) (g : A → B) (o : Option A) → ((x : A) → o ≡ Some x → P (g x)) → IfSome (option_map g o) P
each_map P g (Some x) here = here x refl
each_map P g None here = tt

pub each_given : {A : Type 0} → (P : Place → Type 0) (g : A → Place) (o : Option A) (r : Option Place) → ((x : A) → o ≡ Some x → P (g x)) → IfSome r P → IfSome (given o (λ x. Some (g x)) r) P
each_given P g (Some x) r here else_ = here x refl
each_given P g None r here else_ = else_

-- one more token

abbrev pub more : List Terminal → Terminal → List Terminal
more toks t = toks ++ (t ∷ [])

-- longer appends

pub assoc4 : (a b c d : List Terminal) → ((a ++ b) ++ c) ++ d ≡ a ++ (b ++ (c ++ d))
assoc4 a b c d = append_assoc (a ++ b) c d ∙ append_assoc a b (c ++ d)

pub assoc5 : (a b c d e : List Terminal) → (((a ++ b) ++ c) ++ d) ++ e ≡ a ++ (b ++ (c ++ (d ++ e)))
assoc5 a b c d e = append_assoc ((a ++ b) ++ c) d e ∙ assoc4 a b c (d ++ e)

pub assoc6 : (a b c d e f : List Terminal) → ((((a ++ b) ++ c) ++ d) ++ e) ++ f ≡ a ++ (b ++ (c ++ (d ++ (e ++ f))))
assoc6 a b c d e f = append_assoc (((a ++ b) ++ c) ++ d) e f ∙ assoc5 a b c d (e ++ f)

pub assoc7 : (a b c d e f g : List Terminal) → (((((a ++ b) ++ c) ++ d) ++ e) ++ f) ++ g ≡ a ++ (b ++ (c ++ (d ++ (e ++ (f ++ g)))))
assoc7 a b c d e f g = append_assoc ((((a ++ b) ++ c) ++ d) ++ e) f g ∙ assoc6 a b c d e (f ++ g)

pub assoc_source : (s e i : List Terminal) (a b : Terminal) → (((s ++ e) ++ i) ++ (a ∷ [])) ++ (b ∷ []) ≡ (s ++ (e ++ i)) ++ (a ∷ b ∷ [])
assoc_source s e i a b = append_assoc ((s ++ e) ++ i) (a ∷ []) (b ∷ []) ∙ ap (λ z. z ++ (a ∷ b ∷ [])) (append_assoc s e i)
