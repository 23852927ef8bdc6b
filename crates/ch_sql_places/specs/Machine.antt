-- The places that a list of tokens comes to, and where a token leads from there.
use Rattle.std.specs.Prelude.{ℕ, ◌+◌, ◌==◌, Bool, true, false, ◌||◌, not, nat_lt, List, [], ◌∷◌, ◌++◌, length, take, Option, Some, None, option_map, option_and_then, ◌&&◌, ◌-◌, Result, Ok, Err, if◌then◌else◌, slice_index_or}
use Rattle.std.specs.List.{list_all}
use Rattle.ch_sql_grammar.specs.declared.limits.TheConstants.{MAX_DEPTH, MAX_LITERALS}
use Rattle.ch_sql_grammar.specs.declared.terminal.Mark.TheVariants as mark
use Rattle.ch_sql_grammar.specs.declared.terminal.Terminal.{Terminal}
use Rattle.ch_sql_grammar.specs.declared.query.ColumnRef.{ColumnRef}
use Rattle.ch_sql_grammar.specs.Grammar.{is_plain_item}
use Rattle.ch_sql_grammar.specs.declared.query.Source.{Source}
use Rattle.ch_sql_grammar.specs.declared.query.Source.TheVariants as source
use Rattle.ch_sql_grammar.specs.declared.query.Tail.{Tail}
use Rattle.ch_sql_grammar.specs.declared.query.Tail.TheVariants as tail
use Rattle.ch_sql_grammar.specs.declared.query.Side.TheVariants as side
use Rattle.ch_sql_grammar.specs.declared.head.Head.{Head}
use Rattle.ch_sql_grammar.specs.declared.head.HeadPlace.{HeadPlace}
use Rattle.ch_sql_grammar.specs.declared.head.HeadPlace.TheVariants as head
use Rattle.ch_sql_grammar.specs.declared.head.HeadTaker.TheVariants as taker
use Rattle.ch_sql_grammar.specs.declared.head.HeadStep.{HeadStep}
use Rattle.ch_sql_grammar.specs.declared.head.HeadStep.TheVariants as headstep
use Rattle.ch_sql_grammar.specs.declared.tail.TailPlace.{TailPlace}
use Rattle.ch_sql_grammar.specs.declared.tail.TailPlace.TheVariants as place
use Rattle.ch_sql_grammar.specs.HeadSteps as heads
use Rattle.ch_sql_grammar.specs.TailSteps as tails
use Rattle.ch_pred.specs.declared.pred.Cmp.{Cmp}
use Rattle.ch_pred.specs.declared.pred.Literal.{Literal}
use Rattle.ch_sql_grammar.specs.declared.error.ParseError.{ParseError}
use Rattle.ch_sql_grammar.specs.declared.error.ParseError.TheVariants as error
use Rattle.ch_sql_grammar.specs.Tree.{Plain, Compare, Between, Within, Like, Not, all_of, any_of, Select}
use Rattle.ch_sql_grammar.specs.Tokens.{has_mark, name_in, literal_in, text_in, cmp_in}

abbrev pub is_one : Source → Bool
is_one (source.One table) = true
is_one s = false

abbrev pub is_semi : Source → Bool
is_semi (source.Semi outer inner key inner_key) = true
is_semi s = false

abbrev pub outer_of : Source → List ℕ
outer_of (source.One table) = table
outer_of s = []

-- a tail may follow the head
abbrev pub takes_tail : Head → Bool
takes_tail h = not h.distinct && is_one h.source

-- the head may be that of a semi-join's outer table
abbrev pub may_be_outer : Head → Bool
may_be_outer h = takes_tail h && list_all is_plain_item h.items

abbrev pub selected : Head → Option Plain → Tail → Select
selected h filter t = record { distinct = h.distinct; items = h.items; source = h.source; filter = filter; tail = t }

mutual
  -- what stands around a neg: the finished conjs and negs of its pred, or a NOT
  pub data Around : Type 0 where
    Member : (conjs negs : List Plain) (level : Level) → Around
    Negated : (around : Around) → Around

  -- what stands around a pred: the query, or parentheses
  pub data Level : Type 0 where
    Whole : (head : Head) → Level
    Group : (around : Around) → Level

-- what takes a column of a predicate, or behind WHERE the key of a semi-join
pub data Taker : Type 0 where
  First : (around : Around) → Taker
  Second : (around : Around) (col : ColumnRef) (cmp : Cmp) → Taker
  Leading : (head : Head) → Taker

-- how far the tokens have come
pub data Place : Type 0 where
  Heading : (at : HeadPlace) → Place
  -- behind WHERE, where a semi-join may come; behind its column, its IN and its parenthesis
  Lead : (head : Head) → Place
  LeadCol : (head : Head) (col : ColumnRef) → Place
  LeadIn : (head : Head) (col : ColumnRef) → Place
  LeadListed : (head : Head) (col : ColumnRef) → Place
  -- a neg comes
  Want : (around : Around) → Place
  -- behind the first name of a column, and behind its dot
  Name : (taker : Taker) (name : List ℕ) → Place
  Dot : (taker : Taker) (name : List ℕ) → Place
  -- behind the column of an atom
  Atom : (around : Around) (col : ColumnRef) → Place
  Compared : (around : Around) (col : ColumnRef) (cmp : Cmp) → Place
  Low : (around : Around) (col : ColumnRef) → Place
  LowAnd : (around : Around) (col : ColumnRef) (low : Literal) → Place
  High : (around : Around) (col : ColumnRef) (low : Literal) → Place
  In : (around : Around) (col : ColumnRef) → Place
  -- a literal of a list comes, and behind a literal
  Listed : (around : Around) (col : ColumnRef) (literals : List Literal) → Place
  Next : (around : Around) (col : ColumnRef) (literals : List Literal) → Place
  LikeText : (around : Around) (col : ColumnRef) → Place
  -- behind a neg, behind a conj and behind a pred
  Negs : (conjs negs : List Plain) (level : Level) → Place
  Conjs : (conjs : List Plain) (level : Level) → Place
  Closed : (pred : Plain) (level : Level) → Place
  -- behind the filter, or behind a source without one
  Tailing : (head : Head) (filter : Option Plain) (at : TailPlace) → Place

-- behind a neg
abbrev pub have : Plain → Around → Place
have p (Member conjs negs level) = Negs conjs (negs ++ (p ∷ [])) level
have p (Negated around) = have (Not p) around

-- behind a column
abbrev pub took : Taker → ColumnRef → Place
took (First around) col = Atom around col
took (Second around left cmp) col = have (Compare left cmp (side.Column col)) around
took (Leading h) col = LeadCol h col

-- the filter of a head, before its first neg
abbrev pub whole : Head → Around
whole h = Member [] [] (Whole h)

abbrev pub given : {A B : Type 0} → Option A → (A → Option B) → Option B → Option B
given (Some x) f e = f x
given None f e = e

-- behind a source or a filter
abbrev pub tailing : Head → Option Plain → Terminal → Option Place
tailing h filter t = option_map (λ p. Tailing h filter p) (tails.step_of (place.Start (takes_tail h)) t)

-- behind a source; the filter of a semi-join follows AND
abbrev pub behind : Head → Terminal → Option Place
behind h t =
    if has_mark mark.Where t && not (is_semi h.source) then (if may_be_outer h then Some (Lead h) else Some (Want (whole h))) else
    if has_mark mark.And t && is_semi h.source then Some (Want (whole h)) else tailing h None t

abbrev pub headed : HeadStep → Terminal → Option Place
headed (headstep.On next) t = Some (Heading next)
headed (headstep.Done h) t = behind h t
headed headstep.Stuck t = None

abbrev pub after_pred : Plain → Level → Terminal → Option Place
after_pred p (Whole h) t = tailing h (Some p) t
after_pred p (Group around) t = if has_mark mark.RightParen t then Some (have p around) else None

-- the filter of a semi-join is a conj
abbrev pub takes_or : Level → Bool
takes_or (Whole h) = not (is_semi h.source)
takes_or (Group around) = true

abbrev pub after_conj : List Plain → Level → Terminal → Option Place
after_conj conjs level t = if has_mark mark.Or t && takes_or level then Some (Want (Member conjs [] level)) else after_pred (any_of conjs) level t

abbrev pub after_neg : List Plain → List Plain → Level → Terminal → Option Place
after_neg conjs negs level t = if has_mark mark.And t then Some (Want (Member conjs negs level)) else after_conj (conjs ++ (all_of negs ∷ [])) level t

-- behind the column of an atom
abbrev pub after_col : Around → ColumnRef → Terminal → Option Place
after_col around col t = given (cmp_in t) (λ c. Some (Compared around col c)) (
    if has_mark mark.Between t then Some (Low around col) else
    if has_mark mark.In t then Some (In around col) else
    if has_mark mark.Like t then Some (LikeText around col) else None)

-- the place behind a token, at the places where no column may end before it
abbrev pub step_settled : Place → Terminal → Option Place
step_settled (Heading at) t = headed (heads.step_of at t) t
step_settled (Lead h) t =
    if has_mark mark.Not t then Some (Want (Negated (whole h))) else
    if has_mark mark.LeftParen t then Some (Want (Member [] [] (Group (whole h)))) else
    option_map (λ n. Name (Leading h) n) (name_in t)
step_settled (LeadCol h col) t = if has_mark mark.In t then Some (LeadIn h col) else after_col (whole h) col t
step_settled (LeadIn h col) t = if has_mark mark.LeftParen t then Some (LeadListed h col) else None
step_settled (LeadListed h col) t =
    if has_mark mark.Select t then Some (Heading (head.Taking (taker.InnerKey h.items (outer_of h.source) col))) else
    option_map (λ v. Next (whole h) col (v ∷ [])) (literal_in t)
step_settled (Want around) t =
    if has_mark mark.Not t then Some (Want (Negated around)) else
    if has_mark mark.LeftParen t then Some (Want (Member [] [] (Group around))) else
    option_map (λ n. Name (First around) n) (name_in t)
step_settled (Name taker n) t = None
step_settled (Dot taker n) t = option_map (λ m. took taker (record { table = Some n; name = m })) (name_in t)
step_settled (Atom around col) t = after_col around col t
step_settled (Compared around col c) t =
    given (name_in t) (λ n. Some (Name (Second around col c) n)) (option_map (λ v. have (Compare col c (side.Value v)) around) (literal_in t))
step_settled (Low around col) t = option_map (λ v. LowAnd around col v) (literal_in t)
step_settled (LowAnd around col low) t = if has_mark mark.And t then Some (High around col low) else None
step_settled (High around col low) t = option_map (λ v. have (Between col low v) around) (literal_in t)
step_settled (In around col) t = if has_mark mark.LeftParen t then Some (Listed around col []) else None
step_settled (Listed around col literals) t = option_map (λ v. Next around col (literals ++ (v ∷ []))) (literal_in t)
step_settled (Next around col literals) t =
    if has_mark mark.Comma t then Some (Listed around col literals) else
    if has_mark mark.RightParen t then Some (have (Within col literals) around) else None
step_settled (LikeText around col) t = option_map (λ s. have (Like col (take (length s - 1) s)) around) (text_in t)
step_settled (Negs conjs negs level) t = after_neg conjs negs level t
step_settled (Conjs conjs level) t = after_conj conjs level t
step_settled (Closed p level) t = after_pred p level t
step_settled (Tailing h filter at) t = option_map (λ p. Tailing h filter p) (tails.step_of at t)

abbrev pub step : Place → Terminal → Option Place
step (Name taker n) t = if has_mark mark.Dot t then Some (Dot taker n) else step_settled (took taker (record { table = None; name = n })) t
step place t = step_settled place t

-- the query, where the tokens may end
abbrev pub pred_end : Plain → Level → Option Select
pred_end p (Whole h) = Some (selected h (Some p) tail.Nothing)
pred_end p (Group around) = None

abbrev pub finish_settled : Place → Option Select
finish_settled (Negs conjs negs level) = pred_end (any_of (conjs ++ (all_of negs ∷ []))) level
finish_settled (Conjs conjs level) = pred_end (any_of conjs) level
finish_settled (Closed p level) = pred_end p level
finish_settled (Heading at) = option_map (λ h. selected h None tail.Nothing) (heads.end_of at)
finish_settled (Tailing h filter at) = option_map (λ t. selected h filter t) (tails.end_of at)
finish_settled place = None

abbrev pub finish : Place → Option Select
finish (Name taker n) = finish_settled (took taker (record { table = None; name = n }))
finish place = finish_settled place

-- how many NOT and parentheses are open
abbrev mutual
  pub depth_of : Around → ℕ
  depth_of (Member conjs negs level) = level_depth level
  depth_of (Negated around) = depth_of around + 1

  pub level_depth : Level → ℕ
  level_depth (Whole h) = 0
  level_depth (Group around) = depth_of around + 1

-- a text that ends in % and has no other % and no _
abbrev pub is_pattern : List ℕ → Bool
is_pattern s = if nat_lt 0 (length s) then list_all (λ b. not (b == 37) && not (b == 95)) (take (length s - 1) s) && (slice_index_or s (length s - 1) 0 == 37) else false

-- what refuses a token that the grammar takes
abbrev pub limit : Place → ℕ → Terminal → Option ParseError
limit (Want around) at t =
    if (has_mark mark.Not t || has_mark mark.LeftParen t) && not (nat_lt (depth_of around) MAX_DEPTH) then Some (error.TooDeep at) else None
limit (Listed around col literals) at t = if nat_lt (length literals) MAX_LITERALS then None else Some (error.InTooLong at)
limit (LikeText around col) at t = option_and_then (λ s. if is_pattern s then None else Some (error.BadLike at)) (text_in t)
limit place at t = None

abbrev pub goes : Option Place → Option ParseError → ℕ → (Place → Result Select ParseError) → Result Select ParseError
goes None refused at f = Err (error.Syntax at)
goes (Some place) (Some e) at f = Err e
goes (Some place) None at f = f place

abbrev pub ends : Option Select → ℕ → Result Select ParseError
ends (Some q) at = Ok q
ends None at = Err (error.Syntax at)

-- what the tokens give from a place on, the first of which has the number at
abbrev pub parse_from : Place → ℕ → List Terminal → Result Select ParseError
parse_from place at [] = ends (finish place) at
parse_from place at (t ∷ ts) = goes (step place t) (limit place at t) at (λ next. parse_from next (at + 1) ts)

abbrev pub start : Place
start = Heading head.Start

-- the places alone, without what refuses a token

abbrev pub walk : Place → List Terminal → Option Place
walk place [] = Some place
walk place (t ∷ ts) = option_and_then (λ next. walk next ts) (step place t)

-- the query that the tokens give from a place on, if they give one
abbrev pub answer : Place → List Terminal → Option Select
answer place [] = finish place
answer place (t ∷ ts) = option_and_then (λ next. answer next ts) (step place t)
