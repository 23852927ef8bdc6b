-- The machine's step at each place, in tests of the next token.
use Rattle.std.proofs.Common.{◌≡◌, ℕ, ◌+◌, suc, zero, Bool, true, false, not, ◌||◌, ◌&&◌, nat_lt, List, [], ◌∷◌, ◌++◌, length, take, drop, Option, Some, None, option_map, option_and_then, Result, Err, refl, sym, ap, ◌∙◌, if◌then◌else◌, ◌-◌, arith}
use Rattle.std.specs.Prelude.{slice_get}
use Rattle.ch_sql_grammar.specs.declared.terminal.Mark.TheVariants as mark
use Rattle.ch_sql_grammar.specs.declared.terminal.Terminal.{Terminal}
use Rattle.ch_sql_grammar.specs.declared.query.ColumnRef.{ColumnRef}
use Rattle.ch_pred.specs.declared.pred.Cmp.{Cmp}
use Rattle.ch_pred.specs.declared.pred.Literal.{Literal}
use Rattle.ch_sql_grammar.specs.declared.query.Side.TheVariants as side
use Rattle.ch_sql_grammar.specs.declared.error.ParseError.{ParseError}
use Rattle.ch_sql_grammar.specs.declared.error.ParseError.TheVariants as error
use Rattle.ch_sql_grammar.specs.Tree.{Plain, Compare, Between, Within, Like, Not, all_of, any_of, Select}
use Rattle.ch_sql_grammar.specs.Tokens.{has_mark, name_in, literal_in, text_in, cmp_in, is_there, marked, name_at, literal_at, text_at, cmp_at}
use Rattle.ch_sql_grammar.specs.declared.head.Head.{Head}
use Rattle.ch_sql_grammar.specs.declared.tail.TailPlace.TheVariants as place
use Rattle.ch_sql_places.specs.Machine.{Around, Member, Negated, Level, Whole, Group, Taker, First, Second, Leading, Place, Want, Name, Dot, Atom, Compared, Low, LowAnd, High, In, Listed, Next, LikeText, Negs, Conjs, Closed, Tailing, have, took, takes_or, takes_tail, step, limit, finish, goes, ends, parse_from, step_settled, finish_settled, given, depth_of, is_pattern}
use Rattle.ch_sql_places.specs.Parsing.{parse_at}

abbrev pub Answer : Type 0
Answer = Result Select ParseError

-- the answer where the next token is this one, if there is one
abbrev pub at_place : Option Terminal → Place → ℕ → (Place → Result Select ParseError) → Result Select ParseError
at_place None place at f = ends (finish place) at
at_place (Some t) place at f = goes (step place t) (limit place at t) at f

dropped : (t : Terminal) (ts : List Terminal) (at : ℕ) → drop (suc at + 1) (t ∷ ts) ≡ drop (at + 1) ts
dropped t ts at = let e : suc at + 1 ≡ suc (at + 1) = omega arith in ap (λ n. drop n (t ∷ ts)) e

pub drop_get : (tokens : List Terminal) (at : ℕ) (P : List Terminal → Option Terminal → Type 0) →
    ((t : Terminal) (rest : List Terminal) → rest ≡ drop (at + 1) tokens → P (t ∷ rest) (Some t)) → P [] None → P (drop at tokens) (slice_get tokens at)
drop_get [] zero P some none = none
drop_get [] (suc at) P some none = none
drop_get (t ∷ ts) zero P some none = some t ts refl
drop_get (t ∷ ts) (suc at) P some none = drop_get ts at P (λ u rest e. some u rest (e ∙ sym (dropped t ts at))) none

pub parse_is : (tokens : List Terminal) (place : Place) (at : ℕ) →
    parse_at tokens place at ≡ at_place (slice_get tokens at) place at (λ next. parse_at tokens next (at + 1))
unfolding parse_at
parse_is tokens place at = drop_get tokens at
    (λ ts o. parse_from place at ts ≡ at_place o place at (λ next. parse_from next (at + 1) (drop (at + 1) tokens)))
    (λ t rest e. ap (λ r. goes (step place t) (limit place at t) at (λ next. parse_from next (at + 1) r)) e)
    refl

-- one way for a value that comes, another where none does
abbrev pub picked : {A R : Type 0} → Option A → (A → R) → R → R
picked (Some x) f e = f x
picked None f e = e

abbrev pub read : {A : Type 0} → Option A → ℕ → (A → Answer) → Answer
read o at f = picked o f (Err (error.Syntax at))

goes_if : (b : Bool) (p : Place) (r : Option Place) (at : ℕ) (f : Place → Answer) →
    goes (if b then Some p else r) None at f ≡ (if b then f p else goes r None at f)
goes_if true p r at f = refl
goes_if false p r at f = refl

goes_map : {A : Type 0} → (g : A → Place) (o : Option A) (at : ℕ) (f : Place → Answer) →
    goes (option_map g o) None at f ≡ read o at (λ x. f (g x))
goes_map g (Some x) at f = refl
goes_map g None at f = refl

goes_given : {A : Type 0} → (o : Option A) (g : A → Place) (r : Option Place) (at : ℕ) (f : Place → Answer) →
    goes (given o (λ x. Some (g x)) r) None at f ≡ picked o (λ x. f (g x)) (goes r None at f)
goes_given (Some x) g r at f = refl
goes_given None g r at f = refl

-- behind an atom no limit applies
have_settled : (around : Around) (p : Plain) (o : Option Terminal) (at : ℕ) (f : Place → Answer) →
    at_place o (have p around) at f ≡ picked o (λ t. goes (step_settled (have p around) t) None at f) (ends (finish_settled (have p around)) at)
have_settled (Member conjs negs level) p (Some t) at f = refl
have_settled (Member conjs negs level) p None at f = refl
have_settled (Negated around) p o at f = have_settled around (Not p) o at f

took_settled : (taker : Taker) (col : ColumnRef) (o : Option Terminal) (at : ℕ) (f : Place → Answer) →
    at_place o (took taker col) at f ≡ picked o (λ t. goes (step_settled (took taker col) t) None at f) (ends (finish_settled (took taker col)) at)
took_settled (First around) col (Some t) at f = refl
took_settled (First around) col None at f = refl
took_settled (Second around left cmp) col o at f = have_settled around _ o at f
took_settled (Leading h) col (Some t) at f = refl
took_settled (Leading h) col None at f = refl

abbrev pub bare : List ℕ → ColumnRef
bare n = record { table = None; name = n }

abbrev pub of_table : List ℕ → List ℕ → ColumnRef
of_table t n = record { table = Some t; name = n }

name_there : (o : Option Terminal) (taker : Taker) (n : List ℕ) (at : ℕ) (f : Place → Answer) →
    at_place o (Name taker n) at f ≡ (if is_there mark.Dot o then f (Dot taker n) else at_place o (took taker (bare n)) at f)
name_there None taker n at f = sym (took_settled taker (bare n) None at f)
name_there (Some t) taker n at f = goes_if (has_mark mark.Dot t) (Dot taker n) _ at f ∙ ap (λ r. if has_mark mark.Dot t then f (Dot taker n) else r) (sym (took_settled taker (bare n) (Some t) at f))

pub name_rule : (tokens : List Terminal) (taker : Taker) (n : List ℕ) (at : ℕ) →
    parse_at tokens (Name taker n) at ≡ (if marked mark.Dot tokens at then parse_at tokens (Dot taker n) (at + 1) else parse_at tokens (took taker (bare n)) at)
unfolding marked name_at literal_at text_at cmp_at
name_rule tokens taker n at = parse_is tokens (Name taker n) at ∙ name_there (slice_get tokens at) taker n at _ ∙ ap (λ r. if marked mark.Dot tokens at then parse_at tokens (Dot taker n) (at + 1) else r) (sym (parse_is tokens (took taker (bare n)) at))

dot_there : (o : Option Terminal) (taker : Taker) (n : List ℕ) (at : ℕ) (f : Place → Answer) →
    at_place o (Dot taker n) at f ≡ read (option_and_then name_in o) at (λ m. f (took taker (of_table n m)))
dot_there None taker n at f = refl
dot_there (Some t) taker n at f = goes_map _ (name_in t) at f

pub dot_rule : (tokens : List Terminal) (taker : Taker) (n : List ℕ) (at : ℕ) →
    parse_at tokens (Dot taker n) at ≡ read (name_at tokens at) at (λ m. parse_at tokens (took taker (of_table n m)) (at + 1))
unfolding marked name_at literal_at text_at cmp_at
dot_rule tokens taker n at = parse_is tokens (Dot taker n) at ∙ dot_there (slice_get tokens at) taker n at _

low_there : (o : Option Terminal) (around : Around) (col : ColumnRef) (at : ℕ) (f : Place → Answer) →
    at_place o (Low around col) at f ≡ read (option_and_then literal_in o) at (λ v. f (LowAnd around col v))
low_there None around col at f = refl
low_there (Some t) around col at f = goes_map _ (literal_in t) at f

pub low_rule : (tokens : List Terminal) (around : Around) (col : ColumnRef) (at : ℕ) →
    parse_at tokens (Low around col) at ≡ read (literal_at tokens at) at (λ v. parse_at tokens (LowAnd around col v) (at + 1))
unfolding marked name_at literal_at text_at cmp_at
low_rule tokens around col at = parse_is tokens (Low around col) at ∙ low_there (slice_get tokens at) around col at _

low_and_there : (o : Option Terminal) (around : Around) (col : ColumnRef) (low : Literal) (at : ℕ) (f : Place → Answer) →
    at_place o (LowAnd around col low) at f ≡ (if is_there mark.And o then f (High around col low) else Err (error.Syntax at))
low_and_there None around col low at f = refl
low_and_there (Some t) around col low at f = goes_if (has_mark mark.And t) _ None at f

pub low_and_rule : (tokens : List Terminal) (around : Around) (col : ColumnRef) (low : Literal) (at : ℕ) →
    parse_at tokens (LowAnd around col low) at ≡ (if marked mark.And tokens at then parse_at tokens (High around col low) (at + 1) else Err (error.Syntax at))
unfolding marked name_at literal_at text_at cmp_at
low_and_rule tokens around col low at = parse_is tokens (LowAnd around col low) at ∙ low_and_there (slice_get tokens at) around col low at _

high_there : (o : Option Terminal) (around : Around) (col : ColumnRef) (low : Literal) (at : ℕ) (f : Place → Answer) →
    at_place o (High around col low) at f ≡ read (option_and_then literal_in o) at (λ v. f (have (Between col low v) around))
high_there None around col low at f = refl
high_there (Some t) around col low at f = goes_map _ (literal_in t) at f

pub high_rule : (tokens : List Terminal) (around : Around) (col : ColumnRef) (low : Literal) (at : ℕ) →
    parse_at tokens (High around col low) at ≡ read (literal_at tokens at) at (λ v. parse_at tokens (have (Between col low v) around) (at + 1))
unfolding marked name_at literal_at text_at cmp_at
high_rule tokens around col low at = parse_is tokens (High around col low) at ∙ high_there (slice_get tokens at) around col low at _

atom_there : (o : Option Terminal) (around : Around) (col : ColumnRef) (at : ℕ) (f : Place → Answer) →
    at_place o (Atom around col) at f ≡ picked (option_and_then cmp_in o) (λ c. f (Compared around col c)) (
    if is_there mark.Between o then f (Low around col) else
    if is_there mark.In o then f (In around col) else
    if is_there mark.Like o then f (LikeText around col) else Err (error.Syntax at))
atom_there None around col at f = refl
atom_there (Some t) around col at f = goes_given (cmp_in t) _ _ at f ∙ ap (λ r. picked (cmp_in t) (λ c. f (Compared around col c)) r)
    (goes_if (has_mark mark.Between t) _ _ at f ∙ ap (λ r. if has_mark mark.Between t then f (Low around col) else r)
    (goes_if (has_mark mark.In t) _ _ at f ∙ ap (λ r. if has_mark mark.In t then f (In around col) else r)
    (goes_if (has_mark mark.Like t) _ None at f)))

pub atom_rule : (tokens : List Terminal) (around : Around) (col : ColumnRef) (at : ℕ) →
    parse_at tokens (Atom around col) at ≡ picked (cmp_at tokens at) (λ c. parse_at tokens (Compared around col c) (at + 1)) (
    if marked mark.Between tokens at then parse_at tokens (Low around col) (at + 1) else
    if marked mark.In tokens at then parse_at tokens (In around col) (at + 1) else
    if marked mark.Like tokens at then parse_at tokens (LikeText around col) (at + 1) else Err (error.Syntax at))
unfolding marked name_at literal_at text_at cmp_at
atom_rule tokens around col at = parse_is tokens (Atom around col) at ∙ atom_there (slice_get tokens at) around col at _

compared_there : (o : Option Terminal) (around : Around) (col : ColumnRef) (c : Cmp) (at : ℕ) (f : Place → Answer) →
    at_place o (Compared around col c) at f ≡ picked (option_and_then name_in o) (λ n. f (Name (Second around col c) n))
    (read (option_and_then literal_in o) at (λ v. f (have (Compare col c (side.Value v)) around)))
compared_there None around col c at f = refl
compared_there (Some t) around col c at f = goes_given (name_in t) _ _ at f ∙ ap (λ r. picked (name_in t) (λ n. f (Name (Second around col c) n)) r) (goes_map _ (literal_in t) at f)

pub compared_rule : (tokens : List Terminal) (around : Around) (col : ColumnRef) (c : Cmp) (at : ℕ) →
    parse_at tokens (Compared around col c) at ≡ picked (name_at tokens at) (λ n. parse_at tokens (Name (Second around col c) n) (at + 1))
    (read (literal_at tokens at) at (λ v. parse_at tokens (have (Compare col c (side.Value v)) around) (at + 1)))
unfolding marked name_at literal_at text_at cmp_at
compared_rule tokens around col c at = parse_is tokens (Compared around col c) at ∙ compared_there (slice_get tokens at) around col c at _

in_there : (o : Option Terminal) (around : Around) (col : ColumnRef) (at : ℕ) (f : Place → Answer) →
    at_place o (In around col) at f ≡ (if is_there mark.LeftParen o then f (Listed around col []) else Err (error.Syntax at))
in_there None around col at f = refl
in_there (Some t) around col at f = goes_if (has_mark mark.LeftParen t) _ None at f

pub in_rule : (tokens : List Terminal) (around : Around) (col : ColumnRef) (at : ℕ) →
    parse_at tokens (In around col) at ≡ (if marked mark.LeftParen tokens at then parse_at tokens (Listed around col []) (at + 1) else Err (error.Syntax at))
unfolding marked name_at literal_at text_at cmp_at
in_rule tokens around col at = parse_is tokens (In around col) at ∙ in_there (slice_get tokens at) around col at _

-- a limit at a token that the grammar takes
goes_limited : {A : Type 0} → (g : A → Place) (o : Option A) (few : Bool) (e : ParseError) (at : ℕ) (f : Place → Answer) →
    goes (option_map g o) (if few then None else Some e) at f ≡ read o at (λ x. if few then f (g x) else Err e)
goes_limited g (Some x) true e at f = refl
goes_limited g (Some x) false e at f = refl
goes_limited g None few e at f = refl

listed_there : (o : Option Terminal) (around : Around) (col : ColumnRef) (literals : List Literal) (at : ℕ) (f : Place → Answer) →
    at_place o (Listed around col literals) at f ≡ read (option_and_then literal_in o) at (λ v.
    if nat_lt (length literals) 16 then f (Next around col (literals ++ (v ∷ []))) else Err (error.InTooLong at))
listed_there None around col literals at f = refl
listed_there (Some t) around col literals at f = goes_limited _ (literal_in t) (nat_lt (length literals) 16) _ at f

pub listed_rule : (tokens : List Terminal) (around : Around) (col : ColumnRef) (literals : List Literal) (at : ℕ) →
    parse_at tokens (Listed around col literals) at ≡ read (literal_at tokens at) at (λ v.
    if nat_lt (length literals) 16 then parse_at tokens (Next around col (literals ++ (v ∷ []))) (at + 1) else Err (error.InTooLong at))
unfolding marked name_at literal_at text_at cmp_at
listed_rule tokens around col literals at = parse_is tokens (Listed around col literals) at ∙ listed_there (slice_get tokens at) around col literals at _

next_there : (o : Option Terminal) (around : Around) (col : ColumnRef) (literals : List Literal) (at : ℕ) (f : Place → Answer) →
    at_place o (Next around col literals) at f ≡ (
    if is_there mark.Comma o then f (Listed around col literals) else
    if is_there mark.RightParen o then f (have (Within col literals) around) else Err (error.Syntax at))
next_there None around col literals at f = refl
next_there (Some t) around col literals at f = goes_if (has_mark mark.Comma t) _ _ at f ∙ ap (λ r. if has_mark mark.Comma t then f (Listed around col literals) else r)
    (goes_if (has_mark mark.RightParen t) _ None at f)

pub next_rule : (tokens : List Terminal) (around : Around) (col : ColumnRef) (literals : List Literal) (at : ℕ) →
    parse_at tokens (Next around col literals) at ≡ (
    if marked mark.Comma tokens at then parse_at tokens (Listed around col literals) (at + 1) else
    if marked mark.RightParen tokens at then parse_at tokens (have (Within col literals) around) (at + 1) else Err (error.Syntax at))
unfolding marked name_at literal_at text_at cmp_at
next_rule tokens around col literals at = parse_is tokens (Next around col literals) at ∙ next_there (slice_get tokens at) around col literals at _

goes_text : (g : List ℕ → Place) (o : Option (List ℕ)) (e : ParseError) (at : ℕ) (f : Place → Answer) →
    goes (option_map g o) (option_and_then (λ s. if is_pattern s then None else Some e) o) at f ≡ read o at (λ s. if is_pattern s then f (g s) else Err e)
goes_text g None e at f = refl
goes_text g (Some s) e at f = text_case (is_pattern s)
  where
    text_case : (b : Bool) → goes (Some (g s)) (if b then None else Some e) at f ≡ (if b then f (g s) else Err e)
    text_case true = refl
    text_case false = refl

like_there : (o : Option Terminal) (around : Around) (col : ColumnRef) (at : ℕ) (f : Place → Answer) →
    at_place o (LikeText around col) at f ≡ read (option_and_then text_in o) at (λ s.
    if is_pattern s then f (have (Like col (take (length s - 1) s)) around) else Err (error.BadLike at))
like_there None around col at f = refl
like_there (Some t) around col at f = goes_text _ (text_in t) _ at f

pub like_rule : (tokens : List Terminal) (around : Around) (col : ColumnRef) (at : ℕ) →
    parse_at tokens (LikeText around col) at ≡ read (text_at tokens at) at (λ s.
    if is_pattern s then parse_at tokens (have (Like col (take (length s - 1) s)) around) (at + 1) else Err (error.BadLike at))
unfolding marked name_at literal_at text_at cmp_at
like_rule tokens around col at = parse_is tokens (LikeText around col) at ∙ like_there (slice_get tokens at) around col at _

negs_there : (o : Option Terminal) (conjs negs : List Plain) (level : Level) (at : ℕ) (f : Place → Answer) →
    at_place o (Negs conjs negs level) at f ≡ (if is_there mark.And o then f (Want (Member conjs negs level)) else at_place o (Conjs (conjs ++ (all_of negs ∷ [])) level) at f)
negs_there None conjs negs level at f = refl
negs_there (Some t) conjs negs level at f = goes_if (has_mark mark.And t) _ _ at f

pub negs_rule : (tokens : List Terminal) (conjs negs : List Plain) (level : Level) (at : ℕ) →
    parse_at tokens (Negs conjs negs level) at ≡ (if marked mark.And tokens at then parse_at tokens (Want (Member conjs negs level)) (at + 1) else parse_at tokens (Conjs (conjs ++ (all_of negs ∷ [])) level) at)
unfolding marked name_at literal_at text_at cmp_at
negs_rule tokens conjs negs level at = parse_is tokens (Negs conjs negs level) at ∙ negs_there (slice_get tokens at) conjs negs level at _
    ∙ ap (λ r. if marked mark.And tokens at then parse_at tokens (Want (Member conjs negs level)) (at + 1) else r) (sym (parse_is tokens (Conjs (conjs ++ (all_of negs ∷ [])) level) at))

conjs_there : (o : Option Terminal) (conjs : List Plain) (level : Level) (at : ℕ) (f : Place → Answer) →
    at_place o (Conjs conjs level) at f ≡ (if is_there mark.Or o && takes_or level then f (Want (Member conjs [] level)) else at_place o (Closed (any_of conjs) level) at f)
conjs_there None conjs level at f = refl
conjs_there (Some t) conjs level at f = goes_if (has_mark mark.Or t && takes_or level) _ _ at f

pub conjs_rule : (tokens : List Terminal) (conjs : List Plain) (level : Level) (at : ℕ) →
    parse_at tokens (Conjs conjs level) at ≡ (if marked mark.Or tokens at && takes_or level then parse_at tokens (Want (Member conjs [] level)) (at + 1) else parse_at tokens (Closed (any_of conjs) level) at)
unfolding marked name_at literal_at text_at cmp_at
conjs_rule tokens conjs level at = parse_is tokens (Conjs conjs level) at ∙ conjs_there (slice_get tokens at) conjs level at _
    ∙ ap (λ r. if marked mark.Or tokens at && takes_or level then parse_at tokens (Want (Member conjs [] level)) (at + 1) else r) (sym (parse_is tokens (Closed (any_of conjs) level) at))

group_there : (o : Option Terminal) (p : Plain) (around : Around) (at : ℕ) (f : Place → Answer) →
    at_place o (Closed p (Group around)) at f ≡ (if is_there mark.RightParen o then f (have p around) else Err (error.Syntax at))
group_there None p around at f = refl
group_there (Some t) p around at f = goes_if (has_mark mark.RightParen t) _ None at f

pub group_rule : (tokens : List Terminal) (p : Plain) (around : Around) (at : ℕ) →
    parse_at tokens (Closed p (Group around)) at ≡ (if marked mark.RightParen tokens at then parse_at tokens (have p around) (at + 1) else Err (error.Syntax at))
unfolding marked name_at literal_at text_at cmp_at
group_rule tokens p around at = parse_is tokens (Closed p (Group around)) at ∙ group_there (slice_get tokens at) p around at _

want_goes : (n l : Bool) (deep : Bool) (a b : Place) (g : List ℕ → Place) (o : Option (List ℕ)) (e : ParseError) (at : ℕ) (f : Place → Answer) →
    goes (if n then Some a else if l then Some b else option_map g o) (if (n || l) && not deep then Some e else None) at f ≡ (
    if n then (if deep then f a else Err e) else
    if l then (if deep then f b else Err e) else read o at (λ x. f (g x)))
want_goes true l true a b g o e at f = refl
want_goes true l false a b g o e at f = refl
want_goes false true true a b g o e at f = refl
want_goes false true false a b g o e at f = refl
want_goes false false deep a b g o e at f = goes_map g o at f

want_there : (o : Option Terminal) (around : Around) (at : ℕ) (f : Place → Answer) →
    at_place o (Want around) at f ≡ (
    if is_there mark.Not o then (if nat_lt (depth_of around) 32 then f (Want (Negated around)) else Err (error.TooDeep at)) else
    if is_there mark.LeftParen o then (if nat_lt (depth_of around) 32 then f (Want (Member [] [] (Group around))) else Err (error.TooDeep at)) else
    read (option_and_then name_in o) at (λ n. f (Name (First around) n)))
want_there None around at f = refl
want_there (Some t) around at f = want_goes (has_mark mark.Not t) (has_mark mark.LeftParen t) (nat_lt (depth_of around) 32) _ _ _ (name_in t) _ at f

pub want_rule : (tokens : List Terminal) (around : Around) (at : ℕ) →
    parse_at tokens (Want around) at ≡ (
    if marked mark.Not tokens at then (if nat_lt (depth_of around) 32 then parse_at tokens (Want (Negated around)) (at + 1) else Err (error.TooDeep at)) else
    if marked mark.LeftParen tokens at then (if nat_lt (depth_of around) 32 then parse_at tokens (Want (Member [] [] (Group around))) (at + 1) else Err (error.TooDeep at)) else
    read (name_at tokens at) at (λ n. parse_at tokens (Name (First around) n) (at + 1)))
unfolding marked name_at literal_at text_at cmp_at
want_rule tokens around at = parse_is tokens (Want around) at ∙ want_there (slice_get tokens at) around at _

-- behind a filter a tail may begin
filter_there : (o : Option Terminal) (p : Plain) (h : Head) (at : ℕ) (f : Place → Answer) → at_place o (Closed p (Whole h)) at f ≡ at_place o (Tailing h (Some p) (place.Start (takes_tail h))) at f
filter_there None p h at f = refl
filter_there (Some t) p h at f = refl

pub filter_rule : (tokens : List Terminal) (p : Plain) (h : Head) (at : ℕ) → parse_at tokens (Closed p (Whole h)) at ≡ parse_at tokens (Tailing h (Some p) (place.Start (takes_tail h))) at
filter_rule tokens p h at = parse_is tokens (Closed p (Whole h)) at ∙ filter_there (slice_get tokens at) p h at _ ∙ sym (parse_is tokens (Tailing h (Some p) (place.Start (takes_tail h))) at)

pub ruleset machine = (name_rule, dot_rule, low_rule, low_and_rule, high_rule, atom_rule, compared_rule, in_rule, listed_rule, next_rule, like_rule, negs_rule, conjs_rule, group_rule, want_rule)
