-- Behind WHERE: where no key, IN, parenthesis and SELECT come, the tokens give what a predicate's give.
use Rattle.std.proofs.Common.{◌≡◌, ◌∙◌, ℕ, ◌+◌, Bool, true, false, not, ◌&&◌, ◌||◌, List, [], Option, Some, None, option_map, option_and_then, Err, refl, sym, ap, if◌then◌else◌, arith}
use Rattle.std.specs.Prelude.{slice_get}
use Rattle.ch_sql_grammar.specs.declared.terminal.Mark.TheVariants as mark
use Rattle.ch_sql_grammar.specs.declared.terminal.Terminal.{Terminal}
use Rattle.ch_sql_grammar.specs.declared.terminal.Terminal.TheVariants as terminal
use Rattle.ch_sql_grammar.specs.declared.query.ColumnRef.{ColumnRef}
use Rattle.ch_sql_grammar.specs.declared.error.ParseError.{ParseError}
use Rattle.ch_sql_grammar.specs.declared.error.ParseError.TheVariants as error
use Rattle.ch_sql_grammar.specs.declared.head.Head.{Head}
use Rattle.ch_sql_grammar.specs.declared.head.HeadPlace.TheVariants as head
use Rattle.ch_sql_grammar.specs.declared.head.HeadTaker.TheVariants as taker
use Rattle.ch_sql_grammar.specs.Tokens.{has_mark, name_in, is_there, marked, name_at}
use Rattle.ch_sql_places.specs.Machine.{Place, Taker, Heading, Lead, LeadCol, LeadIn, LeadListed, First, Leading, Want, Name, Dot, Atom, In, Listed, whole, outer_of, took, goes}
use Rattle.ch_sql_places.specs.Parsing.{parse_at}
use Rattle.ch_sql_places.proofs.Leads.{mark_is}
use Rattle.ch_sql_parser.proofs.Rules.{Answer, at_place, parse_is, bare, of_table, name_rule, dot_rule, in_rule}
use Rattle.ch_sql_parser.specs.Behind.{opens_select}
use Rattle.ch_sql_parser.proofs.Stepping.{both}

-- behind the SELECT of a semi-join
abbrev pub inner_key : Head → ColumnRef → Place
inner_key h col = Heading (head.Taking (taker.InnerKey h.items (outer_of h.source) col))

chosen : (b : Bool) (p : Place) (r : Option Place) (at : ℕ) (f : Place → Answer) → goes (if b then Some p else r) None at f ≡ (if b then f p else goes r None at f)
chosen true p r at f = refl
chosen false p r at f = refl

-- behind the key's IN and its parenthesis

col_there : (o : Option Terminal) (h : Head) (col : ColumnRef) (at : ℕ) (f : Place → Answer) →
    at_place o (LeadCol h col) at f ≡ (if is_there mark.In o then f (LeadIn h col) else at_place o (Atom (whole h) col) at f)
col_there None h col at f = refl
col_there (Some t) h col at f = chosen (has_mark mark.In t) _ _ at f

col_rule : (tokens : List Terminal) (h : Head) (col : ColumnRef) (at : ℕ) →
    parse_at tokens (LeadCol h col) at ≡ (if marked mark.In tokens at then parse_at tokens (LeadIn h col) (at + 1) else parse_at tokens (Atom (whole h) col) at)
unfolding marked
col_rule tokens h col at = parse_is tokens (LeadCol h col) at ∙ col_there (slice_get tokens at) h col at _
    ∙ ap (λ r. if marked mark.In tokens at then parse_at tokens (LeadIn h col) (at + 1) else r) (sym (parse_is tokens (Atom (whole h) col) at))

in_there : (o : Option Terminal) (h : Head) (col : ColumnRef) (at : ℕ) (f : Place → Answer) → is_there mark.In o ≡ true → at_place o (Atom (whole h) col) at f ≡ f (In (whole h) col)
in_there None h col at f is = cc
in_there (Some t) h col at f is = rw (mark_is mark.In t is) refl

atom_in : (tokens : List Terminal) (h : Head) (col : ColumnRef) (at : ℕ) → marked mark.In tokens at ≡ true → parse_at tokens (Atom (whole h) col) at ≡ parse_at tokens (In (whole h) col) (at + 1)
unfolding marked
atom_in tokens h col at is = parse_is tokens (Atom (whole h) col) at ∙ in_there (slice_get tokens at) h col at _ is

open_there : (o : Option Terminal) (h : Head) (col : ColumnRef) (at : ℕ) (f : Place → Answer) →
    at_place o (LeadIn h col) at f ≡ (if is_there mark.LeftParen o then f (LeadListed h col) else Err (error.Syntax at))
open_there None h col at f = refl
open_there (Some t) h col at f = chosen (has_mark mark.LeftParen t) _ None at f

open_rule : (tokens : List Terminal) (h : Head) (col : ColumnRef) (at : ℕ) →
    parse_at tokens (LeadIn h col) at ≡ (if marked mark.LeftParen tokens at then parse_at tokens (LeadListed h col) (at + 1) else Err (error.Syntax at))
unfolding marked
open_rule tokens h col at = parse_is tokens (LeadIn h col) at ∙ open_there (slice_get tokens at) h col at _

listed_there : (o : Option Terminal) (h : Head) (col : ColumnRef) (at : ℕ) (f : Place → Answer) →
    at_place o (LeadListed h col) at f ≡ (if is_there mark.Select o then f (inner_key h col) else at_place o (Listed (whole h) col []) at f)
listed_there None h col at f = refl
listed_there (Some t) h col at f = chosen (has_mark mark.Select t) _ _ at f

listed_rule : (tokens : List Terminal) (h : Head) (col : ColumnRef) (at : ℕ) →
    parse_at tokens (LeadListed h col) at ≡ (if marked mark.Select tokens at then parse_at tokens (inner_key h col) (at + 1) else parse_at tokens (Listed (whole h) col []) at)
unfolding marked
listed_rule tokens h col at = parse_is tokens (LeadListed h col) at ∙ listed_there (slice_get tokens at) h col at _
    ∙ ap (λ r. if marked mark.Select tokens at then parse_at tokens (inner_key h col) (at + 1) else r) (sym (parse_is tokens (Listed (whole h) col []) at))

-- behind the key

col_opens : (tokens : List Terminal) (h : Head) (col : ColumnRef) (at : ℕ) → opens_select tokens at ≡ true → parse_at tokens (LeadCol h col) at ≡ parse_at tokens (inner_key h col) (at + 3)
unfolding opens_select
col_opens tokens h col at is =
    let (front, select) = both (marked mark.In tokens at && marked mark.LeftParen tokens (at + 1)) _ is in
    let (inside, paren) = both (marked mark.In tokens at) _ front in
    let next : at + 2 ≡ at + 1 + 1 = omega arith in
    let here : marked mark.Select tokens (at + 1 + 1) ≡ true = ap (λ n. marked mark.Select tokens n) (sym next) ∙ select in
    rw (col_rule, inside, open_rule, paren, listed_rule, here) (ap (λ n. parse_at tokens (inner_key h col) n) (let e : at + 1 + 1 + 1 ≡ at + 3 = omega arith in e))

by_marks : (tokens : List Terminal) (h : Head) (col : ColumnRef) (at : ℕ) (i l s : Bool) → marked mark.In tokens at ≡ i → marked mark.LeftParen tokens (at + 1) ≡ l → marked mark.Select tokens (at + 1 + 1) ≡ s →
    i && l && s ≡ false → parse_at tokens (LeadCol h col) at ≡ parse_at tokens (Atom (whole h) col) at
by_marks tokens h col at false l s inside paren select shut = rw (col_rule, inside) refl
by_marks tokens h col at true false s inside paren select shut = rw (atom_in tokens h col at inside, in_rule, col_rule, inside, open_rule, paren) refl
by_marks tokens h col at true true false inside paren select shut = rw (atom_in tokens h col at inside, in_rule, col_rule, inside, open_rule, paren, listed_rule, select) refl
by_marks tokens h col at true true true inside paren select shut = cc

col_closed : (tokens : List Terminal) (h : Head) (col : ColumnRef) (at : ℕ) → opens_select tokens at ≡ false → parse_at tokens (LeadCol h col) at ≡ parse_at tokens (Atom (whole h) col) at
unfolding opens_select
col_closed tokens h col at shut =
    let next : at + 2 ≡ at + 1 + 1 = omega arith in
    by_marks tokens h col at _ _ _ refl refl (ap (λ n. marked mark.Select tokens n) (sym next)) shut

-- where no name comes, and behind one

unnamed_goes : (n l : Bool) (a b : Place) (f₁ f₂ : List ℕ → Place) (o : Option (List ℕ)) (e : ParseError) (at : ℕ) (f : Place → Answer) → o ≡ None →
    goes (if n then Some a else if l then Some b else option_map f₁ o) None at f ≡ goes (if n then Some a else if l then Some b else option_map f₂ o) (if (n || l) && not true then Some e else None) at f
unnamed_goes true l a b f₁ f₂ o e at f none = refl
unnamed_goes false true a b f₁ f₂ o e at f none = refl
unnamed_goes false false a b f₁ f₂ None e at f none = refl
unnamed_goes false false a b f₁ f₂ (Some x) e at f none = cc

unnamed_there : (o : Option Terminal) (h : Head) (at : ℕ) (f : Place → Answer) → option_and_then name_in o ≡ None → at_place o (Lead h) at f ≡ at_place o (Want (whole h)) at f
unnamed_there None h at f none = refl
unnamed_there (Some t) h at f none = unnamed_goes (has_mark mark.Not t) (has_mark mark.LeftParen t) _ _ _ _ (name_in t) _ at f none

pub lead_unnamed : (tokens : List Terminal) (h : Head) (at : ℕ) → name_at tokens at ≡ None → parse_at tokens (Lead h) at ≡ parse_at tokens (Want (whole h)) at
unfolding name_at
lead_unnamed tokens h at none = parse_is tokens (Lead h) at ∙ unnamed_there (slice_get tokens at) h at _ none ∙ sym (parse_is tokens (Want (whole h)) at)

lead_there : (o : Option Terminal) (h : Head) (n : List ℕ) (at : ℕ) (f : Place → Answer) → option_and_then name_in o ≡ Some n → at_place o (Lead h) at f ≡ f (Name (Leading h) n)
lead_there None h n at f is = cc
lead_there (Some (terminal.Mark m)) h n at f is = cc
lead_there (Some (terminal.Name k)) h n at f is = ap (λ x. f (Name (Leading h) x)) (let e : k ≡ n = cc in e)
lead_there (Some (terminal.Number k)) h n at f is = cc
lead_there (Some (terminal.Text k)) h n at f is = cc

lead_named : (tokens : List Terminal) (h : Head) (n : List ℕ) (at : ℕ) → name_at tokens at ≡ Some n → parse_at tokens (Lead h) at ≡ parse_at tokens (Name (Leading h) n) (at + 1)
unfolding name_at
lead_named tokens h n at is = parse_is tokens (Lead h) at ∙ lead_there (slice_get tokens at) h n at _ is

want_there : (o : Option Terminal) (h : Head) (n : List ℕ) (at : ℕ) (f : Place → Answer) → option_and_then name_in o ≡ Some n → at_place o (Want (whole h)) at f ≡ f (Name (First (whole h)) n)
want_there None h n at f is = cc
want_there (Some (terminal.Mark m)) h n at f is = cc
want_there (Some (terminal.Name k)) h n at f is = ap (λ x. f (Name (First (whole h)) x)) (let e : k ≡ n = cc in e)
want_there (Some (terminal.Number k)) h n at f is = cc
want_there (Some (terminal.Text k)) h n at f is = cc

want_named : (tokens : List Terminal) (h : Head) (n : List ℕ) (at : ℕ) → name_at tokens at ≡ Some n → parse_at tokens (Want (whole h)) at ≡ parse_at tokens (Name (First (whole h)) n) (at + 1)
unfolding name_at
want_named tokens h n at is = parse_is tokens (Want (whole h)) at ∙ want_there (slice_get tokens at) h n at _ is

-- behind a key with one name, and behind one with two

lead_bare : (tokens : List Terminal) (h : Head) (n : List ℕ) (at : ℕ) → name_at tokens at ≡ Some n → marked mark.Dot tokens (at + 1) ≡ false → parse_at tokens (Lead h) at ≡ parse_at tokens (LeadCol h (bare n)) (at + 1)
lead_bare tokens h n at is dot = rw (lead_named tokens h n at is, name_rule, dot) refl

want_bare : (tokens : List Terminal) (h : Head) (n : List ℕ) (at : ℕ) → name_at tokens at ≡ Some n → marked mark.Dot tokens (at + 1) ≡ false → parse_at tokens (Want (whole h)) at ≡ parse_at tokens (Atom (whole h) (bare n)) (at + 1)
want_bare tokens h n at is dot = rw (want_named tokens h n at is, name_rule, dot) refl

pub bare_opens : (tokens : List Terminal) (h : Head) (n : List ℕ) (at : ℕ) → name_at tokens at ≡ Some n → marked mark.Dot tokens (at + 1) ≡ false → opens_select tokens (at + 1) ≡ true →
    parse_at tokens (Lead h) at ≡ parse_at tokens (inner_key h (bare n)) (at + 4)
bare_opens tokens h n at is dot opens =
    let behind : at + 1 + 3 ≡ at + 4 = omega arith in
    lead_bare tokens h n at is dot ∙ col_opens tokens h (bare n) (at + 1) opens ∙ ap (λ m. parse_at tokens (inner_key h (bare n)) m) behind

pub bare_closed : (tokens : List Terminal) (h : Head) (n : List ℕ) (at : ℕ) → name_at tokens at ≡ Some n → marked mark.Dot tokens (at + 1) ≡ false → opens_select tokens (at + 1) ≡ false →
    parse_at tokens (Lead h) at ≡ parse_at tokens (Want (whole h)) at
bare_closed tokens h n at is dot opens = lead_bare tokens h n at is dot ∙ col_closed tokens h (bare n) (at + 1) opens ∙ sym (want_bare tokens h n at is dot)

lead_dot : (tokens : List Terminal) (h : Head) (n : List ℕ) (at : ℕ) → name_at tokens at ≡ Some n → marked mark.Dot tokens (at + 1) ≡ true → parse_at tokens (Lead h) at ≡ parse_at tokens (Dot (Leading h) n) (at + 2)
lead_dot tokens h n at is dot = rw (lead_named tokens h n at is, name_rule, dot) (ap (λ m. parse_at tokens (Dot (Leading h) n) m) (let e : at + 1 + 1 ≡ at + 2 = omega arith in e))

want_dot : (tokens : List Terminal) (h : Head) (n : List ℕ) (at : ℕ) → name_at tokens at ≡ Some n → marked mark.Dot tokens (at + 1) ≡ true → parse_at tokens (Want (whole h)) at ≡ parse_at tokens (Dot (First (whole h)) n) (at + 2)
want_dot tokens h n at is dot = rw (want_named tokens h n at is, name_rule, dot) (ap (λ m. parse_at tokens (Dot (First (whole h)) n) m) (let e : at + 1 + 1 ≡ at + 2 = omega arith in e))

pub dot_unnamed : (tokens : List Terminal) (h : Head) (n : List ℕ) (at : ℕ) → name_at tokens at ≡ Some n → marked mark.Dot tokens (at + 1) ≡ true → name_at tokens (at + 2) ≡ None →
    parse_at tokens (Lead h) at ≡ parse_at tokens (Want (whole h)) at
dot_unnamed tokens h n at is dot none = rw (lead_dot tokens h n at is dot, want_dot tokens h n at is dot, dot_rule tokens (Leading h) n (at + 2), dot_rule tokens (First (whole h)) n (at + 2), none) refl

-- behind the two names
two_names : (tokens : List Terminal) (taken : Taker) (n m : List ℕ) (at : ℕ) → name_at tokens (at + 2) ≡ Some m → parse_at tokens (Dot taken n) (at + 2) ≡ parse_at tokens (took taken (of_table n m)) (at + 3)
two_names tokens taken n m at is = rw (dot_rule, is) (ap (λ k. parse_at tokens (took taken (of_table n m)) k) (let e : at + 2 + 1 ≡ at + 3 = omega arith in e))

pub dotted_opens : (tokens : List Terminal) (h : Head) (n m : List ℕ) (at : ℕ) → name_at tokens at ≡ Some n → marked mark.Dot tokens (at + 1) ≡ true → name_at tokens (at + 2) ≡ Some m → opens_select tokens (at + 3) ≡ true →
    parse_at tokens (Lead h) at ≡ parse_at tokens (inner_key h (of_table n m)) (at + 6)
dotted_opens tokens h n m at is dot named opens =
    let behind : at + 3 + 3 ≡ at + 6 = omega arith in
    lead_dot tokens h n at is dot ∙ two_names tokens (Leading h) n m at named ∙ col_opens tokens h (of_table n m) (at + 3) opens ∙ ap (λ k. parse_at tokens (inner_key h (of_table n m)) k) behind

pub dotted_closed : (tokens : List Terminal) (h : Head) (n m : List ℕ) (at : ℕ) → name_at tokens at ≡ Some n → marked mark.Dot tokens (at + 1) ≡ true → name_at tokens (at + 2) ≡ Some m → opens_select tokens (at + 3) ≡ false →
    parse_at tokens (Lead h) at ≡ parse_at tokens (Want (whole h)) at
dotted_closed tokens h n m at is dot named opens =
    lead_dot tokens h n at is dot ∙ two_names tokens (Leading h) n m at named ∙ col_closed tokens h (of_table n m) (at + 3) opens ∙ sym (want_dot tokens h n at is dot ∙ two_names tokens (First (whole h)) n m at named)
