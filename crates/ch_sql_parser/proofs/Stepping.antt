-- What a token does at the places of heads and tails, and behind a head.
use Rattle.std.proofs.Common.{◌≡◌, ◌∙◌, ℕ, ◌+◌, Bool, true, false, not, ◌&&◌, List, [], ◌∷◌, Option, Some, None, option_map, Result, Ok, Err, IfOk, refl, sym, ap, if◌then◌else◌}
use Rattle.std.specs.Prelude.{slice_get}
use Rattle.ch_sql_grammar.specs.declared.terminal.Mark.TheVariants as mark
use Rattle.ch_sql_grammar.specs.declared.terminal.Terminal.{Terminal}
use Rattle.ch_sql_grammar.specs.declared.error.ParseError.{ParseError}
use Rattle.ch_sql_grammar.specs.declared.error.ParseError.TheVariants as error
use Rattle.ch_sql_grammar.specs.declared.query.Source.{Source}
use Rattle.ch_sql_grammar.specs.declared.query.Source.TheVariants as source
use Rattle.ch_sql_grammar.specs.declared.query.Tail.{Tail}
use Rattle.ch_sql_grammar.specs.declared.query.Tail.TheVariants as tail
use Rattle.ch_sql_grammar.specs.declared.head.Head.{Head}
use Rattle.ch_sql_grammar.specs.declared.head.HeadPlace.{HeadPlace}
use Rattle.ch_sql_grammar.specs.declared.head.HeadPlace.TheVariants as head
use Rattle.ch_sql_grammar.specs.declared.head.HeadStep.{HeadStep}
use Rattle.ch_sql_grammar.specs.declared.head.HeadStep.TheVariants as headstep
use Rattle.ch_sql_grammar.specs.declared.tail.TailPlace.{TailPlace}
use Rattle.ch_sql_grammar.specs.declared.tail.TailPlace.TheVariants as place
use Rattle.ch_sql_grammar.specs.HeadSteps as heads
use Rattle.ch_sql_grammar.specs.TailSteps as tails
use Rattle.ch_sql_grammar.specs.Tokens.{has_mark, is_there, marked}
use Rattle.ch_sql_grammar.specs.Tree.{Plain}
use Rattle.ch_sql_places.specs.Machine.{Place, Heading, Lead, Want, Tailing, Conjs, Whole, whole, is_one, is_semi, takes_tail, may_be_outer, selected, headed, tailing, goes, ends}
use Rattle.ch_sql_places.specs.Parsing.{parse_at, Moves}
use Rattle.ch_sql_parser.proofs.Moving.{fails_along}
use Rattle.ch_sql_parser.proofs.Rules.{Answer, at_place, parse_is, conjs_rule, filter_rule}
use Rattle.ch_sql_parser.specs.Behind.{behind_head}

-- from a place on, where the token is known
pub known : (tokens : List Terminal) (p : Place) (at : ℕ) (o : Option Terminal) → slice_get tokens at ≡ o → parse_at tokens p at ≡ at_place o p at (λ next. parse_at tokens next (at + 1))
known tokens p at o h = parse_is tokens p at ∙ ap (λ x. at_place x p at (λ next. parse_at tokens next (at + 1))) h

abbrev pub after_step : List Terminal → ℕ → HeadStep → Answer
after_step tokens at (headstep.On next) = parse_at tokens (Heading next) (at + 1)
after_step tokens at (headstep.Done h) = parse_at tokens (Heading (head.Whole h)) at
after_step tokens at headstep.Stuck = Err (error.Syntax at)

stepped : (tokens : List Terminal) (t : Terminal) (at : ℕ) → slice_get tokens at ≡ Some t → (s : HeadStep) → goes (headed s t) None at (λ next. parse_at tokens next (at + 1)) ≡ after_step tokens at s
stepped tokens t at here (headstep.On next) = refl
stepped tokens t at here (headstep.Done h) = sym (known tokens (Heading (head.Whole h)) at (Some t) here)
stepped tokens t at here headstep.Stuck = refl

pub head_rule : (tokens : List Terminal) (p : HeadPlace) (t : Terminal) (at : ℕ) → slice_get tokens at ≡ Some t → parse_at tokens (Heading p) at ≡ after_step tokens at (heads.step_of p t)
head_rule tokens p t at here = known tokens (Heading p) at (Some t) here ∙ stepped tokens t at here (heads.step_of p t)

abbrev pub after_end : List Terminal → ℕ → Option Head → Answer
after_end tokens at (Some h) = parse_at tokens (Heading (head.Whole h)) at
after_end tokens at None = Err (error.Syntax at)

ended : (tokens : List Terminal) (at : ℕ) → slice_get tokens at ≡ None → (o : Option Head) → ends (option_map (λ h. selected h None tail.Nothing) o) at ≡ after_end tokens at o
ended tokens at out (Some h) = sym (known tokens (Heading (head.Whole h)) at None out)
ended tokens at out None = refl

pub head_end_rule : (tokens : List Terminal) (p : HeadPlace) (at : ℕ) → slice_get tokens at ≡ None → parse_at tokens (Heading p) at ≡ after_end tokens at (heads.end_of p)
head_end_rule tokens p at out = known tokens (Heading p) at None out ∙ ended tokens at out (heads.end_of p)

abbrev pub after_tail : List Terminal → Head → Option Plain → ℕ → Option TailPlace → Answer
after_tail tokens h filter at (Some next) = parse_at tokens (Tailing h filter next) (at + 1)
after_tail tokens h filter at None = Err (error.Syntax at)

tail_stepped : (tokens : List Terminal) (h : Head) (filter : Option Plain) (at : ℕ) (o : Option TailPlace) →
    goes (option_map (λ p. Tailing h filter p) o) None at (λ next. parse_at tokens next (at + 1)) ≡ after_tail tokens h filter at o
tail_stepped tokens h filter at (Some next) = refl
tail_stepped tokens h filter at None = refl

pub tail_rule : (tokens : List Terminal) (h : Head) (filter : Option Plain) (p : TailPlace) (t : Terminal) (at : ℕ) → slice_get tokens at ≡ Some t → parse_at tokens (Tailing h filter p) at ≡ after_tail tokens h filter at (tails.step_of p t)
tail_rule tokens h filter p t at here = known tokens (Tailing h filter p) at (Some t) here ∙ tail_stepped tokens h filter at (tails.step_of p t)

abbrev pub after_tails : Head → Option Plain → ℕ → Option Tail → Answer
after_tails h filter at (Some t) = Ok (selected h filter t)
after_tails h filter at None = Err (error.Syntax at)

tail_ended : (h : Head) (filter : Option Plain) (at : ℕ) (o : Option Tail) → ends (option_map (λ t. selected h filter t) o) at ≡ after_tails h filter at o
tail_ended h filter at (Some t) = refl
tail_ended h filter at None = refl

pub tail_end_rule : (tokens : List Terminal) (h : Head) (filter : Option Plain) (p : TailPlace) (at : ℕ) → slice_get tokens at ≡ None → parse_at tokens (Tailing h filter p) at ≡ after_tails h filter at (tails.end_of p)
tail_end_rule tokens h filter p at out = known tokens (Tailing h filter p) at None out ∙ tail_ended h filter at (tails.end_of p)

-- behind a head

one_not_semi : (s : Source) → is_one s ≡ true → is_semi s ≡ false
one_not_semi (source.One table) h = refl
one_not_semi (source.Join left right first_on second_on) h = refl
one_not_semi (source.Semi outer inner key inner_key) h = cc

pub both : (a b : Bool) → a && b ≡ true → (a ≡ true) × (b ≡ true)
both true b h = (refl, h)
both false b h = cc

pub outer_is_one : (h : Head) → may_be_outer h ≡ true → is_one h.source ≡ true
outer_is_one h is = (both (not h.distinct) (is_one h.source) (both (takes_tail h) _ is).0).1

pub outer_not_semi : (h : Head) → may_be_outer h ≡ true → is_semi h.source ≡ false
outer_not_semi h is = one_not_semi h.source (outer_is_one h is)

semi_not_outer : (h : Head) (b : Bool) → is_semi h.source ≡ true → may_be_outer h ≡ b → b ≡ false
semi_not_outer h true semi is = let e = outer_not_semi h is in cc
semi_not_outer h false semi is = refl

behind_there : (o : Option Terminal) (h : Head) (at : ℕ) (f : Place → Answer) →
    at_place o (Heading (head.Whole h)) at f ≡ (
    if is_there mark.Where o && not (is_semi h.source) then (if may_be_outer h then f (Lead h) else f (Want (whole h))) else
    if is_there mark.And o && is_semi h.source then f (Want (whole h)) else at_place o (Tailing h None (place.Start (takes_tail h))) at f)
behind_there None h at f = refl
behind_there (Some t) h at f = behind_goes (has_mark mark.Where t && not (is_semi h.source)) (may_be_outer h) (has_mark mark.And t && is_semi h.source)
  where
    behind_goes : (a b c : Bool) → goes (if a then (if b then Some (Lead h) else Some (Want (whole h))) else if c then Some (Want (whole h)) else tailing h None t) None at f ≡ (
        if a then (if b then f (Lead h) else f (Want (whole h))) else
        if c then f (Want (whole h)) else goes (tailing h None t) None at f)
    behind_goes true true c = refl
    behind_goes true false c = refl
    behind_goes false b true = refl
    behind_goes false b false = refl

behind_rule : (tokens : List Terminal) (h : Head) (at : ℕ) →
    parse_at tokens (Heading (head.Whole h)) at ≡ (
    if marked mark.Where tokens at && not (is_semi h.source) then (if may_be_outer h then parse_at tokens (Lead h) (at + 1) else parse_at tokens (Want (whole h)) (at + 1)) else
    if marked mark.And tokens at && is_semi h.source then parse_at tokens (Want (whole h)) (at + 1) else parse_at tokens (Tailing h None (place.Start (takes_tail h))) at)
unfolding marked
behind_rule tokens h at = parse_is tokens (Heading (head.Whole h)) at ∙ behind_there (slice_get tokens at) h at _
    ∙ ap (λ r. if marked mark.Where tokens at && not (is_semi h.source) then (if may_be_outer h then parse_at tokens (Lead h) (at + 1) else parse_at tokens (Want (whole h)) (at + 1)) else if marked mark.And tokens at && is_semi h.source then parse_at tokens (Want (whole h)) (at + 1) else r)
    (sym (parse_is tokens (Tailing h None (place.Start (takes_tail h))) at))

-- where a semi-join may begin
pub behind_outer : (tokens : List Terminal) (h : Head) (at : ℕ) → marked mark.Where tokens at ≡ true → may_be_outer h ≡ true → parse_at tokens (Heading (head.Whole h)) at ≡ parse_at tokens (Lead h) (at + 1)
behind_outer tokens h at here outer = let one = outer_not_semi h outer in rw (behind_rule, here, one, outer) refl

-- the two marks, one of which the source decides on
picks : (w a s : Bool) (x y z : Answer) → (if w && not s then x else if a && s then y else z) ≡ (if s then (if a then y else z) else (if w then x else z))
picks true true true x y z = refl
picks true true false x y z = refl
picks true false true x y z = refl
picks true false false x y z = refl
picks false true true x y z = refl
picks false true false x y z = refl
picks false false true x y z = refl
picks false false false x y z = refl

by_source : (tokens : List Terminal) (at : ℕ) (s : Bool) (y z : Answer) →
    (if s then (if marked mark.And tokens at then y else z) else (if marked mark.Where tokens at then y else z)) ≡ (if marked (if s then mark.And else mark.Where) tokens at then y else z)
by_source tokens at true y z = refl
by_source tokens at false y z = refl

-- where none may begin
pub behind_inner : (tokens : List Terminal) (h : Head) (at : ℕ) → may_be_outer h ≡ false → parse_at tokens (Heading (head.Whole h)) at ≡ behind_head tokens h at
behind_inner tokens h at inner = rw (behind_rule, inner) (picks (marked mark.Where tokens at) (marked mark.And tokens at) (is_semi h.source) _ _ _ ∙ by_source tokens at (is_semi h.source) _ _)

pub behind_semi : (tokens : List Terminal) (h : Head) (at : ℕ) → is_semi h.source ≡ true → parse_at tokens (Heading (head.Whole h)) at ≡ behind_head tokens h at
behind_semi tokens h at semi = behind_inner tokens h at (semi_not_outer h (may_be_outer h) semi refl)

picks_else : (w a s : Bool) (x y z : Answer) → w ≡ false → (if w && not s then x else if a && s then y else z) ≡ (if s then (if a then y else z) else (if w then y else z))
picks_else true a s x y z h = cc
picks_else false true true x y z h = refl
picks_else false true false x y z h = refl
picks_else false false true x y z h = refl
picks_else false false false x y z h = refl

-- where no WHERE comes
pub behind_else : (tokens : List Terminal) (h : Head) (at : ℕ) → marked mark.Where tokens at ≡ false → parse_at tokens (Heading (head.Whole h)) at ≡ behind_head tokens h at
behind_else tokens h at none = behind_rule tokens h at ∙ picks_else (marked mark.Where tokens at) (marked mark.And tokens at) (is_semi h.source) _ _ _ none ∙ by_source tokens at (is_semi h.source) _ _

-- where WHERE comes and no semi-join begins
pub behind_where : (tokens : List Terminal) (h : Head) (at : ℕ) → marked mark.Where tokens at ≡ true → may_be_outer h ≡ true → parse_at tokens (Want (whole h)) (at + 1) ≡ behind_head tokens h at
behind_where tokens h at here outer = let one = outer_not_semi h outer in rw (one, here) refl

no_or : (a b : Bool) (x y : Answer) → b ≡ true → (if a && not b then x else y) ≡ y
no_or true true x y h = refl
no_or true false x y h = cc
no_or false b x y h = refl

-- the filter of a semi-join is a conj
pub conj_rule : (tokens : List Terminal) (h : Head) (p : Plain) (at : ℕ) → is_semi h.source ≡ true → parse_at tokens (Conjs (p ∷ []) (Whole h)) at ≡ parse_at tokens (Tailing h (Some p) (place.Start (takes_tail h))) at
conj_rule tokens h p at semi = conjs_rule tokens (p ∷ []) (Whole h) at ∙ no_or (marked mark.Or tokens at) (is_semi h.source) _ _ semi ∙ filter_rule tokens p h at

-- behind the inner select of a semi-join
pub semi_behind : (tokens : List Terminal) (from mid : Answer) (r : Result (Head × ℕ) ParseError) → from ≡ mid → Moves mid (λ x. parse_at tokens (Heading (head.Whole x.0)) x.1) r → IfOk r (λ x. is_semi x.0.source ≡ true) →
    Moves from (λ x. behind_head tokens x.0 x.1) r
semi_behind tokens from mid (Ok x) same moves semi = same ∙ moves ∙ behind_semi tokens x.0 x.1 semi
semi_behind tokens from mid (Err e) same moves semi = fails_along from mid e same moves
