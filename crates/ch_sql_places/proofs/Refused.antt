-- Why a refusal comes, and where.
use Rattle.std.proofs.Common.{◌≡◌, ℕ, ◌+◌, List, [], ◌∷◌, ◌++◌, length, Option, Some, None, option_and_then, Result, Ok, Err, refl, sym, ap, ap₂, ◌∙◌, arith, suc, IfSome, IfErr, ◌⊎◌, inl, inr, subst}
use Rattle.ch_sql_grammar.specs.declared.terminal.Terminal.{Terminal}
use Rattle.ch_sql_grammar.specs.declared.error.ParseError.{ParseError}
use Rattle.ch_sql_grammar.specs.declared.error.ParseError.TheVariants as error
use Rattle.ch_sql_grammar.specs.declared.query.Query.{Query}
use Rattle.ch_sql_grammar.specs.Tree.{Select, select_of}
use Rattle.ch_sql_places.specs.Machine.{Place, step, limit, finish, walk, start, goes, ends, parse_from}
use Rattle.ch_sql_places.specs.Parsing.{parse_at, Moves}
use Rattle.ch_sql_places.proofs.Passing.{passes, pass, StopsAt, LimitedBy, IsGiven}
use Rattle.ch_sql_places.proofs.Viable.{NotSyntax, limit_not_syntax, begins, ends_there, walk_more}

abbrev Why : Place → ℕ → List Terminal → ParseError → Type 0
Why last at [] e = (e ≡ error.Syntax at) × (finish last ≡ None)
Why last at (t ∷ ts) e = ((e ≡ error.Syntax at) × (step last t ≡ None)) ⊎ ((next : Place) × (step last t ≡ Some next) × (limit last at t ≡ Some e))

-- what a refusal from a place says: the tokens before, and then nothing that leads on, or a limit
record Stops (place : Place) (at : ℕ) (tokens : List Terminal) (e : ParseError) : Type 0 where
  front : List Terminal
  rest : List Terminal
  last : Place
  whole : tokens ≡ front ++ rest
  taken : pass place at front ≡ Some last
  why : Why last (at + length front) rest e

stops_end : (o : Option Select) (place : Place) (at : ℕ) (e : ParseError) → o ≡ finish place → ends o at ≡ Err e → Stops place at [] e
stops_end (Some p) place at e q h = cc
stops_end None place at e q h = record {
  front = [];
  rest = [];
  last = place;
  whole = refl;
  taken = refl;
  why = ((let k : e ≡ error.Syntax at = cc in k) ∙ ap error.Syntax (let m : at ≡ at + 0 = omega arith in m), sym q);
}

stops_step : (o : Option Place) (l : Option ParseError) (t : Terminal) (ts : List Terminal) (place : Place) (at : ℕ) (e : ParseError) → o ≡ step place t → l ≡ limit place at t →
    ((next : Place) → parse_from next (at + 1) ts ≡ Err e → Stops next (at + 1) ts e) →
    goes o l at (λ next. parse_from next (at + 1) ts) ≡ Err e → Stops place at (t ∷ ts) e
stops_step None l t ts place at e q k again h = record {
  front = [];
  rest = t ∷ ts;
  last = place;
  whole = refl;
  taken = refl;
  why = inl ((let m : e ≡ error.Syntax at = cc in m) ∙ ap error.Syntax (let m : at ≡ at + 0 = omega arith in m), sym q);
}
stops_step (Some next) (Some f) t ts place at e q k again h = record {
  front = [];
  rest = t ∷ ts;
  last = place;
  whole = refl;
  taken = refl;
  why = inr (next, sym q, ap (λ n. limit place n t) (let m : at + 0 ≡ at = omega arith in m) ∙ sym k ∙ (let m : f ≡ e = cc in ap Some m));
}
stops_step (Some next) None t ts place at e q k again h = let r = again next h in record {
  front = t ∷ r.front;
  rest = r.rest;
  last = r.last;
  whole = ap (λ x. t ∷ x) r.whole;
  taken = sym (ap₂ (λ o l. passes o l (λ n. pass n (at + 1) r.front)) q k) ∙ r.taken;
  why = let P : ℕ → Type 0 = λ n. Why r.last n r.rest e in subst P (let m : at + 1 + length r.front ≡ at + suc (length r.front) = omega arith in m) r.why;
}

stops : (tokens : List Terminal) (place : Place) (at : ℕ) (e : ParseError) → parse_from place at tokens ≡ Err e → Stops place at tokens e
stops [] place at e h = stops_end (finish place) place at e refl h
stops (t ∷ ts) place at e h = stops_step (step place t) (limit place at t) t ts place at e refl refl (λ next k. stops ts next (at + 1) e k) h

-- tokens that none refuses are walked
pass_step : (o : Option Place) (l : Option ParseError) (f g : Place → Option Place) (last : Place) → ((next : Place) → f next ≡ Some last → g next ≡ Some last) →
    passes o l f ≡ Some last → option_and_then g o ≡ Some last
pass_step None l f g last again h = cc
pass_step (Some next) (Some e) f g last again h = cc
pass_step (Some next) None f g last again h = again next h

pub passed : (front : List Terminal) (place last : Place) (at : ℕ) → pass place at front ≡ Some last → walk place front ≡ Some last
passed [] place last at h = h
passed (t ∷ ts) place last at h = pass_step (step place t) (limit place at t) (λ next. pass next (at + 1) ts) (λ next. walk next ts) last (λ next k. passed ts next last (at + 1) k) h

-- either a syntax error or a limit
by_why : (tokens front rest : List Terminal) (last : Place) (e : ParseError) → tokens ≡ front ++ rest → pass start 0 front ≡ Some last → Why last (length front) rest e →
    ((e ≡ error.Syntax (length front)) × StopsAt tokens (length front)) ⊎ LimitedBy tokens e
by_why tokens front [] last e whole taken (s, stuck) = let w = passed front start last 0 taken in
    inl (s, record { front = front; rest = []; place = last; whole = whole; here = refl; taken = taken; begins = begins front last w; ends = ends_there front [] last w stuck })
by_why tokens front (t ∷ ts) last e whole taken (inl (s, stuck)) = let w = passed front start last 0 taken in
    inl (s, record { front = front; rest = t ∷ ts; place = last; whole = whole; here = refl; taken = taken; begins = begins front last w; ends = ends_there front (t ∷ ts) last w stuck })
by_why tokens front (t ∷ ts) last e whole taken (inr (next, on, l)) = let w = passed front start last 0 taken in
    inr (record { front = front; token = t; rest = ts; place = last; whole = whole; taken = taken; begins = begins (front ++ (t ∷ [])) next (walk_more front t start last next w on); limited = l })

not_syntax : (tokens : List Terminal) (n : ℕ) → LimitedBy tokens (error.Syntax n) → ⊥
not_syntax tokens n r = let h = limit_not_syntax r.place (length r.front) r.token in
    (let P : Option ParseError → Type 0 = λ o. IfSome o NotSyntax in subst P r.limited h) n refl

either : (tokens : List Terminal) (e : ParseError) → ((n : ℕ) × (e ≡ error.Syntax n) × StopsAt tokens n) ⊎ LimitedBy tokens e → IsGiven tokens e
either tokens error.Memory w = tt
either tokens (error.Syntax at) (inl (n, s, r)) = let P : ℕ → Type 0 = λ k. StopsAt tokens k in subst P (let m : n ≡ at = cc in m) r
either tokens (error.Syntax at) (inr r) = absurd (not_syntax tokens at r)
either tokens (error.TooDeep at) (inl (n, s, r)) = cc
either tokens (error.TooDeep at) (inr r) = r
either tokens (error.InTooLong at) (inl (n, s, r)) = cc
either tokens (error.InTooLong at) (inr r) = r
either tokens (error.BadLike at) (inl (n, s, r)) = cc
either tokens (error.BadLike at) (inr r) = r

pub why_refused : (tokens : List Terminal) (e : ParseError) → parse_from start 0 tokens ≡ Err e → IsGiven tokens e
why_refused tokens e h =
    let r = stops tokens start 0 e h in
    let why : Why r.last (length r.front) r.rest e = (let P : ℕ → Type 0 = λ n. Why r.last n r.rest e in subst P (let m : 0 + length r.front ≡ length r.front = omega arith in m) r.why) in
    let w = by_why tokens r.front r.rest r.last e r.whole r.taken why in
    either tokens e (elim w [ inl s ↦ inl (length r.front, s.0, s.1) | inr l ↦ inr l ])

pub given_refusals : (tokens : List Terminal) (r : Result Query ParseError) → Moves (parse_at tokens start 0) (λ q. Ok (select_of q)) r → IfErr r (λ e. IsGiven tokens e)
unfolding parse_at
given_refusals tokens (Ok p) m = tt
given_refusals tokens (Err error.Memory) m = tt
given_refusals tokens (Err (error.Syntax at)) m = why_refused tokens _ m
given_refusals tokens (Err (error.TooDeep at)) m = why_refused tokens _ m
given_refusals tokens (Err (error.InTooLong at)) m = why_refused tokens _ m
given_refusals tokens (Err (error.BadLike at)) m = why_refused tokens _ m
