-- A refusal that holds of a list of tokens is what the places give.
use Rattle.std.proofs.Common.{◌≡◌, ◌≢◌, ℕ, ◌+◌, Bool, true, false, not, ◌||◌, ◌&&◌, nat_lt, if◌then◌else◌, List, [], ◌∷◌, ◌++◌, length, Option, Some, None, option_and_then, Result, Ok, Err, refl, sym, ap, ◌∙◌, append_assoc, append-nil, arith, ◌⊎◌, inl, inr}
use Rattle.ch_sql_grammar.specs.declared.terminal.Terminal.{Terminal}
use Rattle.ch_sql_grammar.specs.declared.terminal.Mark.TheVariants as mark
use Rattle.ch_sql_grammar.specs.declared.error.ParseError.{ParseError}
use Rattle.ch_sql_grammar.specs.declared.error.ParseError.TheVariants as error
use Rattle.ch_sql_grammar.specs.Tree.{Select}
use Rattle.ch_sql_grammar.specs.Tokens.{has_mark, text_in}
use Rattle.ch_sql_grammar.specs.Grammar.{Begins, IsEnd}
use Rattle.ch_sql_places.specs.Machine.{Place, Want, Listed, LikeText, depth_of, is_pattern, step, limit, finish, answer, start, goes, ends, parse_from}
use Rattle.ch_sql_places.specs.Completion.{completion}
use Rattle.ch_sql_places.specs.Refusal.{IsRefusal}
use Rattle.ch_sql_places.proofs.Passing.{passes, pass, StopsAt, LimitedBy, IsGiven}
use Rattle.ch_sql_places.proofs.Judged.{judged, given_back}
use Rattle.ch_sql_places.proofs.Complete.{completes}
use Rattle.ch_sql_places.proofs.Walked.{complete}
use Rattle.ch_sql_places.proofs.Sound.{sound}
use Rattle.ch_sql_places.proofs.Refused.{why_refused}
use Rattle.ch_sql_limits.specs.Limits.{IsQueryWithin}
use Rattle.ch_sql_limits.proofs.Within.{refused_is_not_within, read_within}

-- behind tokens that none refuses the parse goes on at their place

carried_step : (o : Option Place) (l : Option ParseError) (at n : ℕ) (ts rest : List Terminal) (last : Place) →
    ((next : Place) → pass next (at + 1) ts ≡ Some last → parse_from next (at + 1) (ts ++ rest) ≡ parse_from last n rest) →
    passes o l (λ next. pass next (at + 1) ts) ≡ Some last → goes o l at (λ next. parse_from next (at + 1) (ts ++ rest)) ≡ parse_from last n rest
carried_step None l at n ts rest last again h = cc
carried_step (Some next) (Some e) at n ts rest last again h = cc
carried_step (Some next) None at n ts rest last again h = again next h

carried : (front rest : List Terminal) (place last : Place) (at n : ℕ) → n ≡ at + length front → pass place at front ≡ Some last → parse_from place at (front ++ rest) ≡ parse_from last n rest
carried [] rest place last at n e h = ap (λ p. parse_from p at rest) (let k : place ≡ last = cc in k) ∙ ap (λ m. parse_from last m rest) (let m : at ≡ n = omega arith in m)
carried (t ∷ ts) rest place last at n e h = carried_step (step place t) (limit place at t) at n ts rest last (λ next k. carried ts rest next last (at + 1) n (omega arith) k) h

answered_step : (o : Option Place) (l : Option ParseError) (at : ℕ) (ts rest : List Terminal) (last : Place) →
    ((next : Place) → pass next (at + 1) ts ≡ Some last → answer next (ts ++ rest) ≡ answer last rest) →
    passes o l (λ next. pass next (at + 1) ts) ≡ Some last → option_and_then (λ next. answer next (ts ++ rest)) o ≡ answer last rest
answered_step None l at ts rest last again h = cc
answered_step (Some next) (Some e) at ts rest last again h = cc
answered_step (Some next) None at ts rest last again h = again next h

answered : (front rest : List Terminal) (place last : Place) (at : ℕ) → pass place at front ≡ Some last → answer place (front ++ rest) ≡ answer last rest
answered [] rest place last at h = ap (λ p. answer p rest) (let k : place ≡ last = cc in k)
answered (t ∷ ts) rest place last at h = answered_step (step place t) (limit place at t) at ts rest last (λ next k. answered ts rest next last (at + 1) k) h

-- where the tokens end and are no query, and where the next one begins none

ended : (o : Option Select) (front : List Terminal) (last : Place) (at : ℕ) → o ≡ finish last → pass start 0 front ≡ Some last → IsEnd front [] → ends o at ≡ Err (error.Syntax at)
ended None front last at q h end = refl
ended (Some tree) front last at q h end = absurd (end tree (sound front tree (ap (answer start) (sym (append-nil front)) ∙ answered front [] start last 0 h ∙ sym q)))

stopped : (o : Option Place) (l : Option ParseError) (front ts : List Terminal) (t : Terminal) (last : Place) (at : ℕ) → o ≡ step last t → pass start 0 front ≡ Some last → IsEnd front (t ∷ ts) →
    goes o l at (λ next. parse_from next (at + 1) ts) ≡ Err (error.Syntax at)
stopped None l front ts t last at q h end = refl
stopped (Some next) l front ts t last at q h end =
    let c = completes next in
    let a : answer last (t ∷ completion next) ≡ Some c.0 = ap (λ o. option_and_then (λ p. answer p (completion next)) o) (sym q) ∙ c.1 in
    let b : answer start ((front ++ (t ∷ [])) ++ completion next) ≡ Some c.0 = ap (answer start) (append_assoc front (t ∷ []) (completion next)) ∙ answered front (t ∷ completion next) start last 0 h ∙ a in
    absurd (end (completion next, c.0, sound ((front ++ (t ∷ [])) ++ completion next) c.0 b))

syntax_at : (front rest : List Terminal) (last : Place) → pass start 0 front ≡ Some last → IsEnd front rest → parse_from last (length front) rest ≡ Err (error.Syntax (length front))
syntax_at front [] last h end = ended (finish last) front last (length front) refl h end
syntax_at front (t ∷ ts) last h end = stopped (step last t) (limit last (length front) t) front ts t last (length front) refl h end

syntax_given : (tokens : List Terminal) (at : ℕ) → StopsAt tokens at → parse_from start 0 tokens ≡ Err (error.Syntax at)
syntax_given tokens at r =
    ap (parse_from start 0) r.whole
    ∙ carried r.front r.rest start r.place 0 (length r.front) (let n : length r.front ≡ 0 + length r.front = omega arith in n) r.taken
    ∙ syntax_at r.front r.rest r.place r.taken r.ends
    ∙ ap (λ n. Err (error.Syntax n)) (sym r.here)

-- where a limit refuses a token that leads on

leads_on : (o : Option Place) (front : List Terminal) (t : Terminal) (last : Place) → o ≡ step last t → pass start 0 front ≡ Some last → Begins (front ++ (t ∷ [])) → (next : Place) × (o ≡ Some next)
leads_on (Some next) front t last q h b = (next, refl)
leads_on None front t last q h (more, tree, is) =
    let a : answer start ((front ++ (t ∷ [])) ++ more) ≡ Some tree = complete _ tree is in
    let c : answer start ((front ++ (t ∷ [])) ++ more) ≡ answer start (front ++ (t ∷ more)) = ap (answer start) (append_assoc front (t ∷ []) more) in
    let d : answer start (front ++ (t ∷ more)) ≡ answer last (t ∷ more) = answered front (t ∷ more) start last 0 h in
    let z : answer last (t ∷ more) ≡ None = ap (λ o. option_and_then (λ p. answer p more) o) (sym q) in
    cc

limited_here : (o : Option Place) (l : Option ParseError) (e : ParseError) (next : Place) (at : ℕ) (ts : List Terminal) → o ≡ Some next → l ≡ Some e → goes o l at (λ p. parse_from p (at + 1) ts) ≡ Err e
limited_here (Some place) (Some f) e next at ts q k = ap Err (let m : f ≡ e = cc in m)
limited_here (Some place) None e next at ts q k = cc
limited_here None l e next at ts q k = cc

limit_given : (tokens : List Terminal) (e : ParseError) → LimitedBy tokens e → parse_from start 0 tokens ≡ Err e
limit_given tokens e r =
    let on = leads_on (step r.place r.token) r.front r.token r.place refl r.taken r.begins in
    ap (parse_from start 0) r.whole
    ∙ carried r.front (r.token ∷ r.rest) start r.place 0 (length r.front) (let n : length r.front ≡ 0 + length r.front = omega arith in n) r.taken
    ∙ limited_here (step r.place r.token) (limit r.place (length r.front) r.token) e on.0 (length r.front) r.rest on.1 r.limited

given_by : (tokens : List Terminal) (e : ParseError) → e ≢ error.Memory → IsGiven tokens e → parse_from start 0 tokens ≡ Err e
given_by tokens error.Memory n r = absurd (n refl)
given_by tokens (error.Syntax at) n r = syntax_given tokens at r
given_by tokens (error.TooDeep at) n r = limit_given tokens _ r
given_by tokens (error.InTooLong at) n r = limit_given tokens _ r
given_by tokens (error.BadLike at) n r = limit_given tokens _ r

pub given : (tokens : List Terminal) (e : ParseError) → e ≢ error.Memory → IsRefusal tokens e → parse_from start 0 tokens ≡ Err e
given tokens e n r = given_by tokens e n (given_back tokens e r)

pub one : (tokens : List Terminal) (a b : ParseError) → a ≢ error.Memory → b ≢ error.Memory → IsRefusal tokens a → IsRefusal tokens b → a ≡ b
one tokens a b m n p q = let h : parse_from start 0 tokens ≡ Err a = given tokens a m p in let k : parse_from start 0 tokens ≡ Err b = given tokens b n q in cc

pub not_both : (tokens : List Terminal) (e : ParseError) (tree : Select) → e ≢ error.Memory → IsRefusal tokens e → IsQueryWithin tokens tree → ⊥
not_both tokens e tree n r q = refused_is_not_within tokens e (given tokens e n r) tree q

-- the places never run out of memory

abbrev IsOwn : Option ParseError → Type 0
IsOwn None = Unit {0}
IsOwn (Some e) = e ≢ error.Memory

own_left : (b : Bool) (e : ParseError) → e ≢ error.Memory → IsOwn (if b then Some e else None)
own_left true e h = h
own_left false e h = tt

own_right : (b : Bool) (e : ParseError) → e ≢ error.Memory → IsOwn (if b then None else Some e)
own_right true e h = tt
own_right false e h = h

own_text : (o : Option (List ℕ)) (at : ℕ) → IsOwn (option_and_then (λ s. if is_pattern s then None else Some (error.BadLike at)) o)
own_text (Some s) at = own_right (is_pattern s) _ (λ h. cc)
own_text None at = tt

own_limit : (place : Place) (at : ℕ) (t : Terminal) → IsOwn (limit place at t)
own_limit (Want around) at t = own_left ((has_mark mark.Not t || has_mark mark.LeftParen t) && not (nat_lt (depth_of around) 32)) _ (λ h. cc)
own_limit (Listed around col ls) at t = own_right (nat_lt (length ls) 16) _ (λ h. cc)
own_limit (LikeText around col) at t = own_text (text_in t) at
own_limit place at t = tt

own_end : (o : Option Select) (at : ℕ) → ends o at ≡ Err error.Memory → ⊥
own_end (Some tree) at h = cc
own_end None at h = cc

own_step : (o : Option Place) (l : Option ParseError) (at : ℕ) (ts : List Terminal) → IsOwn l → ((next : Place) → parse_from next (at + 1) ts ≡ Err error.Memory → ⊥) →
    goes o l at (λ next. parse_from next (at + 1) ts) ≡ Err error.Memory → ⊥
own_step None l at ts k again h = cc
own_step (Some next) (Some e) at ts k again h = k (let m : e ≡ error.Memory = cc in m)
own_step (Some next) None at ts k again h = again next h

own : (tokens : List Terminal) (place : Place) (at : ℕ) → parse_from place at tokens ≡ Err error.Memory → ⊥
own [] place at h = own_end (finish place) at h
own (t ∷ ts) place at h = own_step (step place t) (limit place at t) at ts (own_limit place at t) (λ next k. own ts next (at + 1) k) h

by_result : (tokens : List Terminal) (r : Result Select ParseError) → parse_from start 0 tokens ≡ r → ((tree : Select) × IsQueryWithin tokens tree) ⊎ ((e : ParseError) × (e ≢ error.Memory) × IsRefusal tokens e)
by_result tokens (Ok tree) h = inl (tree, read_within tokens tree h)
by_result tokens (Err e) h = inr (e, (λ m. own tokens start 0 (h ∙ ap Err m)), judged tokens e (why_refused tokens e h))

pub either : (tokens : List Terminal) → ((tree : Select) × IsQueryWithin tokens tree) ⊎ ((e : ParseError) × (e ≢ error.Memory) × IsRefusal tokens e)
either tokens = by_result tokens (parse_from start 0 tokens) refl
