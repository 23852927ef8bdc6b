-- The refusals that the places give are those of the grammar and the limits.
use Rattle.std.proofs.Common.{◌≡◌, ℕ, ◌+◌, ◌⊎◌, inl, inr, List, [], ◌∷◌, ◌++◌, length, Option, Some, None, option_and_then, Result, Ok, Err, IfErr, refl, sym, ap, ◌∙◌, subst, append_assoc, arith, length-append}
use Rattle.ch_sql_grammar.specs.declared.terminal.Terminal.{Terminal}
use Rattle.ch_sql_grammar.specs.declared.query.Query.{Query}
use Rattle.ch_sql_grammar.specs.declared.error.ParseError.{ParseError}
use Rattle.ch_sql_grammar.specs.declared.error.ParseError.TheVariants as error
use Rattle.ch_sql_grammar.specs.Tree.{Select, select_of}
use Rattle.ch_sql_grammar.specs.Grammar.{Begins}
use Rattle.ch_sql_places.specs.Machine.{Place, step, limit, start, walk, answer, parse_from}
use Rattle.ch_sql_places.specs.Parsing.{parse_at, Moves}
use Rattle.ch_sql_places.specs.Refusal.{IsDeep, IsLong, IsUnmatched, Breaks, KeepsLimits, IsSyntax, IsLimit, IsRefusal}
use Rattle.ch_sql_places.proofs.Passing.{passes, pass, StopsAt, LimitedBy, IsGiven}
use Rattle.ch_sql_places.proofs.Opening.{Broken, limit_broken, leads_there}
use Rattle.ch_sql_places.proofs.Opened.{deep_limited, long_limited, unmatched_limited}
use Rattle.ch_sql_places.proofs.Refused.{passed, given_refusals}
use Rattle.ch_sql_places.proofs.Viable.{walk_more}
use Rattle.ch_sql_places.proofs.Walked.{complete}

-- tokens that none refuses keep the limits

clear_here : (o : Option Place) (l : Option ParseError) (f : Place → Option Place) (last : Place) → passes o l f ≡ Some last → l ≡ None
clear_here None l f last h = cc
clear_here (Some next) (Some e) f last h = cc
clear_here (Some next) None f last h = refl

pass_on : (o : Option Place) (l : Option ParseError) (f g : Place → Option Place) (last : Place) (n : ℕ) (t : Terminal) → ((next : Place) → f next ≡ Some last → (p : Place) × (g next ≡ Some p) × (limit p n t ≡ None)) →
    passes o l f ≡ Some last → (p : Place) × (passes o l g ≡ Some p) × (limit p n t ≡ None)
pass_on None l f g last n t again h = cc
pass_on (Some next) (Some e) f g last n t again h = cc
pass_on (Some next) None f g last n t again h = again next h

pass_split : (before : List Terminal) (t : Terminal) (rest : List Terminal) (place last : Place) (at n : ℕ) → n ≡ at + length before → pass place at (before ++ (t ∷ rest)) ≡ Some last → (p : Place) × (pass place at before ≡ Some p) × (limit p n t ≡ None)
pass_split [] t rest place last at n e h = (place, refl, ap (λ m. limit place m t) (let k : n ≡ at = omega arith in k) ∙ clear_here (step place t) (limit place at t) _ last h)
pass_split (u ∷ us) t rest place last at n e h = pass_on (step place u) (limit place at u) (λ next. pass next (at + 1) (us ++ (t ∷ rest))) (λ next. pass next (at + 1) us) last n t
    (λ next k. pass_split us t rest next last (at + 1) n (omega arith) k) h

breaks_limited : (front : List Terminal) (t : Terminal) (place : Place) (at : ℕ) → Breaks front t → walk start front ≡ Some place → limit place at t ≡ None → ⊥
breaks_limited front t place at (inl b) w h = let k : limit place at t ≡ Some (error.TooDeep at) = deep_limited front t place at b w in cc
breaks_limited front t place at (inr (inl b)) w h = let k : limit place at t ≡ Some (error.InTooLong at) = long_limited front t place at b w in cc
breaks_limited front t place at (inr (inr b)) w h = let k : limit place at t ≡ Some (error.BadLike at) = unmatched_limited front t place at b w in cc

kept_there : (front : List Terminal) (last : Place) → pass start 0 front ≡ Some last → KeepsLimits front
kept_there front last h = λ before t rest e b.
    let s = pass_split before t rest start last 0 (length before) (omega arith) (ap (pass start 0) (sym e) ∙ h) in
    breaks_limited before t s.0 (length before) b (passed before start s.0 0 s.1) s.2

-- tokens that keep the limits are refused by none

broken_breaks : (e : ParseError) (at : ℕ) (front : List Terminal) (t : Terminal) → Broken e at front t → Breaks front t
broken_breaks (error.TooDeep n) at front t b = inl b.1
broken_breaks (error.InTooLong n) at front t b = inr (inl b.1)
broken_breaks (error.BadLike n) at front t b = inr (inr b.1)
broken_breaks (error.Syntax n) at front t b = absurd b
broken_breaks error.Memory at front t b = absurd b

kept_step : (o : Option Place) (l : Option ParseError) (done : List Terminal) (t : Terminal) (ts : List Terminal) (place last : Place) → o ≡ step place t → l ≡ limit place (length done) t → walk start done ≡ Some place →
    ((next : Place) → step place t ≡ Some next → walk next ts ≡ Some last → pass next (length done + 1) ts ≡ Some last) →
    (Breaks done t → ⊥) → option_and_then (λ p. walk p ts) o ≡ Some last → passes o l (λ next. pass next (length done + 1) ts) ≡ Some last
kept_step None l done t ts place last q k w again kept h = cc
kept_step (Some next) (Some e) done t ts place last q k w again kept h =
    absurd (kept (broken_breaks e (length done) done t (limit_broken place next done t e (length done) (leads_there done place w) (sym q) (sym k))))
kept_step (Some next) None done t ts place last q k w again kept h = again next (sym q) h

kept_passes : (ts done : List Terminal) (place last : Place) → walk start done ≡ Some place → walk place ts ≡ Some last → KeepsLimits (done ++ ts) → pass place (length done) ts ≡ Some last
kept_passes [] done place last w v kept = v
kept_passes (t ∷ ts) done place last w v kept = kept_step (step place t) (limit place (length done) t) done t ts place last refl refl w
    (λ next on v. ap (λ n. pass next n ts) (let n : length done + 1 ≡ length (done ++ (t ∷ [])) = omega (arith, length-append done (t ∷ [])) in n)
    ∙ kept_passes ts (done ++ (t ∷ [])) next last (walk_more done t start place next w on) v (λ before u rest e b. kept before u rest (sym (append_assoc done (t ∷ []) ts) ∙ e) b))
    (λ b. kept done t ts refl b) v

passes_there : (front : List Terminal) (last : Place) → walk start front ≡ Some last → KeepsLimits front → pass start 0 front ≡ Some last
passes_there front last w kept = kept_passes front [] start last refl w kept

-- tokens that begin a query are walked

walks_on : (o : Option Place) (us rest : List Terminal) (tree : Select) → ((next : Place) → answer next (us ++ rest) ≡ Some tree → (last : Place) × (walk next us ≡ Some last)) →
    option_and_then (λ p. answer p (us ++ rest)) o ≡ Some tree → (last : Place) × (option_and_then (λ p. walk p us) o ≡ Some last)
walks_on None us rest tree again h = cc
walks_on (Some next) us rest tree again h = again next h

walks : (front rest : List Terminal) (place : Place) (tree : Select) → answer place (front ++ rest) ≡ Some tree → (last : Place) × (walk place front ≡ Some last)
walks [] rest place tree h = (place, refl)
walks (u ∷ us) rest place tree h = walks_on (step place u) us rest tree (λ next k. walks us rest next tree k) h

begun : (front : List Terminal) → Begins front → (last : Place) × (walk start front ≡ Some last)
begun front (rest, tree, is) = walks front rest start tree (complete (front ++ rest) tree is)

last_on : (o : Option Place) (us : List Terminal) (t : Terminal) (next : Place) → ((p : Place) → walk p (us ++ (t ∷ [])) ≡ Some next → (last : Place) × (walk p us ≡ Some last) × (step last t ≡ Some next)) →
    option_and_then (λ p. walk p (us ++ (t ∷ []))) o ≡ Some next → (last : Place) × (option_and_then (λ p. walk p us) o ≡ Some last) × (step last t ≡ Some next)
last_on None us t next again h = cc
last_on (Some p) us t next again h = again p h

ends_on : (o : Option Place) (next : Place) → option_and_then (λ p. Some p) o ≡ Some next → o ≡ Some next
ends_on None next h = cc
ends_on (Some p) next h = h

last_step : (front : List Terminal) (t : Terminal) (place next : Place) → walk place (front ++ (t ∷ [])) ≡ Some next → (last : Place) × (walk place front ≡ Some last) × (step last t ≡ Some next)
last_step [] t place next h = (place, refl, ends_on (step place t) next h)
last_step (u ∷ us) t place next h = last_on (step place u) us t next (λ p k. last_step us t p next k) h

record LeadsOn (front : List Terminal) (t : Terminal) : Type 0 where
  last : Place
  next : Place
  walked : walk start front ≡ Some last
  on : step last t ≡ Some next

leads_on : (front : List Terminal) (t : Terminal) → Begins (front ++ (t ∷ [])) → LeadsOn front t
leads_on front t b = let all = begun (front ++ (t ∷ [])) b in let s = last_step front t start all.0 all.1 in record { last = s.0; next = all.0; walked = s.1; on = s.2 }

-- both ways

broken_there : (tokens : List Terminal) (e : ParseError) (r : LimitedBy tokens e) → Broken e (length r.front) r.front r.token
broken_there tokens e r =
    let o = leads_on r.front r.token r.begins in
    let w = passed r.front start r.place 0 r.taken in
    let same : o.last ≡ r.place = (let k : Some o.last ≡ Some r.place = sym o.walked ∙ w in cc) in
    limit_broken r.place o.next r.front r.token e (length r.front) (leads_there r.front r.place w) (ap (λ p. step p r.token) (sym same) ∙ o.on) r.limited

pub judged : (tokens : List Terminal) (e : ParseError) → IsGiven tokens e → IsRefusal tokens e
judged tokens error.Memory r = tt
judged tokens (error.Syntax at) r = record { front = r.front; rest = r.rest; whole = r.whole; here = r.here; kept = kept_there r.front r.place r.taken; begins = r.begins; ends = r.ends }
judged tokens (error.TooDeep at) r = let b = broken_there tokens (error.TooDeep at) r in record { front = r.front; token = r.token; rest = r.rest; whole = r.whole; here = b.0; kept = kept_there r.front r.place r.taken; begins = r.begins; broken = b.1 }
judged tokens (error.InTooLong at) r = let b = broken_there tokens (error.InTooLong at) r in record { front = r.front; token = r.token; rest = r.rest; whole = r.whole; here = b.0; kept = kept_there r.front r.place r.taken; begins = r.begins; broken = b.1 }
judged tokens (error.BadLike at) r = let b = broken_there tokens (error.BadLike at) r in record { front = r.front; token = r.token; rest = r.rest; whole = r.whole; here = b.0; kept = kept_there r.front r.place r.taken; begins = r.begins; broken = b.1 }

pub given_back : (tokens : List Terminal) (e : ParseError) → IsRefusal tokens e → IsGiven tokens e
given_back tokens error.Memory r = tt
given_back tokens (error.Syntax at) r = let b = begun r.front r.begins in record { front = r.front; rest = r.rest; place = b.0; whole = r.whole; here = r.here; taken = passes_there r.front b.0 b.1 r.kept; begins = r.begins; ends = r.ends }
given_back tokens (error.TooDeep at) r = let o = leads_on r.front r.token r.begins in record {
  front = r.front;
  token = r.token;
  rest = r.rest;
  place = o.last;
  whole = r.whole;
  taken = passes_there r.front o.last o.walked r.kept;
  begins = r.begins;
  limited = deep_limited r.front r.token o.last (length r.front) r.broken o.walked ∙ ap (λ n. Some (error.TooDeep n)) (sym r.here);
}
given_back tokens (error.InTooLong at) r = let o = leads_on r.front r.token r.begins in record {
  front = r.front;
  token = r.token;
  rest = r.rest;
  place = o.last;
  whole = r.whole;
  taken = passes_there r.front o.last o.walked r.kept;
  begins = r.begins;
  limited = long_limited r.front r.token o.last (length r.front) r.broken o.walked ∙ ap (λ n. Some (error.InTooLong n)) (sym r.here);
}
given_back tokens (error.BadLike at) r = let o = leads_on r.front r.token r.begins in record {
  front = r.front;
  token = r.token;
  rest = r.rest;
  place = o.last;
  whole = r.whole;
  taken = passes_there r.front o.last o.walked r.kept;
  begins = r.begins;
  limited = unmatched_limited r.front r.token o.last (length r.front) r.broken o.walked ∙ ap (λ n. Some (error.BadLike n)) (sym r.here);
}

pub refusals : (tokens : List Terminal) (r : Result Query ParseError) → Moves (parse_at tokens start 0) (λ q. Ok (select_of q)) r → IfErr r (λ e. IsRefusal tokens e)
refusals tokens (Ok q) m = tt
refusals tokens (Err e) m = judged tokens e (given_refusals tokens (Err e) m)
