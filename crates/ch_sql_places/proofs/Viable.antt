-- The place of a refusal.
use Rattle.std.proofs.Common.{◌≡◌, ℕ, ◌+◌, Bool, true, false, not, ◌||◌, ◌&&◌, nat_lt, if◌then◌else◌, List, [], ◌∷◌, ◌++◌, length, Option, Some, None, option_and_then, Result, Ok, Err, refl, sym, ap, ◌∙◌, append_assoc, append-nil, arith, IfSome, IfOk}
use Rattle.ch_sql_grammar.specs.declared.terminal.Terminal.{Terminal}
use Rattle.ch_sql_grammar.specs.declared.error.ParseError.{ParseError}
use Rattle.ch_sql_grammar.specs.declared.error.ParseError.TheVariants as error
use Rattle.ch_sql_grammar.specs.Tree.{Select, select_of}
use Rattle.ch_sql_grammar.specs.declared.query.Query.{Query}
use Rattle.ch_sql_places.specs.Parsing.{parse_at}
use Rattle.ch_sql_grammar.specs.declared.terminal.Mark.TheVariants as mark
use Rattle.ch_sql_grammar.specs.Tokens.{has_mark, text_in}
use Rattle.ch_sql_places.specs.Machine.{Place, Want, Listed, LikeText, depth_of, is_pattern, step, limit, finish, walk, answer, start, goes, ends, parse_from}
use Rattle.ch_sql_places.specs.Completion.{completion}
use Rattle.ch_sql_grammar.specs.Grammar.{IsQuery, Begins, IsEnd}
use Rattle.ch_sql_places.proofs.Complete.{completes}
use Rattle.ch_sql_places.proofs.Walked.{complete}
use Rattle.ch_sql_places.proofs.Sound.{sound}

-- no step leads on
abbrev pub IsStuck : Place → List Terminal → Type 0
IsStuck place [] = finish place ≡ None
IsStuck place (t ∷ ts) = step place t ≡ None

-- where the tokens were left
abbrev Left : Place → ℕ → List Terminal → ℕ → Type 0
Left place at tokens n = (front : List Terminal) × (rest : List Terminal) × (next : Place) × (tokens ≡ front ++ rest) × (n ≡ at + length front) × (walk place front ≡ Some next) × IsStuck next rest

ended : (o : Option Select) (place : Place) (at n : ℕ) → o ≡ finish place → ends o at ≡ Err (error.Syntax n) → Left place at [] n
ended (Some p) place at n q h = cc
ended None place at n q h = ([], [], place, refl, (let k : at ≡ n = cc in omega arith), refl, sym q)

abbrev pub NotSyntax : ParseError → Type 0
NotSyntax e = (n : ℕ) → e ≡ error.Syntax n → ⊥

stepped : (o : Option Place) (l : Option ParseError) (t : Terminal) (ts : List Terminal) (place : Place) (at n : ℕ) → o ≡ step place t → IfSome l NotSyntax →
    ((next : Place) → parse_from next (at + 1) ts ≡ Err (error.Syntax n) → Left next (at + 1) ts n) →
    goes o l at (λ next. parse_from next (at + 1) ts) ≡ Err (error.Syntax n) → Left place at (t ∷ ts) n
stepped None l t ts place at n q k again h = ([], t ∷ ts, place, refl, (let m : at ≡ n = cc in omega arith), refl, sym q)
stepped (Some next) (Some e) t ts place at n q k again h = absurd (k n (let m : e ≡ error.Syntax n = cc in m))
stepped (Some next) None t ts place at n q k again h =
    let (front, rest, last, te, ne, w, stuck) = again next h in
    (t ∷ front, rest, last, ap (λ x. t ∷ x) te, omega arith, ap (λ o. option_and_then (λ p. walk p front) o) (sym q) ∙ w, stuck)

if_none_left : (b : Bool) (e : ParseError) → NotSyntax e → IfSome (if b then Some e else None) NotSyntax
if_none_left true e h = h
if_none_left false e h = tt

if_none_right : (b : Bool) (e : ParseError) → NotSyntax e → IfSome (if b then None else Some e) NotSyntax
if_none_right true e h = tt
if_none_right false e h = h

text_limit : (o : Option (List ℕ)) (at : ℕ) → IfSome (option_and_then (λ s. if is_pattern s then None else Some (error.BadLike at)) o) NotSyntax
text_limit (Some s) at = if_none_right (is_pattern s) _ (λ n h. cc)
text_limit None at = tt

pub limit_not_syntax : (place : Place) (at : ℕ) (t : Terminal) → IfSome (limit place at t) NotSyntax
limit_not_syntax (Want around) at t = if_none_left ((has_mark mark.Not t || has_mark mark.LeftParen t) && not (nat_lt (depth_of around) 32)) _ (λ n h. cc)
limit_not_syntax (Listed around col ls) at t = if_none_right (nat_lt (length ls) 16) _ (λ n h. cc)
limit_not_syntax (LikeText around col) at t = text_limit (text_in t) at
limit_not_syntax place at t = tt

refused : (tokens : List Terminal) (place : Place) (at n : ℕ) → parse_from place at tokens ≡ Err (error.Syntax n) → Left place at tokens n
refused [] place at n e = ended (finish place) place at n refl e
refused (t ∷ ts) place at n e = stepped (step place t) (limit place at t) t ts place at n refl (limit_not_syntax place at t) (λ next h. refused ts next (at + 1) n h) e

walked_on : (o : Option Place) (ts rest : List Terminal) (next : Place) → ((p : Place) → walk p ts ≡ Some next → answer p (ts ++ rest) ≡ answer next rest) →
    option_and_then (λ p. walk p ts) o ≡ Some next → option_and_then (λ p. answer p (ts ++ rest)) o ≡ answer next rest
walked_on (Some p) ts rest next again h = again p h
walked_on None ts rest next again h = cc

answer_walked : (front rest : List Terminal) (place next : Place) → walk place front ≡ Some next → answer place (front ++ rest) ≡ answer next rest
answer_walked [] rest place next e = ap (λ p. answer p rest) (let k : place ≡ next = cc in k)
answer_walked (t ∷ ts) rest place next e = walked_on (step place t) ts rest next (λ p h. answer_walked ts rest p next h) e

pub begins : (front : List Terminal) (next : Place) → walk start front ≡ Some next → Begins front
begins front next w = let c = completes next in (completion next, c.0, sound (front ++ completion next) c.0 (answer_walked front (completion next) start next w ∙ c.1))

pub ends_there : (front rest : List Terminal) (next : Place) → walk start front ≡ Some next → IsStuck next rest → IsEnd front rest
ends_there front [] next w stuck = λ tree is.
    let a : answer start (front ++ []) ≡ answer next [] = answer_walked front [] start next w in
    let b : answer start front ≡ Some tree = complete front tree is in
    let c : answer start (front ++ []) ≡ answer start front = ap (answer start) (append-nil front) in
    cc
ends_there front (t ∷ ts) next w stuck = λ b.
    let a : answer start (front ++ (t ∷ b.0)) ≡ answer next (t ∷ b.0) = answer_walked front (t ∷ b.0) start next w in
    let d : answer start ((front ++ (t ∷ [])) ++ b.0) ≡ Some b.1 = complete _ b.1 b.2 in
    let c : answer start ((front ++ (t ∷ [])) ++ b.0) ≡ answer start (front ++ (t ∷ b.0)) = ap (answer start) (append_assoc front (t ∷ []) b.0) in
    let z : answer next (t ∷ b.0) ≡ None = ap (λ o. option_and_then (λ p. answer p b.0) o) stuck in
    cc

-- what is read is walked

read_ended : (o : Option Select) (at : ℕ) (tree : Select) → ends o at ≡ Ok tree → o ≡ Some tree
read_ended (Some p) at tree h = let k : p ≡ tree = cc in ap Some k
read_ended None at tree h = cc

read_stepped : (o : Option Place) (l : Option ParseError) (ts : List Terminal) (at : ℕ) (tree : Select) →
    ((next : Place) → parse_from next (at + 1) ts ≡ Ok tree → answer next ts ≡ Some tree) →
    goes o l at (λ next. parse_from next (at + 1) ts) ≡ Ok tree → option_and_then (λ next. answer next ts) o ≡ Some tree
read_stepped None l ts at tree again h = cc
read_stepped (Some next) (Some e) ts at tree again h = cc
read_stepped (Some next) None ts at tree again h = again next h

read_walked : (tokens : List Terminal) (place : Place) (at : ℕ) (tree : Select) → parse_from place at tokens ≡ Ok tree → answer place tokens ≡ Some tree
read_walked [] place at tree h = read_ended (finish place) at tree h
read_walked (t ∷ ts) place at tree h = read_stepped (step place t) (limit place at t) ts at tree (λ next k. read_walked ts next (at + 1) tree k) h

pub read_derived : (tokens : List Terminal) (tree : Select) → parse_at tokens start 0 ≡ Ok tree → IsQuery tokens tree
unfolding parse_at
read_derived tokens tree h = sound tokens tree (read_walked tokens start 0 tree h)

pub one_tree : (tokens : List Terminal) (a b : Select) → IsQuery tokens a → IsQuery tokens b → a ≡ b
one_tree tokens a b p q = let k : answer start tokens ≡ Some a = complete tokens a p in let l : answer start tokens ≡ Some b = complete tokens b q in cc

walk_on : (o : Option Place) (ts : List Terminal) (t : Terminal) (last next : Place) → ((p : Place) → walk p ts ≡ Some last → walk p (ts ++ (t ∷ [])) ≡ Some next) →
    option_and_then (λ p. walk p ts) o ≡ Some last → option_and_then (λ p. walk p (ts ++ (t ∷ []))) o ≡ Some next
walk_on (Some p) ts t last next again h = again p h
walk_on None ts t last next again h = cc

pub walk_more : (front : List Terminal) (t : Terminal) (place last next : Place) → walk place front ≡ Some last → step last t ≡ Some next → walk place (front ++ (t ∷ [])) ≡ Some next
walk_more [] t place last next w on = ap (λ o. option_and_then (λ p. Some p) o) (ap (λ p. step p t) (let k : place ≡ last = cc in k) ∙ on)
walk_more (u ∷ us) t place last next w on = walk_on (step place u) us t last next (λ p h. walk_more us t p last next h on) w
