-- The tokens that stand before a neg are walked to where it comes.
use Rattle.std.proofs.Common.{◌≡◌, ℕ, ◌+◌, ◌≤◌, ◌<◌, ◌⊎◌, inl, inr, Bool, true, false, not, ◌&&◌, ◌||◌, nat_lt, if◌then◌else◌, List, [], ◌∷◌, ◌++◌, length, Option, Some, None, option_and_then, refl, sym, ap, ◌∙◌, append_assoc, append-nil, arith}
use Rattle.std.proofs.lemmas.Bool.Decides.{nat_tests}
use Rattle.ch_sql_grammar.specs.declared.terminal.Mark.TheVariants as mark
use Rattle.ch_sql_grammar.specs.declared.terminal.Terminal.{Terminal}
use Rattle.ch_sql_grammar.specs.declared.terminal.Terminal.TheVariants as terminal
use Rattle.ch_sql_grammar.specs.declared.query.ColumnRef.{ColumnRef}
use Rattle.ch_sql_grammar.specs.declared.head.Head.{Head}
use Rattle.ch_sql_grammar.specs.HeadSteps.{one_head, join_head, semi_head}
use Rattle.ch_pred.specs.declared.pred.Literal.{Literal}
use Rattle.ch_pred.specs.declared.pred.Literal.TheVariants as literal
use Rattle.ch_sql_grammar.specs.declared.error.ParseError.{ParseError}
use Rattle.ch_sql_grammar.specs.declared.error.ParseError.TheVariants as error
use Rattle.ch_sql_grammar.specs.Tree.{Plain}
use Rattle.ch_sql_grammar.specs.Tokens.{has_mark, text_in}
use Rattle.ch_sql_grammar.specs.Grammar as grammar
use Rattle.ch_sql_grammar.specs.Grammar.{Pred, Conj, Form, IsForm, col_tokens, literal_token, listed_tokens, pred_tokens, conj_tokens, conj_trees, neg_trees, distinct_tokens, join_tokens, semi_tokens, one_tokens, is_plain_item}
use Rattle.ch_sql_places.specs.Machine.{Around, Member, Negated, Level, Whole, Group, Place, Lead, LeadCol, Want, Atom, Listed, LikeText, whole, may_be_outer, takes_or, depth_of, level_depth, step, limit, start, walk}
use Rattle.ch_sql_places.specs.Refusal.{Open, behind, negated, OpenPred, filter_of, grouped, before_filter, ors_tokens, ands_tokens, open_tokens, open_pred_tokens, open_depth, open_pred_depth, has_pred, may_or, OrsFit, IsOpen, IsOpenPred, IsDeep, IsLong, IsUnmatched}
use Rattle.ch_sql_places.proofs.Run.{Check, Fold, noted, led, check, run}
use Rattle.ch_sql_places.proofs.Filters.{first_col, front_walked, or_taken, conj_walked, pred_walked}
use Rattle.ch_sql_places.proofs.Leads.{ors_trees, ands_trees}
use Rattle.ch_sql_places.proofs.Walked.{literals_not, pred_not, conj_not, lead_pred, lead_conj, lead_key, lead_listed, distinct_walked, one_walked, join_walked, semi_walked}

-- the fold that walks

abbrev walking : Fold (Option Place)
walking = record { on = λ c r. r; stuck = None; end = λ place. Some place }

noted_not : (o : Option Check) (r : Option Place) → noted walking o r ≡ r
noted_not None r = refl
noted_not (Some c) r = refl

led_on : (o : Option Place) (ts : List Terminal) → ((next : Place) → walk next ts ≡ run walking next ts) → option_and_then (λ q. walk q ts) o ≡ led walking (λ q. run walking q ts) o
led_on None ts again = refl
led_on (Some next) ts again = again next

walk_run : (ts : List Terminal) (place : Place) → walk place ts ≡ run walking place ts
walk_run [] place = refl
walk_run (t ∷ ts) place = led_on (step place t) ts (walk_run ts) ∙ sym (noted_not (check place t) (led walking (λ q. run walking q ts) (step place t)))

-- the place to which the tokens before a neg lead

abbrev head_of : Form → Head
head_of (grammar.distinct front last table filter) = one_head true (front ++ (last ∷ [])) table
head_of (grammar.join front last left right first_on second_on filter) = join_head (front ++ (last ∷ [])) left right first_on second_on
head_of (grammar.semi front last outer key inner_key inner filter) = semi_head (front ++ (last ∷ [])) outer inner key inner_key
head_of (grammar.one front last table filter ending) = one_head false (front ++ (last ∷ [])) table

abbrev first_place : Bool → Head → Place
first_place true h = Lead h
first_place false h = Want (whole h)

abbrev mutual
  around_of : Open → Around
  around_of (behind around conjs negs) = Member (ors_trees conjs) (ands_trees negs) (level_of around)
  around_of (negated around) = Negated (around_of around)

  level_of : OpenPred → Level
  level_of (filter_of form) = Whole (head_of form)
  level_of (grouped around) = Group (around_of around)

abbrev pred_entry : OpenPred → Place
pred_entry (filter_of form) = first_place (may_be_outer (head_of form)) (head_of form)
pred_entry (grouped around) = Want (Member [] [] (Group (around_of around)))

abbrev entry : Open → Place
entry (behind around None None) = pred_entry around
entry (behind around (Some p) negs) = Want (Member (conj_trees p) (ands_trees negs) (level_of around))
entry (behind around None (Some c)) = Want (Member [] (neg_trees c) (level_of around))
entry (negated around) = Want (Negated (around_of around))

mutual
  depth_same : (o : Open) → open_depth o ≡ depth_of (around_of o)
  depth_same (behind around conjs negs) = level_depth_same around
  depth_same (negated around) = ap (λ n. n + 1) (depth_same around)

  level_depth_same : (o : OpenPred) → open_pred_depth o ≡ level_depth (level_of o)
  level_depth_same (filter_of form) = refl
  level_depth_same (grouped around) = ap (λ n. n + 1) (depth_same around)

ors_same : (o : OpenPred) → may_or o ≡ takes_or (level_of o)
ors_same (filter_of (grammar.distinct front last table filter)) = refl
ors_same (filter_of (grammar.join front last left right first_on second_on filter)) = refl
ors_same (filter_of (grammar.semi front last outer key inner_key inner filter)) = refl
ors_same (filter_of (grammar.one front last table filter ending)) = refl
ors_same (grouped around) = refl

first_led : (b : Bool) (h : Head) (ts : List Terminal) → led walking (λ q. run walking q ts) (if b then Some (Lead h) else Some (Want (whole h))) ≡ run walking (first_place b h) ts
first_led true h ts = refl
first_led false h ts = refl

filter_walked : (form : Form) (ts : List Terminal) → IsForm form → run walking start (before_filter form ++ ts) ≡ run walking (first_place (may_be_outer (head_of form)) (head_of form)) ts
filter_walked (grammar.distinct front last table filter) ts is = ap (run walking start) (append_assoc (distinct_tokens front last table) (terminal.Mark mark.Where ∷ []) ts)
    ∙ distinct_walked walking front last table (terminal.Mark mark.Where ∷ ts) is
filter_walked (grammar.join front last left right first_on second_on filter) ts is = ap (run walking start) (append_assoc (join_tokens front last left right first_on second_on) (terminal.Mark mark.Where ∷ []) ts)
    ∙ join_walked walking front last left right first_on second_on (terminal.Mark mark.Where ∷ ts) refl
filter_walked (grammar.semi front last outer key inner_key inner filter) ts is = ap (run walking start) (append_assoc (semi_tokens front last outer key inner_key inner) (terminal.Mark mark.And ∷ []) ts)
    ∙ semi_walked walking front last outer key inner_key inner (terminal.Mark mark.And ∷ ts) is
filter_walked (grammar.one front last table filter ending) ts is = ap (run walking start) (append_assoc (one_tokens front last table) (terminal.Mark mark.Where ∷ []) ts)
    ∙ one_walked walking front last table (terminal.Mark mark.Where ∷ ts) ∙ first_led (may_be_outer (one_head false (front ++ (last ∷ [])) table)) (one_head false (front ++ (last ∷ [])) table) ts

-- a pred, a conj and a neg come at the first place as anywhere

first_pred : (b : Bool) (h : Head) (p : Pred) (ts : List Terminal) → run walking (first_place b h) (pred_tokens p ++ ts) ≡ run walking (Want (whole h)) (pred_tokens p ++ ts)
first_pred true h p ts = lead_pred walking h p ts
first_pred false h p ts = refl

first_conj : (b : Bool) (h : Head) (c : Conj) (ts : List Terminal) → run walking (first_place b h) (conj_tokens c ++ ts) ≡ run walking (Want (whole h)) (conj_tokens c ++ ts)
first_conj true h c ts = lead_conj walking h c ts
first_conj false h c ts = refl

entry_pred : (o : OpenPred) (p : Pred) (ts : List Terminal) → run walking (pred_entry o) (pred_tokens p ++ ts) ≡ run walking (Want (Member [] [] (level_of o))) (pred_tokens p ++ ts)
entry_pred (filter_of form) p ts = first_pred (may_be_outer (head_of form)) (head_of form) p ts
entry_pred (grouped around) p ts = refl

entry_conj : (o : OpenPred) (c : Conj) (ts : List Terminal) → run walking (pred_entry o) (conj_tokens c ++ ts) ≡ run walking (Want (Member [] [] (level_of o))) (conj_tokens c ++ ts)
entry_conj (filter_of form) c ts = first_conj (may_be_outer (head_of form)) (head_of form) c ts
entry_conj (grouped around) c ts = refl

first_opens : (b : Bool) (h : Head) (ts : List Terminal) → (run walking (first_place b h) (terminal.Mark mark.Not ∷ ts) ≡ run walking (Want (Negated (whole h))) ts) × (run walking (first_place b h) (terminal.Mark mark.LeftParen ∷ ts) ≡ run walking (Want (Member [] [] (Group (whole h)))) ts)
first_opens true h ts = (refl, refl)
first_opens false h ts = (refl, refl)

opens_on : (o : Open) (ts : List Terminal) → (run walking (entry o) (terminal.Mark mark.Not ∷ ts) ≡ run walking (Want (Negated (around_of o))) ts) × (run walking (entry o) (terminal.Mark mark.LeftParen ∷ ts) ≡ run walking (Want (Member [] [] (Group (around_of o)))) ts)
opens_on (behind (filter_of form) None None) ts = first_opens (may_be_outer (head_of form)) (head_of form) ts
opens_on (behind (grouped around) None None) ts = (refl, refl)
opens_on (behind around (Some p) negs) ts = (refl, refl)
opens_on (behind around None (Some c)) ts = (refl, refl)
opens_on (negated around) ts = (refl, refl)

quiet : (c : Check) (r : Option Place) → walking.on c r ≡ r
quiet c r = refl

ors_walked : (o : OpenPred) (p : Pred) (ts : List Terminal) → may_or o ≡ true → run walking (pred_entry o) (ors_tokens (Some p) ++ ts) ≡ run walking (Want (Member (conj_trees p) [] (level_of o))) ts
ors_walked o p ts fit =
    let level = level_of o in
    let w : takes_or level ≡ true = sym (ors_same o) ∙ fit in
    ap (run walking (pred_entry o)) (append_assoc (pred_tokens p) (terminal.Mark mark.Or ∷ []) ts)
    ∙ entry_pred o p (terminal.Mark mark.Or ∷ ts)
    ∙ pred_walked walking p level (terminal.Mark mark.Or ∷ ts) w refl refl
    ∙ pred_not walking quiet p (level_depth level) _
    ∙ or_taken walking (conj_trees p) level ts w

ands_walked : (c : Conj) (conjs : List Plain) (level : Level) (ts : List Terminal) → run walking (Want (Member conjs [] level)) (ands_tokens (Some c) ++ ts) ≡ run walking (Want (Member conjs (neg_trees c) level)) ts
ands_walked c conjs level ts =
    ap (run walking (Want (Member conjs [] level))) (append_assoc (conj_tokens c) (terminal.Mark mark.And ∷ []) ts)
    ∙ conj_walked walking c conjs level (terminal.Mark mark.And ∷ ts) refl
    ∙ conj_not walking quiet c (level_depth level) _

first_ands : (o : OpenPred) (c : Conj) (ts : List Terminal) → run walking (pred_entry o) (ands_tokens (Some c) ++ ts) ≡ run walking (Want (Member [] (neg_trees c) (level_of o))) ts
first_ands o c ts =
    ap (run walking (pred_entry o)) (append_assoc (conj_tokens c) (terminal.Mark mark.And ∷ []) ts)
    ∙ entry_conj o c (terminal.Mark mark.And ∷ ts)
    ∙ sym (ap (run walking (Want (Member [] [] (level_of o)))) (append_assoc (conj_tokens c) (terminal.Mark mark.And ∷ []) ts))
    ∙ ands_walked c [] (level_of o) ts

behind_walked : (o : OpenPred) (conjs : Option Pred) (negs : Option Conj) (ts : List Terminal) → OrsFit conjs (may_or o) → run walking (pred_entry o) (ors_tokens conjs ++ (ands_tokens negs ++ ts)) ≡ run walking (entry (behind o conjs negs)) ts
behind_walked o None None ts fit = refl
behind_walked o None (Some c) ts fit = first_ands o c ts
behind_walked o (Some p) None ts fit = ors_walked o p ts fit
behind_walked o (Some p) (Some c) ts fit = ors_walked o p (ands_tokens (Some c) ++ ts) fit ∙ ands_walked c (conj_trees p) (level_of o) ts

mutual
  open_walked : (o : Open) (ts : List Terminal) → IsOpen o → run walking start (open_tokens o ++ ts) ≡ run walking (entry o) ts
  open_walked (behind around conjs negs) ts is =
      ap (run walking start) (append_assoc (open_pred_tokens around ++ ors_tokens conjs) (ands_tokens negs) ts ∙ append_assoc (open_pred_tokens around) (ors_tokens conjs) (ands_tokens negs ++ ts))
      ∙ open_pred_walked around (ors_tokens conjs ++ (ands_tokens negs ++ ts)) is.0
      ∙ behind_walked around conjs negs ts is.1
  open_walked (negated around) ts is = ap (run walking start) (append_assoc (open_tokens around) (terminal.Mark mark.Not ∷ []) ts) ∙ open_walked around (terminal.Mark mark.Not ∷ ts) is ∙ (opens_on around ts).0

  open_pred_walked : (o : OpenPred) (ts : List Terminal) → IsOpenPred o → run walking start (open_pred_tokens o ++ ts) ≡ run walking (pred_entry o) ts
  open_pred_walked (filter_of form) ts is = filter_walked form ts is
  open_pred_walked (grouped around) ts is = ap (run walking start) (append_assoc (open_tokens around) (terminal.Mark mark.LeftParen ∷ []) ts) ∙ open_walked around (terminal.Mark mark.LeftParen ∷ ts) is ∙ (opens_on around ts).1

-- where a neg comes inside others

deep_entry : (o : Open) → 1 ≤ open_depth o → entry o ≡ Want (around_of o)
deep_entry (behind (filter_of form) None None) h = absurd (omega arith)
deep_entry (behind (grouped around) None None) h = refl
deep_entry (behind around (Some p) negs) h = refl
deep_entry (behind around None (Some c)) h = refl
deep_entry (negated around) h = refl

open_place : (o : Open) (front : List Terminal) → IsOpen o → front ≡ open_tokens o → walk start front ≡ Some (entry o)
open_place o front is e = ap (walk start) (e ∙ sym (append-nil (open_tokens o))) ∙ walk_run (open_tokens o ++ []) start ∙ open_walked o [] is

limit_deep : (around : Around) (at : ℕ) (t : Terminal) → 32 ≤ depth_of around → (t ≡ terminal.Mark mark.Not) ⊎ (t ≡ terminal.Mark mark.LeftParen) → limit (Want around) at t ≡ Some (error.TooDeep at)
limit_deep around at t d (inl e) = ap (limit (Want around) at) e ∙ ap (λ b. if not b then Some (error.TooDeep at) else None) (let n : nat_lt (depth_of around) 32 ≡ false = grind (arith, nat_tests) in n)
limit_deep around at t d (inr e) = ap (limit (Want around) at) e ∙ ap (λ b. if not b then Some (error.TooDeep at) else None) (let n : nat_lt (depth_of around) 32 ≡ false = grind (arith, nat_tests) in n)

pub deep_limited : (front : List Terminal) (t : Terminal) (place : Place) (at : ℕ) → IsDeep front t → walk start front ≡ Some place → limit place at t ≡ Some (error.TooDeep at)
deep_limited front t place at r w =
    let deep = r.deep in
    let same = depth_same r.around in
    let there : Some (entry r.around) ≡ Some place = sym (open_place r.around front r.is_open r.spelled) ∙ w in
    let here : place ≡ Want (around_of r.around) = (let k : entry r.around ≡ place = cc in sym k) ∙ deep_entry r.around (omega arith) in
    ap (λ p. limit p at t) here ∙ limit_deep (around_of r.around) at t (omega arith) r.opens

-- where a literal of a list comes

listed_first : (h : Head) (col : ColumnRef) (v : Literal) (vs : List Literal) → run walking (Lead h) (col_tokens col ++ (terminal.Mark mark.In ∷ terminal.Mark mark.LeftParen ∷ listed_tokens (v ∷ vs))) ≡ run walking (Listed (whole h) col []) (listed_tokens (v ∷ vs))
listed_first h col (literal.Number n) vs = lead_key walking h col (terminal.Mark mark.In ∷ terminal.Mark mark.LeftParen ∷ listed_tokens (literal.Number n ∷ vs)) refl
listed_first h col (literal.Text s) vs = lead_key walking h col (terminal.Mark mark.In ∷ terminal.Mark mark.LeftParen ∷ listed_tokens (literal.Text s ∷ vs)) refl

first_listed : (b : Bool) (h : Head) (col : ColumnRef) (v : Literal) (vs : List Literal) →
    run walking (first_place b h) (col_tokens col ++ (terminal.Mark mark.In ∷ terminal.Mark mark.LeftParen ∷ listed_tokens (v ∷ vs))) ≡ run walking (Listed (whole h) col []) (listed_tokens (v ∷ vs))
first_listed true h col v vs = listed_first h col v vs
first_listed false h col v vs = first_col walking (whole h) col mark.In (terminal.Mark mark.LeftParen ∷ listed_tokens (v ∷ vs)) refl

listed_on : (o : Open) (col : ColumnRef) (v : Literal) (vs : List Literal) →
    run walking (entry o) (col_tokens col ++ (terminal.Mark mark.In ∷ terminal.Mark mark.LeftParen ∷ listed_tokens (v ∷ vs))) ≡ run walking (Listed (around_of o) col []) (listed_tokens (v ∷ vs))
listed_on (behind (filter_of form) None None) col v vs = first_listed (may_be_outer (head_of form)) (head_of form) col v vs
listed_on (behind (grouped around) None None) col v vs = first_col walking _ col mark.In (terminal.Mark mark.LeftParen ∷ listed_tokens (v ∷ vs)) refl
listed_on (behind around (Some p) negs) col v vs = first_col walking _ col mark.In (terminal.Mark mark.LeftParen ∷ listed_tokens (v ∷ vs)) refl
listed_on (behind around None (Some c)) col v vs = first_col walking _ col mark.In (terminal.Mark mark.LeftParen ∷ listed_tokens (v ∷ vs)) refl
listed_on (negated around) col v vs = first_col walking _ col mark.In (terminal.Mark mark.LeftParen ∷ listed_tokens (v ∷ vs)) refl

all_listed : (around : Around) (col : ColumnRef) (ls : List Literal) → run walking (Listed around col []) (listed_tokens ls) ≡ Some (Listed around col ls)
all_listed around col ls = ap (run walking (Listed around col [])) (sym (append-nil (listed_tokens ls))) ∙ front_walked walking ls [] around col [] ∙ literals_not walking quiet ls 0 _

listed_there : (o : Open) (col : ColumnRef) (ls : List Literal) → 1 ≤ length ls → IsOpen o → walk start (open_tokens o ++ (col_tokens col ++ (terminal.Mark mark.In ∷ terminal.Mark mark.LeftParen ∷ listed_tokens ls))) ≡ Some (Listed (around_of o) col ls)
listed_there o col [] some is = absurd (omega arith)
listed_there o col (v ∷ vs) some is =
    walk_run (open_tokens o ++ (col_tokens col ++ (terminal.Mark mark.In ∷ terminal.Mark mark.LeftParen ∷ listed_tokens (v ∷ vs)))) start
    ∙ open_walked o (col_tokens col ++ (terminal.Mark mark.In ∷ terminal.Mark mark.LeftParen ∷ listed_tokens (v ∷ vs))) is ∙ listed_on o col v vs ∙ all_listed (around_of o) col (v ∷ vs)

pub long_limited : (front : List Terminal) (t : Terminal) (place : Place) (at : ℕ) → IsLong front t → walk start front ≡ Some place → limit place at t ≡ Some (error.InTooLong at)
long_limited front t place at r w =
    let many = r.many in
    let there : Some (Listed (around_of r.around) r.col r.literals) ≡ Some place = sym (ap (walk start) r.spelled ∙ listed_there r.around r.col r.literals (omega arith) r.is_open) ∙ w in
    let here : place ≡ Listed (around_of r.around) r.col r.literals = (let k : Listed (around_of r.around) r.col r.literals ≡ place = cc in sym k) in
    ap (λ p. limit p at t) here ∙ ap (λ b. if b then None else Some (error.InTooLong at)) (let n : nat_lt (length r.literals) 16 ≡ false = grind (arith, nat_tests) in n)

-- where the text of a LIKE comes

first_like : (b : Bool) (h : Head) (col : ColumnRef) → run walking (first_place b h) (col_tokens col ++ (terminal.Mark mark.Like ∷ [])) ≡ Some (LikeText (whole h) col)
first_like true h col = lead_key walking h col (terminal.Mark mark.Like ∷ []) refl
first_like false h col = first_col walking (whole h) col mark.Like [] refl

like_on : (o : Open) (col : ColumnRef) → run walking (entry o) (col_tokens col ++ (terminal.Mark mark.Like ∷ [])) ≡ Some (LikeText (around_of o) col)
like_on (behind (filter_of form) None None) col = first_like (may_be_outer (head_of form)) (head_of form) col
like_on (behind (grouped around) None None) col = first_col walking _ col mark.Like [] refl
like_on (behind around (Some p) negs) col = first_col walking _ col mark.Like [] refl
like_on (behind around None (Some c)) col = first_col walking _ col mark.Like [] refl
like_on (negated around) col = first_col walking _ col mark.Like [] refl

like_there : (o : Open) (col : ColumnRef) → IsOpen o → walk start (open_tokens o ++ (col_tokens col ++ (terminal.Mark mark.Like ∷ []))) ≡ Some (LikeText (around_of o) col)
like_there o col is = walk_run (open_tokens o ++ (col_tokens col ++ (terminal.Mark mark.Like ∷ []))) start ∙ open_walked o (col_tokens col ++ (terminal.Mark mark.Like ∷ [])) is ∙ like_on o col

pub unmatched_limited : (front : List Terminal) (t : Terminal) (place : Place) (at : ℕ) → IsUnmatched front t → walk start front ≡ Some place → limit place at t ≡ Some (error.BadLike at)
unmatched_limited front t place at r w =
    let there : Some (LikeText (around_of r.around) r.col) ≡ Some place = sym (ap (walk start) r.spelled ∙ like_there r.around r.col r.is_open) ∙ w in
    let here : place ≡ LikeText (around_of r.around) r.col = (let k : LikeText (around_of r.around) r.col ≡ place = cc in sym k) in
    ap (λ p. limit p at t) here ∙ ap (limit (LikeText (around_of r.around) r.col) at) r.matches ∙ ap (λ b. if b then None else Some (error.BadLike at)) r.bad
