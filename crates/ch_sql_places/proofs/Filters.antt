-- The derivation of a filter is walked, with its checks.
use Rattle.std.proofs.Common.{◌≡◌, ℕ, ◌+◌, Bool, true, false, if◌then◌else◌, List, [], ◌∷◌, ◌++◌, length, Option, Some, None, refl, sym, ap, ◌∙◌, append_assoc, append-nil, arith, length-append}
use Rattle.ch_sql_grammar.specs.declared.terminal.Mark.{Mark}
use Rattle.ch_sql_grammar.specs.declared.terminal.Mark.TheVariants as mark
use Rattle.ch_sql_grammar.specs.declared.terminal.Terminal.{Terminal}
use Rattle.ch_sql_grammar.specs.declared.terminal.Terminal.TheVariants as terminal
use Rattle.ch_sql_grammar.specs.declared.query.ColumnRef.{ColumnRef}
use Rattle.ch_pred.specs.declared.pred.Cmp.{Cmp}
use Rattle.ch_pred.specs.declared.pred.Cmp.TheVariants as cmp
use Rattle.ch_pred.specs.declared.pred.Literal.{Literal}
use Rattle.ch_pred.specs.declared.pred.Literal.TheVariants as literal
use Rattle.ch_sql_grammar.specs.declared.query.Side.{Side}
use Rattle.ch_sql_grammar.specs.declared.query.Side.TheVariants as side
use Rattle.ch_sql_grammar.specs.Tree.{Plain, Compare, Between, Within, Not, all_of, any_of, bare_col}
use Rattle.ch_sql_grammar.specs.Tokens.{has_mark}
use Rattle.ch_sql_grammar.specs.Grammar as grammar
use Rattle.ch_sql_grammar.specs.Grammar.{Pred, conj, or, Conj, neg, and, Neg, not, parens, atom, compare, between, within, like, col_tokens, literal_token, listed_tokens, cmp_mark, side_tokens, atom_tokens, pred_tokens, conj_tokens, neg_tokens, atom_tree, conj_trees, neg_trees, neg_tree}
use Rattle.ch_sql_places.specs.Machine.{Around, Member, Negated, Level, Group, Taker, First, Second, Leading, Place, Want, Name, Dot, Atom, Compared, Low, LowAnd, High, Listed, Next, Negs, Conjs, have, took, step, step_settled, depth_of, level_depth, takes_or, after_pred}
use Rattle.ch_sql_places.proofs.Complete.{step_took, finish_took}
use Rattle.ch_sql_places.proofs.Run.{Check, opens, lists, matches, Fold, Settled, noted, led, check, run, check_took, literals_on, atom_on, pred_on, conj_on, neg_on}

-- no dot comes, and no AND

abbrev pub NoMark : {R : Type 0} → Fold R → Mark → List Terminal → Type 0
NoMark {R} fold m [] = Settled R fold
NoMark fold m (t ∷ ts) = has_mark m t ≡ false

abbrev pub NoDot : {R : Type 0} → Fold R → List Terminal → Type 0
NoDot fold ts = NoMark fold mark.Dot ts

abbrev pub NoAnd : {R : Type 0} → Fold R → List Terminal → Type 0
NoAnd fold ts = NoMark fold mark.And ts

-- a column ends where no dot comes

pub run_name : {R : Type 0} (fold : Fold R) (taker : Taker) (n : List ℕ) (ts : List Terminal) → NoDot fold ts → run fold (Name taker n) ts ≡ run fold (took taker (bare_col n)) ts
run_name fold taker n [] h = h.is_done (Name taker n) ∙ ap h.done (sym (finish_took taker (bare_col n))) ∙ sym (h.is_done (took taker (bare_col n)))
run_name fold taker n (t ∷ ts) h =
    ap (λ b. led fold (λ q. run fold q ts) (if b then Some (Dot taker n) else step_settled (took taker (bare_col n)) t)) h
    ∙ ap (λ o. led fold (λ q. run fold q ts) o) (sym (step_took taker (bare_col n) t))
    ∙ ap (λ c. noted fold c (led fold (λ q. run fold q ts) (step (took taker (bare_col n)) t))) (sym (check_took taker (bare_col n) t))

pub run_negs : {R : Type 0} (fold : Fold R) (conjs negs : List Plain) (level : Level) (ts : List Terminal) → NoAnd fold ts → run fold (Negs conjs negs level) ts ≡ run fold (Conjs (conjs ++ (all_of negs ∷ [])) level) ts
run_negs fold conjs negs level [] h = h.is_done (Negs conjs negs level) ∙ sym (h.is_done (Conjs (conjs ++ (all_of negs ∷ [])) level))
run_negs fold conjs negs level (t ∷ ts) h = ap (λ b. led fold (λ q. run fold q ts) (if b then Some (Want (Member conjs negs level)) else step (Conjs (conjs ++ (all_of negs ∷ [])) level) t)) h

first_name : {R : Type 0} (fold : Fold R) (around : Around) (table : Option (List ℕ)) (n : List ℕ) (m : Mark) (ts : List Terminal) → has_mark mark.Dot (terminal.Mark m) ≡ false →
    run fold (Want around) (col_tokens (record { table = table; name = n }) ++ (terminal.Mark m ∷ ts)) ≡ run fold (Atom around (record { table = table; name = n })) (terminal.Mark m ∷ ts)
first_name fold around None n m ts h = run_name fold (First around) n (terminal.Mark m ∷ ts) h
first_name fold around (Some t) n m ts h = refl

pub first_col : {R : Type 0} (fold : Fold R) (around : Around) (col : ColumnRef) (m : Mark) (ts : List Terminal) → has_mark mark.Dot (terminal.Mark m) ≡ false →
    run fold (Want around) (col_tokens col ++ (terminal.Mark m ∷ ts)) ≡ run fold (Atom around col) (terminal.Mark m ∷ ts)
first_col fold around col m ts h = first_name fold around col.table col.name m ts h

second_name : {R : Type 0} (fold : Fold R) (around : Around) (left : ColumnRef) (c : Cmp) (table : Option (List ℕ)) (n : List ℕ) (ts : List Terminal) → NoDot fold ts →
    run fold (Compared around left c) (col_tokens (record { table = table; name = n }) ++ ts) ≡ run fold (have (Compare left c (side.Column (record { table = table; name = n }))) around) ts
second_name fold around left c None n ts h = run_name fold (Second around left c) n ts h
second_name fold around left c (Some t) n ts h = refl

-- atoms

side_walked : {R : Type 0} (fold : Fold R) (around : Around) (left : ColumnRef) (c : Cmp) (s : Side) (ts : List Terminal) → NoDot fold ts →
    run fold (Compared around left c) (side_tokens s ++ ts) ≡ run fold (have (Compare left c s) around) ts
side_walked fold around left c (side.Column col) ts h = second_name fold around left c col.table col.name ts h
side_walked fold around left c (side.Value (literal.Number n)) ts h = refl
side_walked fold around left c (side.Value (literal.Text t)) ts h = refl

cmp_walked : {R : Type 0} (fold : Fold R) (around : Around) (col : ColumnRef) (c : Cmp) (ts : List Terminal) → run fold (Atom around col) (terminal.Mark (cmp_mark c) ∷ ts) ≡ run fold (Compared around col c) ts
cmp_walked fold around col cmp.Eq ts = refl
cmp_walked fold around col cmp.Ne ts = refl
cmp_walked fold around col cmp.Lt ts = refl
cmp_walked fold around col cmp.Le ts = refl
cmp_walked fold around col cmp.Gt ts = refl
cmp_walked fold around col cmp.Ge ts = refl

pub cmp_no_dot : (c : Cmp) → has_mark mark.Dot (terminal.Mark (cmp_mark c)) ≡ false
cmp_no_dot cmp.Eq = refl
cmp_no_dot cmp.Ne = refl
cmp_no_dot cmp.Lt = refl
cmp_no_dot cmp.Le = refl
cmp_no_dot cmp.Gt = refl
cmp_no_dot cmp.Ge = refl

low_walked : {R : Type 0} (fold : Fold R) (around : Around) (col : ColumnRef) (v : Literal) (ts : List Terminal) → run fold (Low around col) (literal_token v ∷ ts) ≡ run fold (LowAnd around col v) ts
low_walked fold around col (literal.Number n) ts = refl
low_walked fold around col (literal.Text t) ts = refl

high_walked : {R : Type 0} (fold : Fold R) (around : Around) (col : ColumnRef) (low v : Literal) (ts : List Terminal) → run fold (High around col low) (literal_token v ∷ ts) ≡ run fold (have (Between col low v) around) ts
high_walked fold around col low (literal.Number n) ts = refl
high_walked fold around col low (literal.Text t) ts = refl

listed_one : {R : Type 0} (fold : Fold R) (around : Around) (col : ColumnRef) (ls : List Literal) (v : Literal) (ts : List Terminal) →
    run fold (Listed around col ls) (literal_token v ∷ ts) ≡ fold.on (lists (length ls)) (run fold (Next around col (ls ++ (v ∷ []))) ts)
listed_one fold around col ls (literal.Number n) ts = refl
listed_one fold around col ls (literal.Text t) ts = refl

-- the literals before the last are walked
pub front_walked : {R : Type 0} (fold : Fold R) (front ls : List Literal) (around : Around) (col : ColumnRef) (ts : List Terminal) →
    run fold (Listed around col ls) (listed_tokens front ++ ts) ≡ literals_on fold (length ls) front (run fold (Listed around col (ls ++ front)) ts)
front_walked fold [] ls around col ts = ap (λ l. run fold (Listed around col l) ts) (sym (append-nil ls))
front_walked fold (v ∷ vs) ls around col ts =
    let more = ls ++ (v ∷ []) in
    let size : length more ≡ length ls + 1 = omega (arith, length-append ls (v ∷ [])) in
    listed_one fold around col ls v (terminal.Mark mark.Comma ∷ (listed_tokens vs ++ ts))
    ∙ ap (fold.on (lists (length ls))) (front_walked fold vs more around col ts
    ∙ ap (λ n. literals_on fold n vs (run fold (Listed around col (more ++ vs)) ts)) size
    ∙ ap (λ l. literals_on fold (length ls + 1) vs (run fold (Listed around col l) ts)) (append_assoc ls (v ∷ []) vs))

literals_last : {R : Type 0} (fold : Fold R) (front : List Literal) (last : Literal) (n : ℕ) (r : R) → literals_on fold n front (fold.on (lists (n + length front)) r) ≡ literals_on fold n (front ++ (last ∷ [])) r
literals_last fold [] last n r = ap (λ m. fold.on (lists m) r) (let e : n + 0 ≡ n = omega arith in e)
literals_last fold (v ∷ vs) last n r = ap (fold.on (lists n)) (ap (λ m. literals_on fold (n + 1) vs (fold.on (lists m) r)) (let e : n + length (v ∷ vs) ≡ n + 1 + length vs = omega arith in e) ∙ literals_last fold vs last (n + 1) r)

list_walked : {R : Type 0} (fold : Fold R) (front : List Literal) (around : Around) (col : ColumnRef) (last : Literal) (ts : List Terminal) →
    run fold (Listed around col []) (listed_tokens front ++ (literal_token last ∷ terminal.Mark mark.RightParen ∷ ts)) ≡ literals_on fold 0 (front ++ (last ∷ [])) (run fold (have (Within col (front ++ (last ∷ []))) around) ts)
list_walked fold front around col last ts =
    let behind = run fold (have (Within col (front ++ (last ∷ []))) around) ts in
    front_walked fold front [] around col (literal_token last ∷ terminal.Mark mark.RightParen ∷ ts)
    ∙ ap (literals_on fold 0 front) (listed_one fold around col front last (terminal.Mark mark.RightParen ∷ ts) ∙ ap (λ m. fold.on (lists m) behind) (let e : length front ≡ 0 + length front = omega arith in e))
    ∙ literals_last fold front last 0 behind

atom_walked : {R : Type 0} (fold : Fold R) (a : grammar.Atom) (around : Around) (ts : List Terminal) → NoDot fold ts → run fold (Want around) (atom_tokens a ++ ts) ≡ atom_on fold a (run fold (have (atom_tree a) around) ts)
atom_walked fold (compare col c s) around ts h = ap (run fold (Want around)) (append_assoc (col_tokens col) (terminal.Mark (cmp_mark c) ∷ side_tokens s) ts)
    ∙ first_col fold around col (cmp_mark c) (side_tokens s ++ ts) (cmp_no_dot c) ∙ cmp_walked fold around col c (side_tokens s ++ ts) ∙ side_walked fold around col c s ts h
atom_walked fold (between col low high) around ts h = ap (run fold (Want around)) (append_assoc (col_tokens col) (terminal.Mark mark.Between ∷ literal_token low ∷ terminal.Mark mark.And ∷ literal_token high ∷ []) ts)
    ∙ first_col fold around col mark.Between (literal_token low ∷ terminal.Mark mark.And ∷ literal_token high ∷ ts) refl ∙ low_walked fold around col low (terminal.Mark mark.And ∷ literal_token high ∷ ts) ∙ high_walked fold around col low high ts
atom_walked fold (within col front last) around ts h = ap (run fold (Want around)) (append_assoc (col_tokens col) (terminal.Mark mark.In ∷ terminal.Mark mark.LeftParen ∷ (listed_tokens front ++ (literal_token last ∷ terminal.Mark mark.RightParen ∷ []))) ts)
    ∙ first_col fold around col mark.In (terminal.Mark mark.LeftParen ∷ ((listed_tokens front ++ (literal_token last ∷ terminal.Mark mark.RightParen ∷ [])) ++ ts)) refl
    ∙ ap (run fold (Listed around col [])) (append_assoc (listed_tokens front) (literal_token last ∷ terminal.Mark mark.RightParen ∷ []) ts)
    ∙ list_walked fold front around col last ts
atom_walked fold (like col text) around ts h = ap (run fold (Want around)) (append_assoc (col_tokens col) (terminal.Mark mark.Like ∷ terminal.Text text ∷ []) ts)
    ∙ first_col fold around col mark.Like (terminal.Text text ∷ ts) refl

-- predicates

pub or_taken : {R : Type 0} (fold : Fold R) (conjs : List Plain) (level : Level) (ts : List Terminal) → takes_or level ≡ true → run fold (Conjs conjs level) (terminal.Mark mark.Or ∷ ts) ≡ run fold (Want (Member conjs [] level)) ts
or_taken fold conjs level ts o = ap (λ b. led fold (λ q. run fold q ts) (if b then Some (Want (Member conjs [] level)) else after_pred (any_of conjs) level (terminal.Mark mark.Or))) o

mutual
  pub neg_walked : {R : Type 0} (fold : Fold R) (n : Neg) (around : Around) (ts : List Terminal) → NoDot fold ts → run fold (Want around) (neg_tokens n ++ ts) ≡ neg_on fold (depth_of around) n (run fold (have (neg_tree n) around) ts)
  neg_walked fold (not n) around ts h = ap (fold.on (opens (depth_of around))) (neg_walked fold n (Negated around) ts h)
  neg_walked fold (parens p) around ts h = ap (λ l. fold.on (opens (depth_of around)) (run fold (Want (Member [] [] (Group around))) l)) (append_assoc (pred_tokens p) (terminal.Mark mark.RightParen ∷ []) ts)
      ∙ ap (fold.on (opens (depth_of around))) (pred_walked fold p (Group around) (terminal.Mark mark.RightParen ∷ ts) refl refl refl)
  neg_walked fold (atom a) around ts h = atom_walked fold a around ts h

  pub conj_walked : {R : Type 0} (fold : Fold R) (c : Conj) (conjs : List Plain) (level : Level) (ts : List Terminal) → NoDot fold ts →
      run fold (Want (Member conjs [] level)) (conj_tokens c ++ ts) ≡ conj_on fold (level_depth level) c (run fold (Negs conjs (neg_trees c) level) ts)
  conj_walked fold (neg n) conjs level ts h = neg_walked fold n (Member conjs [] level) ts h
  conj_walked fold (and c n) conjs level ts h = ap (run fold (Want (Member conjs [] level))) (append_assoc (conj_tokens c) (terminal.Mark mark.And ∷ neg_tokens n) ts)
      ∙ conj_walked fold c conjs level (terminal.Mark mark.And ∷ (neg_tokens n ++ ts)) refl
      ∙ ap (conj_on fold (level_depth level) c) (neg_walked fold n (Member conjs (neg_trees c) level) ts h)

  pub pred_walked : {R : Type 0} (fold : Fold R) (p : Pred) (level : Level) (ts : List Terminal) → takes_or level ≡ true → NoDot fold ts → NoAnd fold ts →
      run fold (Want (Member [] [] level)) (pred_tokens p ++ ts) ≡ pred_on fold (level_depth level) p (run fold (Conjs (conj_trees p) level) ts)
  pred_walked fold (conj c) level ts o h k = conj_walked fold c [] level ts h ∙ ap (conj_on fold (level_depth level) c) (run_negs fold [] (neg_trees c) level ts k)
  pred_walked fold (or p c) level ts o h k = ap (run fold (Want (Member [] [] level))) (append_assoc (pred_tokens p) (terminal.Mark mark.Or ∷ conj_tokens c) ts)
      ∙ pred_walked fold p level (terminal.Mark mark.Or ∷ (conj_tokens c ++ ts)) o refl refl
      ∙ ap (pred_on fold (level_depth level) p) (or_taken fold (conj_trees p) level (conj_tokens c ++ ts) o ∙ conj_walked fold c (conj_trees p) level ts h ∙ ap (conj_on fold (level_depth level) c) (run_negs fold (conj_trees p) (neg_trees c) level ts k))
