-- Each derivation of a query is walked, with its checks, and gives its tree.
use Rattle.std.proofs.Common.{◌≡◌, ℕ, ◌+◌, Bool, true, false, not, ◌&&◌, if◌then◌else◌, List, [], ◌∷◌, ◌++◌, Option, Some, None, option_map, option_and_then, refl, sym, ap, ◌∙◌, append_assoc, append-nil, ◌⊎◌, inl, inr}
use Rattle.std.specs.Prelude.{ℤ}
use Rattle.std.specs.List.{list_all}
use Rattle.ch_sql_grammar.specs.declared.terminal.Mark.{Mark}
use Rattle.ch_sql_grammar.specs.declared.terminal.Mark.TheVariants as mark
use Rattle.ch_sql_grammar.specs.declared.terminal.Terminal.{Terminal}
use Rattle.ch_sql_grammar.specs.declared.terminal.Terminal.TheVariants as terminal
use Rattle.ch_sql_grammar.specs.declared.query.ColumnRef.{ColumnRef}
use Rattle.ch_sql_grammar.specs.declared.query.Item.{Item}
use Rattle.ch_sql_grammar.specs.declared.query.Item.TheVariants as item
use Rattle.ch_sql_grammar.specs.declared.query.Agg.{Agg}
use Rattle.ch_sql_grammar.specs.declared.query.Agg.TheVariants as agg
use Rattle.ch_sql_grammar.specs.declared.query.Having.{Having}
use Rattle.ch_sql_grammar.specs.declared.query.SkyDim.{SkyDim}
use Rattle.ch_sql_grammar.specs.declared.query.Tail.{Tail}
use Rattle.ch_sql_grammar.specs.declared.query.Tail.TheVariants as tail
use Rattle.ch_sql_grammar.specs.declared.head.Head.{Head}
use Rattle.ch_sql_grammar.specs.declared.head.HeadPlace.TheVariants as head
use Rattle.ch_sql_grammar.specs.declared.head.HeadTaker.{HeadTaker}
use Rattle.ch_sql_grammar.specs.declared.head.HeadTaker.TheVariants as headtaker
use Rattle.ch_sql_grammar.specs.declared.tail.TailPlace.TheVariants as place
use Rattle.ch_sql_grammar.specs.declared.tail.TailTaker.{TailTaker}
use Rattle.ch_sql_grammar.specs.declared.tail.TailTaker.TheVariants as tailtaker
use Rattle.ch_sql_grammar.specs.declared.head.HeadStep.TheVariants as headstep
use Rattle.ch_sql_grammar.specs.HeadSteps as heads
use Rattle.ch_sql_grammar.specs.HeadSteps.{one_head, join_head, semi_head}
use Rattle.ch_sql_grammar.specs.TailSteps as tails
use Rattle.ch_pred.specs.declared.pred.Literal.{Literal}
use Rattle.ch_pred.specs.declared.pred.Literal.TheVariants as literal
use Rattle.ch_pred.specs.declared.pred.Cmp.{Cmp}
use Rattle.ch_pred.specs.declared.pred.Cmp.TheVariants as cmp
use Rattle.ch_sql_grammar.specs.Tree.{Plain, any_of, Select, bare_col}
use Rattle.ch_sql_grammar.specs.Tokens.{has_mark}
use Rattle.ch_sql_places.specs.Machine.{Member, Whole, Place, Heading, Lead, LeadCol, LeadListed, Want, Leading, First, Atom, Listed, Conjs, Tailing, whole, headed, behind, tailing, answer, start, takes_or, takes_tail, may_be_outer, is_semi, selected, step, finish}
use Rattle.ch_sql_places.proofs.Run.{Check, opens, lists, matches, Fold, Settled, noted, led, check, run, literals_on, atom_on, pred_on, conj_on, neg_on, where_on, and_on, form_on}
use Rattle.ch_sql_places.proofs.Filters.{NoMark, NoDot, NoAnd, run_name, run_negs, cmp_no_dot, conj_walked, pred_walked}
use Rattle.ch_sql_grammar.specs.Grammar as grammar
use Rattle.ch_sql_grammar.specs.Grammar.{Pred, Conj, Neg, col_tokens, literal_token, listed_tokens, cmp_mark, side_tokens, atom_tokens, pred_tokens, conj_tokens, neg_tokens, conj_trees, neg_trees, pred_tree, conj_tree, each, extreme_tokens, item_tokens, items_tokens, where_tokens, and_tokens, direction_tokens, agg_tokens, having_tokens, dim_mark, dim_tokens, ending_tokens, endings_tokens, one_tokens, distinct_tokens, join_tokens, semi_tokens, form_tokens, is_descending, ending_tree, endings_tree, form_tree, is_plain_item, ArePlain, IsForm, IsQuery}

-- a column of a head ends where no dot comes

step_taken : (taker : HeadTaker) (col : ColumnRef) (t : Terminal) → heads.step_of (heads.taken_by taker col) t ≡ heads.settled_of (heads.taken_by taker col) t
step_taken (headtaker.Item distinct items) col t = refl
step_taken (headtaker.Extreme items max) col t = refl
step_taken (headtaker.FirstOn items left right) col t = refl
step_taken (headtaker.SecondOn items left right first_on) col t = refl
step_taken (headtaker.InnerKey items outer key) col t = refl

end_taken : (taker : HeadTaker) (col : ColumnRef) → heads.end_of (heads.taken_by taker col) ≡ heads.settled_end (heads.taken_by taker col)
end_taken (headtaker.Item distinct items) col = refl
end_taken (headtaker.Extreme items max) col = refl
end_taken (headtaker.FirstOn items left right) col = refl
end_taken (headtaker.SecondOn items left right first_on) col = refl
end_taken (headtaker.InnerKey items outer key) col = refl

head_named : {R : Type 0} (fold : Fold R) (taker : HeadTaker) (n : List ℕ) (ts : List Terminal) → NoDot fold ts → run fold (Heading (head.Name taker n)) ts ≡ run fold (Heading (heads.taken_by taker (bare_col n))) ts
head_named fold taker n [] d = d.is_done (Heading (head.Name taker n)) ∙ ap (λ o. d.done (option_map (λ h. selected h None tail.Nothing) o)) (sym (end_taken taker (bare_col n))) ∙ sym (d.is_done (Heading (heads.taken_by taker (bare_col n))))
head_named fold taker n (t ∷ ts) h = ap (λ s. led fold (λ q. run fold q ts) (headed s t))
    (ap (λ b. if b then headstep.On (head.Dot taker n) else heads.settled_of (heads.taken_by taker (bare_col n)) t) h ∙ sym (step_taken taker (bare_col n) t))

head_col_named : {R : Type 0} (fold : Fold R) (taker : HeadTaker) (table : Option (List ℕ)) (n : List ℕ) (ts : List Terminal) → NoDot fold ts →
    run fold (Heading (head.Taking taker)) (col_tokens (record { table = table; name = n }) ++ ts) ≡ run fold (Heading (heads.taken_by taker (record { table = table; name = n }))) ts
head_col_named fold taker None n ts h = head_named fold taker n ts h
head_col_named fold taker (Some t) n ts h = refl

head_col : {R : Type 0} (fold : Fold R) (taker : HeadTaker) (col : ColumnRef) (ts : List Terminal) → NoDot fold ts → run fold (Heading (head.Taking taker)) (col_tokens col ++ ts) ≡ run fold (Heading (heads.taken_by taker col)) ts
head_col fold taker col ts h = head_col_named fold taker col.table col.name ts h

-- items

abbrev pub Fits : Bool → Item → Type 0
Fits true x = is_plain_item x ≡ true
Fits false x = Unit {0}

abbrev pub FitAll : Bool → List Item → Type 0
FitAll true xs = list_all is_plain_item xs ≡ true
FitAll false xs = Unit {0}

item_col_named : {R : Type 0} (fold : Fold R) (distinct : Bool) (items : List Item) (table : Option (List ℕ)) (n : List ℕ) (ts : List Terminal) → NoDot fold ts →
    run fold (Heading (head.Items distinct items)) (col_tokens (record { table = table; name = n }) ++ ts) ≡ run fold (Heading (head.Listing distinct (items ++ (item.Column (record { table = table; name = n }) ∷ [])))) ts
item_col_named fold distinct items None n ts h = head_named fold (headtaker.Item distinct items) n ts h
item_col_named fold distinct items (Some t) n ts h = refl

extreme_walked : {R : Type 0} (fold : Fold R) (items : List Item) (max : Bool) (col : ColumnRef) (ts : List Terminal) →
    run fold (Heading (head.Extreme items max)) ((terminal.Mark mark.LeftParen ∷ (col_tokens col ++ (terminal.Mark mark.RightParen ∷ []))) ++ ts) ≡ run fold (Heading (head.Listing false (items ++ (heads.extreme max col ∷ [])))) ts
extreme_walked fold items max col ts = ap (λ l. run fold (Heading (head.Taking (headtaker.Extreme items max))) l) (append_assoc (col_tokens col) (terminal.Mark mark.RightParen ∷ []) ts)
    ∙ head_col fold (headtaker.Extreme items max) col (terminal.Mark mark.RightParen ∷ ts) refl

item_walked : {R : Type 0} (fold : Fold R) (x : Item) (distinct : Bool) (items : List Item) (ts : List Terminal) → Fits distinct x → NoDot fold ts →
    run fold (Heading (head.Items distinct items)) (item_tokens x ++ ts) ≡ run fold (Heading (head.Listing distinct (items ++ (x ∷ [])))) ts
item_walked fold item.Star distinct items ts f h = refl
item_walked fold (item.Column col) distinct items ts f h = item_col_named fold distinct items col.table col.name ts h
item_walked fold (item.Max col) false items ts f h = extreme_walked fold items true col ts
item_walked fold (item.Min col) false items ts f h = extreme_walked fold items false col ts
item_walked fold (item.Max col) true items ts f h = cc
item_walked fold (item.Min col) true items ts f h = cc

pub not_true : (b : Bool) → not b ≡ true → b ≡ false
not_true true e = cc
not_true false e = refl

pub and_left : (a b : Bool) → (a && b) ≡ true → a ≡ true
and_left true b e = refl
and_left false b e = e

pub and_right : (a b : Bool) → (a && b) ≡ true → b ≡ true
and_right true b e = e
and_right false b e = cc

fits_first : (distinct : Bool) (x : Item) (xs : List Item) → FitAll distinct (x ∷ xs) → Fits distinct x
fits_first true x xs h = and_left (is_plain_item x) _ h
fits_first false x xs h = tt

fits_rest : (distinct : Bool) (x : Item) (xs : List Item) → FitAll distinct (x ∷ xs) → FitAll distinct xs
fits_rest true x xs h = and_right (is_plain_item x) _ h
fits_rest false x xs h = tt

items_walked : {R : Type 0} (fold : Fold R) (front : List Item) (last : Item) (distinct : Bool) (items : List Item) (ts : List Terminal) → FitAll distinct (front ++ (last ∷ [])) → NoDot fold ts →
    run fold (Heading (head.Items distinct items)) (items_tokens front last ++ ts) ≡ run fold (Heading (head.Listing distinct (items ++ (front ++ (last ∷ []))))) ts
items_walked fold [] last distinct items ts f h = item_walked fold last distinct items ts (fits_first distinct last [] f) h
items_walked fold (x ∷ xs) last distinct items ts f h =
    ap (λ l. run fold (Heading (head.Items distinct items)) l) (append_assoc (item_tokens x ++ (terminal.Mark mark.Comma ∷ each item_tokens xs)) (item_tokens last) ts
    ∙ append_assoc (item_tokens x) (terminal.Mark mark.Comma ∷ each item_tokens xs) (item_tokens last ++ ts)
    ∙ ap (λ l. item_tokens x ++ (terminal.Mark mark.Comma ∷ l)) (sym (append_assoc (each item_tokens xs) (item_tokens last) ts)))
    ∙ item_walked fold x distinct items (terminal.Mark mark.Comma ∷ (items_tokens xs last ++ ts)) (fits_first distinct x _ f) refl
    ∙ items_walked fold xs last distinct (items ++ (x ∷ [])) ts (fits_rest distinct x _ f) h
    ∙ ap (λ l. run fold (Heading (head.Listing distinct l)) ts) (append_assoc items (x ∷ []) (xs ++ (last ∷ [])))

-- heads

table_walked : {R : Type 0} (fold : Fold R) (front : List Item) (last : Item) (distinct : Bool) (table : List ℕ) (ts : List Terminal) → FitAll distinct (front ++ (last ∷ [])) →
    run fold (Heading (head.Items distinct [])) ((items_tokens front last ++ (terminal.Mark mark.From ∷ terminal.Name table ∷ [])) ++ ts) ≡ run fold (Heading (head.Table distinct (front ++ (last ∷ [])) table)) ts
table_walked fold front last distinct table ts f = ap (λ l. run fold (Heading (head.Items distinct [])) l) (append_assoc (items_tokens front last) (terminal.Mark mark.From ∷ terminal.Name table ∷ []) ts)
    ∙ items_walked fold front last distinct [] (terminal.Mark mark.From ∷ terminal.Name table ∷ ts) f refl

-- behind SELECT, an item comes as behind a comma
abbrev has_first : Mark → List Terminal → Bool
has_first m [] = true
has_first m (t ∷ ts) = has_mark m t

no_distinct : {R : Type 0} (fold : Fold R) (xs : List Terminal) → has_first mark.Distinct xs ≡ false → run fold (Heading head.Select) xs ≡ run fold (Heading (head.Items false [])) xs
no_distinct fold [] h = cc
no_distinct fold (t ∷ ts) h = ap (λ b. led fold (λ q. run fold q ts) (headed (if b then headstep.On (head.Items true []) else heads.items_step_of false [] t) t)) h

item_no_distinct_named : (table : Option (List ℕ)) (n : List ℕ) (ts : List Terminal) → has_first mark.Distinct (col_tokens (record { table = table; name = n }) ++ ts) ≡ false
item_no_distinct_named None n ts = refl
item_no_distinct_named (Some t) n ts = refl

item_no_distinct : (x : Item) (ts : List Terminal) → has_first mark.Distinct (item_tokens x ++ ts) ≡ false
item_no_distinct item.Star ts = refl
item_no_distinct (item.Column col) ts = item_no_distinct_named col.table col.name ts
item_no_distinct (item.Max col) ts = refl
item_no_distinct (item.Min col) ts = refl

items_no_distinct : (front : List Item) (last : Item) (ts : List Terminal) → has_first mark.Distinct (items_tokens front last ++ ts) ≡ false
items_no_distinct [] last ts = item_no_distinct last ts
items_no_distinct (x ∷ xs) last ts = ap (has_first mark.Distinct) (append_assoc (item_tokens x ++ (terminal.Mark mark.Comma ∷ each item_tokens xs)) (item_tokens last) ts ∙ append_assoc (item_tokens x) (terminal.Mark mark.Comma ∷ each item_tokens xs) (item_tokens last ++ ts))
    ∙ item_no_distinct x ((terminal.Mark mark.Comma ∷ each item_tokens xs) ++ (item_tokens last ++ ts))

pub one_walked : {R : Type 0} (fold : Fold R) (front : List Item) (last : Item) (table : List ℕ) (ts : List Terminal) → run fold start (one_tokens front last table ++ ts) ≡ run fold (Heading (head.Table false (front ++ (last ∷ [])) table)) ts
one_walked fold front last table ts =
    let source = terminal.Mark mark.From ∷ terminal.Name table ∷ [] in
    no_distinct fold ((items_tokens front last ++ source) ++ ts) (ap (has_first mark.Distinct) (append_assoc (items_tokens front last) source ts) ∙ items_no_distinct front last (source ++ ts))
    ∙ table_walked fold front last false table ts tt

pub distinct_walked : {R : Type 0} (fold : Fold R) (front : List Item) (last : Item) (table : List ℕ) (ts : List Terminal) → ArePlain front last → run fold start (distinct_tokens front last table ++ ts) ≡ run fold (Heading (head.Table true (front ++ (last ∷ [])) table)) ts
distinct_walked fold front last table ts p = table_walked fold front last true table ts p

pub join_walked : {R : Type 0} (fold : Fold R) (front : List Item) (last : Item) (left right : List ℕ) (first_on second_on : ColumnRef) (ts : List Terminal) → NoDot fold ts →
    run fold start (join_tokens front last left right first_on second_on ++ ts) ≡ run fold (Heading (head.Whole (join_head (front ++ (last ∷ [])) left right first_on second_on))) ts
join_walked fold front last left right first_on second_on ts h =
    let items = front ++ (last ∷ []) in
    let joined = terminal.Mark mark.Join ∷ terminal.Name right ∷ terminal.Mark mark.On ∷ (col_tokens first_on ++ (terminal.Mark mark.Eq ∷ col_tokens second_on)) in
    ap (λ l. run fold start l) (append_assoc (one_tokens front last left) joined ts)
    ∙ one_walked fold front last left (joined ++ ts)
    ∙ ap (λ l. run fold (Heading (head.Taking (headtaker.FirstOn items left right))) l) (append_assoc (col_tokens first_on) (terminal.Mark mark.Eq ∷ col_tokens second_on) ts)
    ∙ head_col fold (headtaker.FirstOn items left right) first_on (terminal.Mark mark.Eq ∷ (col_tokens second_on ++ ts)) refl
    ∙ head_col fold (headtaker.SecondOn items left right first_on) second_on ts h

-- behind WHERE, where a semi-join may come

outer_opens : {R : Type 0} (fold : Fold R) (items : List Item) (outer : List ℕ) (b : Bool) (ts : List Terminal) → b ≡ true →
    led fold (λ q. run fold q ts) (if b then Some (Lead (one_head false items outer)) else Some (Want (whole (one_head false items outer)))) ≡ run fold (Lead (one_head false items outer)) ts
outer_opens fold items outer true ts h = refl
outer_opens fold items outer false ts h = cc

lead_key_named : {R : Type 0} (fold : Fold R) (h : Head) (table : Option (List ℕ)) (n : List ℕ) (ts : List Terminal) → NoDot fold ts → run fold (Lead h) (col_tokens (record { table = table; name = n }) ++ ts) ≡ run fold (LeadCol h (record { table = table; name = n })) ts
lead_key_named fold h None n ts d = run_name fold (Leading h) n ts d
lead_key_named fold h (Some t) n ts d = refl

pub lead_key : {R : Type 0} (fold : Fold R) (h : Head) (col : ColumnRef) (ts : List Terminal) → NoDot fold ts → run fold (Lead h) (col_tokens col ++ ts) ≡ run fold (LeadCol h col) ts
lead_key fold h col ts d = lead_key_named fold h col.table col.name ts d

pub semi_walked : {R : Type 0} (fold : Fold R) (front : List Item) (last : Item) (outer : List ℕ) (key inner_key : ColumnRef) (inner : List ℕ) (ts : List Terminal) → ArePlain front last →
    run fold start (semi_tokens front last outer key inner_key inner ++ ts) ≡ run fold (Heading (head.Whole (semi_head (front ++ (last ∷ [])) outer inner key inner_key))) ts
semi_walked fold front last outer key inner_key inner ts p =
    let items = front ++ (last ∷ []) in
    let closed = terminal.Mark mark.From ∷ terminal.Name inner ∷ terminal.Mark mark.RightParen ∷ [] in
    let inside = terminal.Mark mark.In ∷ terminal.Mark mark.LeftParen ∷ terminal.Mark mark.Select ∷ (col_tokens inner_key ++ closed) in
    ap (λ l. run fold start l) (append_assoc (one_tokens front last outer) (terminal.Mark mark.Where ∷ (col_tokens key ++ inside)) ts)
    ∙ one_walked fold front last outer ((terminal.Mark mark.Where ∷ (col_tokens key ++ inside)) ++ ts)
    ∙ outer_opens fold items outer (list_all is_plain_item items) ((col_tokens key ++ inside) ++ ts) p
    ∙ ap (λ l. run fold (Lead (one_head false items outer)) l) (append_assoc (col_tokens key) inside ts)
    ∙ lead_key fold (one_head false items outer) key (inside ++ ts) refl
    ∙ ap (λ l. run fold (Heading (head.Taking (headtaker.InnerKey items outer key))) l) (append_assoc (col_tokens inner_key) closed ts)
    ∙ head_col fold (headtaker.InnerKey items outer key) inner_key (closed ++ ts) refl

-- a predicate behind WHERE is walked where a semi-join may come as elsewhere

pub lead_literals : {R : Type 0} (fold : Fold R) (h : Head) (col : ColumnRef) (v : Literal) (ts : List Terminal) → run fold (LeadListed h col) (literal_token v ∷ ts) ≡ run fold (Listed (whole h) col []) (literal_token v ∷ ts)
lead_literals fold h col (literal.Number n) ts = refl
lead_literals fold h col (literal.Text t) ts = refl

pub lead_listed : {R : Type 0} (fold : Fold R) (h : Head) (col : ColumnRef) (front : List Literal) (last : Literal) (ts : List Terminal) → run fold (LeadListed h col) (listed_tokens front ++ (literal_token last ∷ ts)) ≡ run fold (Listed (whole h) col []) (listed_tokens front ++ (literal_token last ∷ ts))
lead_listed fold h col [] last ts = lead_literals fold h col last ts
lead_listed fold h col (v ∷ vs) last ts = lead_literals fold h col v (terminal.Mark mark.Comma ∷ (listed_tokens vs ++ (literal_token last ∷ ts)))

lead_cmp : {R : Type 0} (fold : Fold R) (h : Head) (col : ColumnRef) (c : Cmp) (ts : List Terminal) → run fold (LeadCol h col) (terminal.Mark (cmp_mark c) ∷ ts) ≡ run fold (Atom (whole h) col) (terminal.Mark (cmp_mark c) ∷ ts)
lead_cmp fold h col cmp.Eq ts = refl
lead_cmp fold h col cmp.Ne ts = refl
lead_cmp fold h col cmp.Lt ts = refl
lead_cmp fold h col cmp.Le ts = refl
lead_cmp fold h col cmp.Gt ts = refl
lead_cmp fold h col cmp.Ge ts = refl

want_named : {R : Type 0} (fold : Fold R) (h : Head) (table : Option (List ℕ)) (n : List ℕ) (ts : List Terminal) → NoDot fold ts → run fold (Want (whole h)) (col_tokens (record { table = table; name = n }) ++ ts) ≡ run fold (Atom (whole h) (record { table = table; name = n })) ts
want_named fold h None n ts d = run_name fold (First (whole h)) n ts d
want_named fold h (Some t) n ts d = refl

want_key : {R : Type 0} (fold : Fold R) (h : Head) (col : ColumnRef) (ts : List Terminal) → NoDot fold ts → run fold (Want (whole h)) (col_tokens col ++ ts) ≡ run fold (Atom (whole h) col) ts
want_key fold h col ts d = want_named fold h col.table col.name ts d

-- the same behind the column
lead_as : {R : Type 0} (fold : Fold R) (h : Head) (col : ColumnRef) (xs ts : List Terminal) → NoDot fold (xs ++ ts) → run fold (LeadCol h col) (xs ++ ts) ≡ run fold (Atom (whole h) col) (xs ++ ts) →
    run fold (Lead h) ((col_tokens col ++ xs) ++ ts) ≡ run fold (Want (whole h)) ((col_tokens col ++ xs) ++ ts)
lead_as fold h col xs ts d e = ap (λ l. run fold (Lead h) l) (append_assoc (col_tokens col) xs ts) ∙ lead_key fold h col (xs ++ ts) d ∙ e
    ∙ sym (ap (λ l. run fold (Want (whole h)) l) (append_assoc (col_tokens col) xs ts) ∙ want_key fold h col (xs ++ ts) d)

lead_atom : {R : Type 0} (fold : Fold R) (h : Head) (a : grammar.Atom) (ts : List Terminal) → run fold (Lead h) (atom_tokens a ++ ts) ≡ run fold (Want (whole h)) (atom_tokens a ++ ts)
lead_atom fold h (grammar.compare col c s) ts = lead_as fold h col (terminal.Mark (cmp_mark c) ∷ side_tokens s) ts (cmp_no_dot c) (lead_cmp fold h col c (side_tokens s ++ ts))
lead_atom fold h (grammar.between col low high) ts = lead_as fold h col (terminal.Mark mark.Between ∷ literal_token low ∷ terminal.Mark mark.And ∷ literal_token high ∷ []) ts refl refl
lead_atom fold h (grammar.within col front last) ts =
    let closed = literal_token last ∷ terminal.Mark mark.RightParen ∷ [] in
    lead_as fold h col (terminal.Mark mark.In ∷ terminal.Mark mark.LeftParen ∷ (listed_tokens front ++ closed)) ts refl
    (ap (λ l. run fold (LeadListed h col) l) (append_assoc (listed_tokens front) closed ts) ∙ lead_listed fold h col front last (terminal.Mark mark.RightParen ∷ ts) ∙ sym (ap (λ l. run fold (Listed (whole h) col []) l) (append_assoc (listed_tokens front) closed ts)))
lead_atom fold h (grammar.like col text) ts = lead_as fold h col (terminal.Mark mark.Like ∷ terminal.Text text ∷ []) ts refl refl

lead_neg : {R : Type 0} (fold : Fold R) (h : Head) (n : Neg) (ts : List Terminal) → run fold (Lead h) (neg_tokens n ++ ts) ≡ run fold (Want (whole h)) (neg_tokens n ++ ts)
lead_neg fold h (grammar.not n) ts = refl
lead_neg fold h (grammar.parens p) ts = refl
lead_neg fold h (grammar.atom a) ts = lead_atom fold h a ts

pub lead_conj : {R : Type 0} (fold : Fold R) (h : Head) (c : Conj) (ts : List Terminal) → run fold (Lead h) (conj_tokens c ++ ts) ≡ run fold (Want (whole h)) (conj_tokens c ++ ts)
lead_conj fold h (grammar.neg n) ts = lead_neg fold h n ts
lead_conj fold h (grammar.and c n) ts = ap (λ l. run fold (Lead h) l) (append_assoc (conj_tokens c) (terminal.Mark mark.And ∷ neg_tokens n) ts) ∙ lead_conj fold h c (terminal.Mark mark.And ∷ (neg_tokens n ++ ts)) ∙ sym (ap (λ l. run fold (Want (whole h)) l) (append_assoc (conj_tokens c) (terminal.Mark mark.And ∷ neg_tokens n) ts))

pub lead_pred : {R : Type 0} (fold : Fold R) (h : Head) (p : Pred) (ts : List Terminal) → run fold (Lead h) (pred_tokens p ++ ts) ≡ run fold (Want (whole h)) (pred_tokens p ++ ts)
lead_pred fold h (grammar.conj c) ts = lead_conj fold h c ts
lead_pred fold h (grammar.or p c) ts = ap (λ l. run fold (Lead h) l) (append_assoc (pred_tokens p) (terminal.Mark mark.Or ∷ conj_tokens c) ts) ∙ lead_pred fold h p (terminal.Mark mark.Or ∷ (conj_tokens c ++ ts)) ∙ sym (ap (λ l. run fold (Want (whole h)) l) (append_assoc (pred_tokens p) (terminal.Mark mark.Or ∷ conj_tokens c) ts))

-- behind a filter or a source

-- where a tail may begin
abbrev Opened : Head → Option Plain → Place
Opened h filter = Tailing h filter (place.Start (takes_tail h))

conjs_closed : {R : Type 0} (fold : Fold R) (conjs : List Plain) (h : Head) (ts : List Terminal) → NoMark fold mark.Or ts → run fold (Conjs conjs (Whole h)) ts ≡ run fold (Opened h (Some (any_of conjs))) ts
conjs_closed fold conjs h [] d = d.is_done (Conjs conjs (Whole h)) ∙ sym (d.is_done (Opened h (Some (any_of conjs))))
conjs_closed fold conjs h (t ∷ ts) d = ap (λ b. led fold (λ q. run fold q ts) (if b && takes_or (Whole h) then Some (Want (Member conjs [] (Whole h))) else tailing h (Some (any_of conjs)) t)) d

opened_by : {R : Type 0} (fold : Fold R) (b : Bool) (h : Head) (p : Pred) (ts : List Terminal) → led fold (λ q. run fold q (pred_tokens p ++ ts)) (if b then Some (Lead h) else Some (Want (whole h))) ≡ run fold (Want (whole h)) (pred_tokens p ++ ts)
opened_by fold true h p ts = lead_pred fold h p ts
opened_by fold false h p ts = refl

pred_filters : {R : Type 0} (fold : Fold R) (h : Head) (p : Pred) (ts : List Terminal) → takes_or (Whole h) ≡ true → NoDot fold ts → NoAnd fold ts → NoMark fold mark.Or ts → led fold (λ q. run fold q (pred_tokens p ++ ts)) (if may_be_outer h then Some (Lead h) else Some (Want (whole h))) ≡ pred_on fold 0 p (run fold (Opened h (Some (pred_tree p))) ts)
pred_filters fold h p ts w d a o = opened_by fold (may_be_outer h) h p ts ∙ pred_walked fold p (Whole h) ts w d a ∙ ap (pred_on fold 0 p) (conjs_closed fold (conj_trees p) h ts o)

-- none of the tokens that go on with a column, a filter or a source comes
abbrev pub Free : {R : Type 0} → Fold R → List Terminal → Type 0
Free {R} fold [] = Settled R fold
Free fold (t ∷ ts) = (has_mark mark.Dot t ≡ false) × (has_mark mark.And t ≡ false) × (has_mark mark.Or t ≡ false) × (has_mark mark.Where t ≡ false) × (has_mark mark.Join t ≡ false)

free_dot : {R : Type 0} (fold : Fold R) (ts : List Terminal) → Free fold ts → NoDot fold ts
free_dot fold [] f = f
free_dot fold (t ∷ ts) f = f.0

free_and : {R : Type 0} (fold : Fold R) (ts : List Terminal) → Free fold ts → NoAnd fold ts
free_and fold [] f = f
free_and fold (t ∷ ts) f = f.1

free_or : {R : Type 0} (fold : Fold R) (ts : List Terminal) → Free fold ts → NoMark fold mark.Or ts
free_or fold [] f = f
free_or fold (t ∷ ts) f = f.2

behind_opened : (h : Head) (t : Terminal) → has_mark mark.Where t ≡ false → has_mark mark.And t ≡ false → behind h t ≡ tailing h None t
behind_opened h t w a =
    ap (λ b. if b && not (is_semi h.source) then (if may_be_outer h then Some (Lead h) else Some (Want (whole h))) else if has_mark mark.And t && is_semi h.source then Some (Want (whole h)) else tailing h None t) w
    ∙ ap (λ b. if b && is_semi h.source then Some (Want (whole h)) else tailing h None t) a

table_opened : {R : Type 0} (fold : Fold R) (distinct : Bool) (items : List Item) (table : List ℕ) (ts : List Terminal) → Free fold ts → run fold (Heading (head.Table distinct items table)) ts ≡ run fold (Opened (one_head distinct items table) None) ts
table_opened fold distinct items table [] f = f.is_done (Heading (head.Table distinct items table)) ∙ sym (f.is_done (Opened (one_head distinct items table) None))
table_opened fold distinct items table (t ∷ ts) f =
    ap (λ b. led fold (λ q. run fold q ts) (headed (if b && not distinct then headstep.On (head.JoinTable items table) else headstep.Done (one_head distinct items table)) t)) f.4
    ∙ ap (λ o. led fold (λ q. run fold q ts) o) (behind_opened (one_head distinct items table) t f.3 f.1)

whole_opened : {R : Type 0} (fold : Fold R) (h : Head) (ts : List Terminal) → Free fold ts → run fold (Heading (head.Whole h)) ts ≡ run fold (Opened h None) ts
whole_opened fold h [] f = f.is_done (Heading (head.Whole h)) ∙ sym (f.is_done (Opened h None))
whole_opened fold h (t ∷ ts) f = ap (λ o. led fold (λ q. run fold q ts) o) (behind_opened h t f.3 f.1)

one_filtered : {R : Type 0} (fold : Fold R) (distinct : Bool) (items : List Item) (table : List ℕ) (filter : Option Pred) (ts : List Terminal) → Free fold ts →
    run fold (Heading (head.Table distinct items table)) (where_tokens filter ++ ts) ≡ where_on fold filter (run fold (Opened (one_head distinct items table) (option_map pred_tree filter)) ts)
one_filtered fold distinct items table None ts f = table_opened fold distinct items table ts f
one_filtered fold distinct items table (Some p) ts f = pred_filters fold (one_head distinct items table) p ts refl (free_dot fold ts f) (free_and fold ts f) (free_or fold ts f)

join_filtered : {R : Type 0} (fold : Fold R) (items : List Item) (left right : List ℕ) (first_on second_on : ColumnRef) (filter : Option Pred) (ts : List Terminal) → Free fold ts →
    run fold (Heading (head.Whole (join_head items left right first_on second_on))) (where_tokens filter ++ ts) ≡ where_on fold filter (run fold (Opened (join_head items left right first_on second_on) (option_map pred_tree filter)) ts)
join_filtered fold items left right first_on second_on None ts f = whole_opened fold (join_head items left right first_on second_on) ts f
join_filtered fold items left right first_on second_on (Some p) ts f = pred_filters fold (join_head items left right first_on second_on) p ts refl (free_dot fold ts f) (free_and fold ts f) (free_or fold ts f)

semi_filtered : {R : Type 0} (fold : Fold R) (items : List Item) (outer inner : List ℕ) (key inner_key : ColumnRef) (filter : Option Conj) (ts : List Terminal) → Free fold ts →
    run fold (Heading (head.Whole (semi_head items outer inner key inner_key))) (and_tokens filter ++ ts) ≡ and_on fold filter (run fold (Opened (semi_head items outer inner key inner_key) (option_map conj_tree filter)) ts)
semi_filtered fold items outer inner key inner_key None ts f = whole_opened fold (semi_head items outer inner key inner_key) ts f
semi_filtered fold items outer inner key inner_key (Some c) ts f =
    let h = semi_head items outer inner key inner_key in
    conj_walked fold c [] (Whole h) ts (free_dot fold ts f) ∙ ap (conj_on fold 0 c) (run_negs fold [] (neg_trees c) (Whole h) ts (free_and fold ts f) ∙ conjs_closed fold (conj_tree c ∷ []) h ts (free_or fold ts f))

-- these may end a query: no more tokens, and a semicolon
abbrev pub closer : Bool → List Terminal
closer true = terminal.Mark mark.Semicolon ∷ []
closer false = []

closer_free : {R : Type 0} (fold : Fold R) (s : Settled R fold) (b : Bool) → Free fold (closer b)
closer_free fold s true = (refl, refl, refl, refl, refl)
closer_free fold s false = s

closed_opened : {R : Type 0} (fold : Fold R) (s : Settled R fold) (h : Head) (filter : Option Plain) (b : Bool) → run fold (Opened h filter) (closer b) ≡ s.done (Some (selected h filter tail.Nothing))
closed_opened fold s h filter true = s.is_done _
closed_opened fold s h filter false = s.is_done _

-- tails

tail_step_taken : (taker : TailTaker) (col : ColumnRef) (t : Terminal) → tails.step_of (tails.taken_by taker col) t ≡ tails.settled_of (tails.taken_by taker col) t
tail_step_taken tailtaker.By col t = refl
tail_step_taken (tailtaker.Key keys) col t = refl
tail_step_taken (tailtaker.Sum keys) col t = refl
tail_step_taken (tailtaker.Dim dims) col t = refl

tail_end_taken : (taker : TailTaker) (col : ColumnRef) → tails.end_of (tails.taken_by taker col) ≡ tails.settled_end (tails.taken_by taker col)
tail_end_taken tailtaker.By col = refl
tail_end_taken (tailtaker.Key keys) col = refl
tail_end_taken (tailtaker.Sum keys) col = refl
tail_end_taken (tailtaker.Dim dims) col = refl

tail_named : {R : Type 0} (fold : Fold R) (h : Head) (filter : Option Plain) (taker : TailTaker) (n : List ℕ) (ts : List Terminal) → NoDot fold ts →
    run fold (Tailing h filter (place.Name taker n)) ts ≡ run fold (Tailing h filter (tails.taken_by taker (bare_col n))) ts
tail_named fold h filter taker n [] d = d.is_done (Tailing h filter (place.Name taker n)) ∙ ap (λ o. d.done (option_map (λ t. selected h filter t) o)) (sym (tail_end_taken taker (bare_col n))) ∙ sym (d.is_done (Tailing h filter (tails.taken_by taker (bare_col n))))
tail_named fold h filter taker n (t ∷ ts) d = ap (λ s. led fold (λ q. run fold q ts) (option_map (λ p. Tailing h filter p) s))
    (ap (λ b. if b then Some (place.Dot taker n) else tails.settled_of (tails.taken_by taker (bare_col n)) t) d ∙ sym (tail_step_taken taker (bare_col n) t))

tail_col_named : {R : Type 0} (fold : Fold R) (h : Head) (filter : Option Plain) (taker : TailTaker) (table : Option (List ℕ)) (n : List ℕ) (ts : List Terminal) → NoDot fold ts →
    run fold (Tailing h filter (place.Taking taker)) (col_tokens (record { table = table; name = n }) ++ ts) ≡ run fold (Tailing h filter (tails.taken_by taker (record { table = table; name = n }))) ts
tail_col_named fold h filter taker None n ts d = tail_named fold h filter taker n ts d
tail_col_named fold h filter taker (Some t) n ts d = refl

tail_col : {R : Type 0} (fold : Fold R) (h : Head) (filter : Option Plain) (taker : TailTaker) (col : ColumnRef) (ts : List Terminal) → NoDot fold ts →
    run fold (Tailing h filter (place.Taking taker)) (col_tokens col ++ ts) ≡ run fold (Tailing h filter (tails.taken_by taker col)) ts
tail_col fold h filter taker col ts d = tail_col_named fold h filter taker col.table col.name ts d

closed_whole : {R : Type 0} (fold : Fold R) (s : Settled R fold) (h : Head) (filter : Option Plain) (t : Tail) (b : Bool) → run fold (Tailing h filter (place.Whole t)) (closer b) ≡ s.done (Some (selected h filter t))
closed_whole fold s h filter t true = s.is_done _
closed_whole fold s h filter t false = s.is_done _

directed : {R : Type 0} (fold : Fold R) (s : Settled R fold) (h : Head) (filter : Option Plain) (by : ColumnRef) (d : grammar.Direction) (n : ℤ) (b : Bool) →
    run fold (Tailing h filter (place.Direction by)) ((direction_tokens d ++ (terminal.Mark mark.Limit ∷ terminal.Number n ∷ [])) ++ closer b) ≡ s.done (Some (selected h filter (tail.Top by (is_descending d) n)))
directed fold s h filter by grammar.unsaid n b = closed_whole fold s h filter (tail.Top by false n) b
directed fold s h filter by grammar.ascending n b = closed_whole fold s h filter (tail.Top by false n) b
directed fold s h filter by grammar.descending n b = closed_whole fold s h filter (tail.Top by true n) b

direction_no_dot : {R : Type 0} (fold : Fold R) (d : grammar.Direction) (xs ts : List Terminal) → NoDot fold ((direction_tokens d ++ (terminal.Mark mark.Limit ∷ xs)) ++ ts)
direction_no_dot fold grammar.unsaid xs ts = refl
direction_no_dot fold grammar.ascending xs ts = refl
direction_no_dot fold grammar.descending xs ts = refl

keys_walked : {R : Type 0} (fold : Fold R) (front : List ColumnRef) (h : Head) (filter : Option Plain) (keys : List ColumnRef) (ts : List Terminal) →
    run fold (Tailing h filter (place.Taking (tailtaker.Key keys))) (each col_tokens front ++ ts) ≡ run fold (Tailing h filter (place.Taking (tailtaker.Key (keys ++ front)))) ts
keys_walked fold [] h filter keys ts = ap (λ k. run fold (Tailing h filter (place.Taking (tailtaker.Key k))) ts) (sym (append-nil keys))
keys_walked fold (x ∷ xs) h filter keys ts =
    ap (λ l. run fold (Tailing h filter (place.Taking (tailtaker.Key keys))) l) (append_assoc (col_tokens x) (terminal.Mark mark.Comma ∷ each col_tokens xs) ts)
    ∙ tail_col fold h filter (tailtaker.Key keys) x (terminal.Mark mark.Comma ∷ (each col_tokens xs ++ ts)) refl
    ∙ keys_walked fold xs h filter (keys ++ (x ∷ [])) ts
    ∙ ap (λ k. run fold (Tailing h filter (place.Taking (tailtaker.Key k))) ts) (append_assoc keys (x ∷ []) xs)

having_no_dot : {R : Type 0} (fold : Fold R) (s : Settled R fold) (having : Option Having) (b : Bool) → NoDot fold (having_tokens having ++ closer b)
having_no_dot fold s None true = refl
having_no_dot fold s None false = s
having_no_dot fold s (Some having) b = refl

agg_walked : {R : Type 0} (fold : Fold R) (s : Settled R fold) (h : Head) (filter : Option Plain) (keys : List ColumnRef) (a : Agg) (n : ℤ) (b : Bool) →
    run fold (Tailing h filter (place.Having keys)) ((agg_tokens a ++ (terminal.Mark mark.Gt ∷ terminal.Number n ∷ [])) ++ closer b) ≡ s.done (Some (selected h filter (tail.Group keys (Some (tails.having_of a n)))))
agg_walked fold s h filter keys agg.Count n b = closed_whole fold s h filter (tail.Group keys (Some (tails.having_of agg.Count n))) b
agg_walked fold s h filter keys (agg.Sum col) n b =
    ap (λ l. run fold (Tailing h filter (place.Taking (tailtaker.Sum keys))) l)
    (append_assoc (col_tokens col ++ (terminal.Mark mark.RightParen ∷ [])) (terminal.Mark mark.Gt ∷ terminal.Number n ∷ []) (closer b) ∙ append_assoc (col_tokens col) (terminal.Mark mark.RightParen ∷ []) (terminal.Mark mark.Gt ∷ terminal.Number n ∷ closer b))
    ∙ tail_col fold h filter (tailtaker.Sum keys) col (terminal.Mark mark.RightParen ∷ terminal.Mark mark.Gt ∷ terminal.Number n ∷ closer b) refl ∙ closed_whole fold s h filter (tail.Group keys (Some (tails.having_of (agg.Sum col) n))) b

having_walked : {R : Type 0} (fold : Fold R) (s : Settled R fold) (h : Head) (filter : Option Plain) (keys : List ColumnRef) (having : Option Having) (b : Bool) →
    run fold (Tailing h filter (place.Keys keys)) (having_tokens having ++ closer b) ≡ s.done (Some (selected h filter (tail.Group keys having)))
having_walked fold s h filter keys None true = s.is_done _
having_walked fold s h filter keys None false = s.is_done _
having_walked fold s h filter keys (Some having) b = agg_walked fold s h filter keys having.agg having.above b

dim_walked : {R : Type 0} (fold : Fold R) (h : Head) (filter : Option Plain) (dims : List SkyDim) (col : ColumnRef) (max : Bool) (ts : List Terminal) →
    run fold (Tailing h filter (place.Taking (tailtaker.Dim dims))) ((col_tokens col ++ (terminal.Mark (dim_mark max) ∷ [])) ++ ts) ≡ run fold (Tailing h filter (place.Dims (dims ++ (tails.dim_of col max ∷ [])))) ts
dim_walked fold h filter dims col true ts = ap (λ l. run fold (Tailing h filter (place.Taking (tailtaker.Dim dims))) l) (append_assoc (col_tokens col) (terminal.Mark mark.Max ∷ []) ts) ∙ tail_col fold h filter (tailtaker.Dim dims) col (terminal.Mark mark.Max ∷ ts) refl
dim_walked fold h filter dims col false ts = ap (λ l. run fold (Tailing h filter (place.Taking (tailtaker.Dim dims))) l) (append_assoc (col_tokens col) (terminal.Mark mark.Min ∷ []) ts) ∙ tail_col fold h filter (tailtaker.Dim dims) col (terminal.Mark mark.Min ∷ ts) refl

dims_walked : {R : Type 0} (fold : Fold R) (front : List SkyDim) (h : Head) (filter : Option Plain) (dims : List SkyDim) (ts : List Terminal) →
    run fold (Tailing h filter (place.Taking (tailtaker.Dim dims))) (each dim_tokens front ++ ts) ≡ run fold (Tailing h filter (place.Taking (tailtaker.Dim (dims ++ front)))) ts
dims_walked fold [] h filter dims ts = ap (λ k. run fold (Tailing h filter (place.Taking (tailtaker.Dim k))) ts) (sym (append-nil dims))
dims_walked fold (x ∷ xs) h filter dims ts =
    ap (λ l. run fold (Tailing h filter (place.Taking (tailtaker.Dim dims))) l) (append_assoc (dim_tokens x) (terminal.Mark mark.Comma ∷ each dim_tokens xs) ts)
    ∙ dim_walked fold h filter dims x.col x.max (terminal.Mark mark.Comma ∷ (each dim_tokens xs ++ ts))
    ∙ dims_walked fold xs h filter (dims ++ (x ∷ [])) ts
    ∙ ap (λ k. run fold (Tailing h filter (place.Taking (tailtaker.Dim k))) ts) (append_assoc dims (x ∷ []) xs)

dims_closed : {R : Type 0} (fold : Fold R) (s : Settled R fold) (h : Head) (filter : Option Plain) (dims : List SkyDim) (b : Bool) → run fold (Tailing h filter (place.Dims dims)) (closer b) ≡ s.done (Some (selected h filter (tail.Skyline dims)))
dims_closed fold s h filter dims true = s.is_done _
dims_closed fold s h filter dims false = s.is_done _

ending_walked : {R : Type 0} (fold : Fold R) (s : Settled R fold) (e : grammar.Ending) (h : Head) (filter : Option Plain) (b : Bool) → run fold (Tailing h filter (place.Start true)) (ending_tokens e ++ closer b) ≡ s.done (Some (selected h filter (ending_tree e)))
ending_walked fold s (grammar.top by d n) h filter b =
    let limited = direction_tokens d ++ (terminal.Mark mark.Limit ∷ terminal.Number n ∷ []) in
    ap (λ l. run fold (Tailing h filter (place.Taking tailtaker.By)) l) (append_assoc (col_tokens by) limited (closer b))
    ∙ tail_col fold h filter tailtaker.By by (limited ++ closer b) (direction_no_dot fold d (terminal.Number n ∷ []) (closer b)) ∙ directed fold s h filter by d n b
ending_walked fold s (grammar.group front last having) h filter b =
    ap (λ l. run fold (Tailing h filter (place.Taking (tailtaker.Key []))) l) (append_assoc (each col_tokens front) (col_tokens last ++ having_tokens having) (closer b) ∙ ap (λ l. each col_tokens front ++ l) (append_assoc (col_tokens last) (having_tokens having) (closer b)))
    ∙ keys_walked fold front h filter [] (col_tokens last ++ (having_tokens having ++ closer b)) ∙ tail_col fold h filter (tailtaker.Key front) last (having_tokens having ++ closer b) (having_no_dot fold s having b) ∙ having_walked fold s h filter (front ++ (last ∷ [])) having b
ending_walked fold s (grammar.skyline front last) h filter b =
    ap (λ l. run fold (Tailing h filter (place.Taking (tailtaker.Dim []))) l) (append_assoc (each dim_tokens front) (dim_tokens last) (closer b))
    ∙ dims_walked fold front h filter [] (dim_tokens last ++ closer b) ∙ dim_walked fold h filter front last.col last.max (closer b) ∙ dims_closed fold s h filter (front ++ (last ∷ [])) b

endings_walked : {R : Type 0} (fold : Fold R) (s : Settled R fold) (e : Option grammar.Ending) (items : List Item) (table : List ℕ) (filter : Option Plain) (b : Bool) →
    run fold (Opened (one_head false items table) filter) (endings_tokens e ++ closer b) ≡ s.done (Some (selected (one_head false items table) filter (endings_tree e)))
endings_walked fold s None items table filter b = closed_opened fold s (one_head false items table) filter b
endings_walked fold s (Some e) items table filter b = ending_walked fold s e (one_head false items table) filter b

ending_free : {R : Type 0} (fold : Fold R) (s : Settled R fold) (e : grammar.Ending) (b : Bool) → Free fold (ending_tokens e ++ closer b)
ending_free fold s (grammar.top by d n) b = (refl, refl, refl, refl, refl)
ending_free fold s (grammar.group front last having) b = (refl, refl, refl, refl, refl)
ending_free fold s (grammar.skyline front last) b = (refl, refl, refl, refl, refl)

endings_free : {R : Type 0} (fold : Fold R) (s : Settled R fold) (e : Option grammar.Ending) (b : Bool) → Free fold (endings_tokens e ++ closer b)
endings_free fold s None b = closer_free fold s b
endings_free fold s (Some e) b = ending_free fold s e b

-- the four forms

where_no_dot : {R : Type 0} (fold : Fold R) (filter : Option Pred) (ts : List Terminal) → Free fold ts → NoDot fold (where_tokens filter ++ ts)
where_no_dot fold None ts f = free_dot fold ts f
where_no_dot fold (Some p) ts f = refl

pub form_walked : {R : Type 0} (fold : Fold R) (s : Settled R fold) (form : grammar.Form) (b : Bool) → IsForm form → run fold start (form_tokens form ++ closer b) ≡ form_on fold form (s.done (Some (form_tree form)))
form_walked fold s (grammar.distinct front last table filter) b p =
    ap (run fold start) (append_assoc (distinct_tokens front last table) (where_tokens filter) (closer b)) ∙ distinct_walked fold front last table (where_tokens filter ++ closer b) p
    ∙ one_filtered fold true (front ++ (last ∷ [])) table filter (closer b) (closer_free fold s b) ∙ ap (where_on fold filter) (closed_opened fold s (one_head true (front ++ (last ∷ [])) table) (option_map pred_tree filter) b)
form_walked fold s (grammar.join front last left right first_on second_on filter) b p =
    ap (run fold start) (append_assoc (join_tokens front last left right first_on second_on) (where_tokens filter) (closer b))
    ∙ join_walked fold front last left right first_on second_on (where_tokens filter ++ closer b) (where_no_dot fold filter (closer b) (closer_free fold s b))
    ∙ join_filtered fold (front ++ (last ∷ [])) left right first_on second_on filter (closer b) (closer_free fold s b) ∙ ap (where_on fold filter) (closed_opened fold s (join_head (front ++ (last ∷ [])) left right first_on second_on) (option_map pred_tree filter) b)
form_walked fold s (grammar.semi front last outer key inner_key inner filter) b p =
    ap (run fold start) (append_assoc (semi_tokens front last outer key inner_key inner) (and_tokens filter) (closer b)) ∙ semi_walked fold front last outer key inner_key inner (and_tokens filter ++ closer b) p
    ∙ semi_filtered fold (front ++ (last ∷ [])) outer inner key inner_key filter (closer b) (closer_free fold s b) ∙ ap (and_on fold filter) (closed_opened fold s (semi_head (front ++ (last ∷ [])) outer inner key inner_key) (option_map conj_tree filter) b)
form_walked fold s (grammar.one front last table filter ending) b p =
    ap (run fold start) (append_assoc (one_tokens front last table) (where_tokens filter ++ endings_tokens ending) (closer b) ∙ ap (λ l. one_tokens front last table ++ l) (append_assoc (where_tokens filter) (endings_tokens ending) (closer b)))
    ∙ one_walked fold front last table (where_tokens filter ++ (endings_tokens ending ++ closer b)) ∙ one_filtered fold false (front ++ (last ∷ [])) table filter (endings_tokens ending ++ closer b) (endings_free fold s ending b)
    ∙ ap (where_on fold filter) (endings_walked fold s ending (front ++ (last ∷ [])) table (option_map pred_tree filter) b)

pub spelled_walked : {R : Type 0} (fold : Fold R) (s : Settled R fold) (tokens : List Terminal) (form : grammar.Form) → IsForm form → (tokens ≡ form_tokens form) ⊎ (tokens ≡ form_tokens form ++ (terminal.Mark mark.Semicolon ∷ [])) → run fold start tokens ≡ form_on fold form (s.done (Some (form_tree form)))
spelled_walked fold s tokens form is (inl e) = ap (run fold start) (e ∙ sym (append-nil (form_tokens form))) ∙ form_walked fold s form false is
spelled_walked fold s tokens form is (inr e) = ap (run fold start) e ∙ form_walked fold s form true is

-- the fold that answers

abbrev pub answering : Fold (Option Select)
answering = record { on = λ c r. r; stuck = None; end = finish }

noted_not : (o : Option Check) (r : Option Select) → noted answering o r ≡ r
noted_not None r = refl
noted_not (Some c) r = refl

led_on : (o : Option Place) (ts : List Terminal) → ((next : Place) → answer next ts ≡ run answering next ts) → option_and_then (λ q. answer q ts) o ≡ led answering (λ q. run answering q ts) o
led_on None ts again = refl
led_on (Some next) ts again = again next

answer_run : (ts : List Terminal) (place : Place) → answer place ts ≡ run answering place ts
answer_run [] place = refl
answer_run (t ∷ ts) place = led_on (step place t) ts (answer_run ts) ∙ sym (noted_not (check place t) (led answering (λ q. run answering q ts) (step place t)))

-- a fold that makes nothing of the checks sees none in a derivation

pub literals_not : {R : Type 0} (fold : Fold R) → ((c : Check) (r : R) → fold.on c r ≡ r) → (vs : List Literal) (n : ℕ) (r : R) → literals_on fold n vs r ≡ r
literals_not fold quiet [] n r = refl
literals_not fold quiet (v ∷ vs) n r = quiet (lists n) _ ∙ literals_not fold quiet vs (n + 1) r

atom_not : {R : Type 0} (fold : Fold R) → ((c : Check) (r : R) → fold.on c r ≡ r) → (a : grammar.Atom) (r : R) → atom_on fold a r ≡ r
atom_not fold quiet (grammar.compare col c s) r = refl
atom_not fold quiet (grammar.between col low high) r = refl
atom_not fold quiet (grammar.within col front last) r = literals_not fold quiet (front ++ (last ∷ [])) 0 r
atom_not fold quiet (grammar.like col text) r = quiet (matches text) r

mutual
  pub pred_not : {R : Type 0} (fold : Fold R) → ((c : Check) (r : R) → fold.on c r ≡ r) → (p : Pred) (d : ℕ) (r : R) → pred_on fold d p r ≡ r
  pred_not fold quiet (grammar.conj c) d r = conj_not fold quiet c d r
  pred_not fold quiet (grammar.or p c) d r = pred_not fold quiet p d (conj_on fold d c r) ∙ conj_not fold quiet c d r

  pub conj_not : {R : Type 0} (fold : Fold R) → ((c : Check) (r : R) → fold.on c r ≡ r) → (c : Conj) (d : ℕ) (r : R) → conj_on fold d c r ≡ r
  conj_not fold quiet (grammar.neg n) d r = neg_not fold quiet n d r
  conj_not fold quiet (grammar.and c n) d r = conj_not fold quiet c d (neg_on fold d n r) ∙ neg_not fold quiet n d r

  neg_not : {R : Type 0} (fold : Fold R) → ((c : Check) (r : R) → fold.on c r ≡ r) → (n : Neg) (d : ℕ) (r : R) → neg_on fold d n r ≡ r
  neg_not fold quiet (grammar.not n) d r = quiet (opens d) _ ∙ neg_not fold quiet n (d + 1) r
  neg_not fold quiet (grammar.parens p) d r = quiet (opens d) _ ∙ pred_not fold quiet p (d + 1) r
  neg_not fold quiet (grammar.atom a) d r = atom_not fold quiet a r

where_not : (filter : Option Pred) (r : Option Select) → where_on answering filter r ≡ r
where_not None r = refl
where_not (Some p) r = pred_not answering (λ c r. refl) p 0 r

and_not : (filter : Option Conj) (r : Option Select) → and_on answering filter r ≡ r
and_not None r = refl
and_not (Some c) r = conj_not answering (λ c r. refl) c 0 r

form_not : (form : grammar.Form) (r : Option Select) → form_on answering form r ≡ r
form_not (grammar.distinct front last table filter) r = where_not filter r
form_not (grammar.join front last left right first_on second_on filter) r = where_not filter r
form_not (grammar.semi front last outer key inner_key inner filter) r = and_not filter r
form_not (grammar.one front last table filter ending) r = where_not filter r

pub complete : (tokens : List Terminal) (tree : Select) → IsQuery tokens tree → answer start tokens ≡ Some tree
complete tokens tree q =
    answer_run tokens start
    ∙ spelled_walked answering (record { done = λ o. o; is_done = λ place. refl }) tokens q.form q.is_form q.spelled
    ∙ form_not q.form (Some (form_tree q.form)) ∙ ap Some (sym q.stands_for)
