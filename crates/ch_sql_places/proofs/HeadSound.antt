-- The places of a head: what a token leads to stands for the tokens.
use Rattle.std.proofs.Common.{◌≡◌, ℕ, Bool, true, false, ◌&&◌, List, [], ◌∷◌, ◌++◌, Option, Some, None, refl, sym, ap, ap₂, ◌∙◌, subst, IfSome}
use Rattle.ch_sql_grammar.specs.declared.terminal.Mark.{Mark}
use Rattle.ch_sql_grammar.specs.declared.terminal.Mark.TheVariants as mark
use Rattle.ch_sql_grammar.specs.declared.terminal.Terminal.{Terminal}
use Rattle.ch_sql_grammar.specs.declared.terminal.Terminal.TheVariants as terminal
use Rattle.ch_sql_grammar.specs.declared.query.ColumnRef.{ColumnRef}
use Rattle.ch_sql_grammar.specs.Tree.{bare_col, col_of}
use Rattle.ch_sql_grammar.specs.Tokens.{has_mark, name_in}
use Rattle.ch_sql_grammar.specs.declared.query.Item.{Item}
use Rattle.ch_sql_grammar.specs.declared.query.Item.TheVariants as item
use Rattle.ch_sql_grammar.specs.declared.query.Source.TheVariants as source
use Rattle.ch_sql_grammar.specs.declared.head.HeadPlace.{HeadPlace}
use Rattle.ch_sql_grammar.specs.declared.head.HeadPlace.TheVariants as head
use Rattle.ch_sql_grammar.specs.declared.head.HeadTaker.{HeadTaker}
use Rattle.ch_sql_grammar.specs.declared.head.HeadTaker.TheVariants as headtaker
use Rattle.ch_sql_grammar.specs.declared.head.HeadStep.{HeadStep}
use Rattle.ch_sql_grammar.specs.declared.head.HeadStep.TheVariants as headstep
use Rattle.ch_sql_grammar.specs.HeadSteps as heads
use Rattle.ch_sql_grammar.specs.HeadSteps.{one_head, join_head, semi_head}
use Rattle.ch_sql_places.proofs.Walked.{Fits, FitAll, and_left, and_right}
use Rattle.ch_sql_grammar.specs.Grammar.{col_tokens, each, item_tokens, dim_mark, one_tokens, is_plain_item}
use Rattle.ch_sql_places.proofs.Leads.{one, HeadedBy, IsHead, select_tokens, ItemsLead, TableLeads, extreme_open, joined_on, InnerLeads, HeadBefore, HeadLeads, mark_is, name_is, each_way, more, assoc4, assoc5, assoc7, assoc_source}
use Rattle.std.specs.List.{list_all}
use Rattle.std.specs.Prelude.{not as negated}
use Rattle.std.proofs.lemmas.List.Folds.{list_all-append}
use Rattle.ch_sql_places.proofs.Walked.{not_true}
use Rattle.ch_sql_places.proofs.TailSound.{list_comma}

-- heads

pub fit_more : (d : Bool) (items : List Item) (x : Item) → FitAll d items → Fits d x → FitAll d (items ++ (x ∷ []))
fit_more true items x h f = list_all-append is_plain_item items (x ∷ []) ∙ ap₂ (λ a b. a && (b && true)) h f
fit_more false items x h f = tt

-- where a step of a head goes
abbrev pub StepLeads : List Terminal → Terminal → HeadStep → Type 0
StepLeads x t (headstep.On next) = HeadLeads next (more x t)
StepLeads x t (headstep.Done h) = IsHead h x
StepLeads x t headstep.Stuck = Unit {0}

pub head_must : (x : List Terminal) (t : Terminal) (m : Mark) (next : HeadPlace) → (t ≡ terminal.Mark m → HeadLeads next (more x t)) → StepLeads x t (heads.on_mark m t next)
head_must x t m next f = each_way (StepLeads x t) (has_mark m t) (headstep.On next) headstep.Stuck (λ h. f (mark_is m t h)) tt

pub join_fits : (items : List Item) (left right : List ℕ) (first_on second_on : ColumnRef) (y x : List Terminal) → TableLeads false items left y → x ≡ ((joined_on y right ++ col_tokens first_on) ++ one mark.Eq) ++ col_tokens second_on →
    IsHead (join_head items left right first_on second_on) x
join_fits items left right first_on second_on y x (z, (front, last, ie, fit, ze), ye) e = record {
  front = front;
  last = last;
  items = ie;
  spelled = (
    refl,
    e ∙ ap (λ k. ((joined_on k right ++ col_tokens first_on) ++ one mark.Eq) ++ col_tokens second_on) (ye ∙ ap (λ k. (k ++ one mark.From) ++ (terminal.Name left ∷ [])) ze ∙ assoc_source (select_tokens false) (each item_tokens front) (item_tokens last) (terminal.Mark mark.From) (terminal.Name left))
        ∙ assoc7 (one_tokens front last left) (one mark.Join) (terminal.Name right ∷ []) (one mark.On) (col_tokens first_on) (one mark.Eq) (col_tokens second_on),
  );
}

pub fits_column : (d : Bool) (col : ColumnRef) → Fits d (item.Column col)
fits_column true col = refl
fits_column false col = tt

pub fits_star : (d : Bool) → Fits d item.Star
fits_star true = refl
fits_star false = tt

pub head_taken : (taker : HeadTaker) (col : ColumnRef) (y x : List Terminal) → HeadBefore taker y → x ≡ y ++ col_tokens col → HeadLeads (heads.taken_by taker col) x
head_taken (headtaker.Item d items) col y x (fit, k) e = (items, item.Column col, refl, fit_more d items (item.Column col) fit (fits_column d col), e ∙ ap (λ z. z ++ col_tokens col) k)
head_taken (headtaker.Extreme items max) col y x k e = e ∙ ap (λ z. z ++ col_tokens col) k
head_taken (headtaker.FirstOn items left right) col y x (z, l, k) e = (z, l, e ∙ ap (λ z. z ++ col_tokens col) k)
head_taken (headtaker.SecondOn items left right first_on) col y x (z, l, k) e = join_fits items left right first_on col z x l (e ∙ ap (λ z. z ++ col_tokens col) k)
head_taken (headtaker.InnerKey items outer key) col y x l e = (y, l, e)

pub head_named : (at : HeadPlace) (x : List Terminal) (t : Terminal) (n : List ℕ) → t ≡ terminal.Name n → HeadLeads at x → StepLeads x t (heads.named_step at n)
head_named (head.Taking taker) x t n h l = (x, l, ap (more x) h)
head_named (head.Dot taker table) x t n h (y, l, e) = head_taken taker (col_of table n) y (more x t) l (ap₂ more e h ∙ assoc4 y (terminal.Name table ∷ []) (one mark.Dot) (terminal.Name n ∷ []))
head_named (head.From d items) x t n h (y, l, e) = (y, l, ap₂ more e h)
head_named (head.JoinTable items left) x t n h (y, l, e) = (y, l, ap₂ more e h)
head_named (head.InnerTable items outer key inner_key) x t n h (y, l, e) = (y, l, ap₂ more e h)
head_named at x t n h l = tt

pub head_name : (at : HeadPlace) (x : List Terminal) (t : Terminal) (o : Option (List ℕ)) → name_in t ≡ o → HeadLeads at x → StepLeads x t (heads.name_given at o)
head_name at x t None h l = tt
head_name at x t (Some n) h l = head_named at x t n (name_is t n h) l

pub item_named : (d : Bool) (items : List Item) (x : List Terminal) (t : Terminal) (o : Option (List ℕ)) → name_in t ≡ o → ItemsLead d items x → StepLeads x t (heads.on_name o (λ n. head.Name (headtaker.Item d items) n))
item_named d items x t None h l = tt
item_named d items x t (Some n) h l = (x, l, ap (more x) (name_is t n h))

-- MAX and MIN stand where the items need not be plain
pub extreme_leads : (d : Bool) (items : List Item) (x : List Terminal) (t : Terminal) (max : Bool) → (has_mark (dim_mark max) t && negated d) ≡ true → ItemsLead d items x → HeadLeads (head.Extreme items max) (more x t)
extreme_leads d items x t max h (fit, e) =
    let f : d ≡ false = not_true d (and_right (has_mark (dim_mark max) t) (negated d) h) in
    ap₂ more (e ∙ ap (λ z. select_tokens z ++ each item_tokens items) f) (mark_is (dim_mark max) t (and_left (has_mark (dim_mark max) t) (negated d) h))

pub items_step : (d : Bool) (items : List Item) (x : List Terminal) (t : Terminal) → ItemsLead d items x → StepLeads x t (heads.items_step_of d items t)
items_step d items x t (fit, e) =
    each_way (StepLeads x t) (has_mark mark.Star t) (headstep.On (head.Listing d (items ++ (item.Star ∷ [])))) _ (λ h. (items, item.Star, refl, fit_more d items item.Star fit (fits_star d), ap₂ more e (mark_is mark.Star t h)))
    (each_way (StepLeads x t) (has_mark mark.Max t && negated d) (headstep.On (head.Extreme items true)) _ (λ h. extreme_leads d items x t true h (fit, e))
    (each_way (StepLeads x t) (has_mark mark.Min t && negated d) (headstep.On (head.Extreme items false)) _ (λ h. extreme_leads d items x t false h (fit, e))
    (item_named d items x t (name_in t) refl (fit, e))))

pub closing_leads : (items : List Item) (max : Bool) (col : ColumnRef) (x : List Terminal) (t : Terminal) → x ≡ extreme_open items max ++ col_tokens col → t ≡ terminal.Mark mark.RightParen →
    HeadLeads (head.Listing false (items ++ (heads.extreme max col ∷ []))) (more x t)
closing_leads items true col x t e h = (items, item.Max col, refl, tt, ap₂ more e h ∙ assoc5 (select_tokens false ++ each item_tokens items) (one mark.Max) (one mark.LeftParen) (col_tokens col) (one mark.RightParen))
closing_leads items false col x t e h = (items, item.Min col, refl, tt, ap₂ more e h ∙ assoc5 (select_tokens false ++ each item_tokens items) (one mark.Min) (one mark.LeftParen) (col_tokens col) (one mark.RightParen))

pub table_head : (d : Bool) (items : List Item) (table : List ℕ) (front : List Item) (last : Item) (x : List Terminal) → items ≡ front ++ (last ∷ []) → FitAll d items →
    x ≡ (((select_tokens d ++ each item_tokens front) ++ item_tokens last) ++ one mark.From) ++ (terminal.Name table ∷ []) → HeadedBy (source.One table) d front last x
table_head true items table front last x ie fit e = (ap (λ z. list_all is_plain_item z) (sym ie) ∙ fit, e ∙ assoc_source (select_tokens true) (each item_tokens front) (item_tokens last) (terminal.Mark mark.From) (terminal.Name table))
table_head false items table front last x ie fit e = e ∙ assoc_source (select_tokens false) (each item_tokens front) (item_tokens last) (terminal.Mark mark.From) (terminal.Name table)

pub table_done : (d : Bool) (items : List Item) (table : List ℕ) (x : List Terminal) → TableLeads d items table x → IsHead (one_head d items table) x
table_done d items table x (y, (front, last, ie, fit, ye), e) = record { front = front; last = last; items = ie; spelled = table_head d items table front last x ie fit (e ∙ ap (λ z. (z ++ one mark.From) ++ (terminal.Name table ∷ [])) ye) }

pub table_joins : (d : Bool) (items : List Item) (table : List ℕ) (x : List Terminal) → d ≡ false → TableLeads d items table x → TableLeads false items table x
table_joins d items table x f l = subst (λ z. TableLeads z items table x) f l

pub semi_fits : (items : List Item) (outer : List ℕ) (key inner_key : ColumnRef) (inner : List ℕ) (y x : List Terminal) → InnerLeads items outer key y → x ≡ (((y ++ col_tokens inner_key) ++ one mark.From) ++ (terminal.Name inner ∷ [])) ++ one mark.RightParen →
    IsHead (semi_head items outer inner key inner_key) x
semi_fits items outer key inner_key inner y x (front, last, ie, plain, ye) e = record {
  front = front;
  last = last;
  items = ie;
  spelled = (
    refl,
    plain,
    e ∙ ap (λ k. (((k ++ col_tokens inner_key) ++ one mark.From) ++ (terminal.Name inner ∷ [])) ++ one mark.RightParen) ye
        ∙ assoc5 (((((one_tokens front last outer ++ one mark.Where) ++ col_tokens key) ++ one mark.In) ++ one mark.LeftParen) ++ one mark.Select) (col_tokens inner_key) (one mark.From) (terminal.Name inner ∷ []) (one mark.RightParen)
        ∙ assoc7 (one_tokens front last outer) (one mark.Where) (col_tokens key) (one mark.In) (one mark.LeftParen) (one mark.Select) (col_tokens inner_key ++ (terminal.Mark mark.From ∷ terminal.Name inner ∷ one mark.RightParen)),
  );
}

pub head_marked : (at : HeadPlace) (x : List Terminal) (t : Terminal) → HeadLeads at x → StepLeads x t (heads.mark_step_of at t)
head_marked head.Start x t e = head_must x t mark.Select head.Select (λ h. ap₂ more e h)
head_marked (head.Extreme items max) x t e = head_must x t mark.LeftParen (head.Taking (headtaker.Extreme items max)) (λ h. ap₂ more e h)
head_marked (head.On items left right) x t (y, l, e) = head_must x t mark.On (head.Taking (headtaker.FirstOn items left right)) (λ h. (y, l, ap₂ more e h))
head_marked (head.Equals items left right first_on) x t (y, l, e) = head_must x t mark.Eq (head.Taking (headtaker.SecondOn items left right first_on)) (λ h. (y, l, ap₂ more e h))
head_marked (head.InnerFrom items outer key inner_key) x t (y, l, e) = head_must x t mark.From (head.InnerTable items outer key inner_key) (λ h. (y, l, ap₂ more e h))
head_marked (head.InnerClose items outer key inner_key inner) x t (y, l, e) = head_must x t mark.RightParen (head.Whole (semi_head items outer inner key inner_key)) (λ h. semi_fits items outer key inner_key inner y (more x t) l (ap₂ more e h))
head_marked at x t l = tt

pub head_onward : (at : HeadPlace) (x : List Terminal) (t : Terminal) → HeadLeads at x → StepLeads x t (heads.settled_of at t)
head_onward head.Select x t e = each_way (StepLeads x t) (has_mark mark.Distinct t) (headstep.On (head.Items true [])) _ (λ h. (refl, ap₂ more e (mark_is mark.Distinct t h))) (items_step false [] x t (tt, e))
head_onward (head.Items d items) x t l = items_step d items x t l
head_onward (head.Closing items max col) x t e = head_must x t mark.RightParen (head.Listing false (items ++ (heads.extreme max col ∷ []))) (λ h. closing_leads items max col x t e h)
head_onward (head.Listing d items) x t (front, last, ie, fit, e) =
    each_way (StepLeads x t) (has_mark mark.Comma t) (headstep.On (head.Items d items)) _ (λ h. (fit, ap₂ more e (mark_is mark.Comma t h) ∙ list_comma (select_tokens d) item_tokens front last ∙ ap (λ z. select_tokens d ++ each item_tokens z) (sym ie)))
    (head_must x t mark.From (head.From d items) (λ h. (x, (front, last, ie, fit, e), ap (more x) h)))
head_onward (head.Table d items table) x t l =
    each_way (StepLeads x t) (has_mark mark.Join t && negated d) (headstep.On (head.JoinTable items table)) _
    (λ h. (x, table_joins d items table x (not_true d (and_right (has_mark mark.Join t) (negated d) h)) l, ap (more x) (mark_is mark.Join t (and_left (has_mark mark.Join t) (negated d) h))))
    (table_done d items table x l)
head_onward (head.Whole h) x t l = l
head_onward (head.Name taker n) x t l = tt
head_onward (head.Taking taker) x t l = head_name (head.Taking taker) x t (name_in t) refl l
head_onward (head.Dot taker table) x t l = head_name (head.Dot taker table) x t (name_in t) refl l
head_onward (head.From d items) x t l = head_name (head.From d items) x t (name_in t) refl l
head_onward (head.JoinTable items left) x t l = head_name (head.JoinTable items left) x t (name_in t) refl l
head_onward (head.InnerTable items outer key inner_key) x t l = head_name (head.InnerTable items outer key inner_key) x t (name_in t) refl l
head_onward at x t l = head_marked at x t l

pub head_steps : (at : HeadPlace) (x : List Terminal) (t : Terminal) → HeadLeads at x → StepLeads x t (heads.step_of at t)
head_steps (head.Name taker n) x t (y, l, e) = each_way (StepLeads x t) (has_mark mark.Dot t) (headstep.On (head.Dot taker n)) _ (λ h. (y, l, ap₂ more e (mark_is mark.Dot t h)))
    (head_onward (heads.taken_by taker (bare_col n)) x t (head_taken taker (bare_col n) y x l e))
head_steps at x t l = head_onward at x t l

pub head_settled_ends : (at : HeadPlace) (x : List Terminal) → HeadLeads at x → IfSome (heads.settled_end at) (λ h. IsHead h x)
head_settled_ends (head.Table d items table) x l = table_done d items table x l
head_settled_ends (head.Whole h) x l = l
head_settled_ends at x l = tt

pub head_ends : (at : HeadPlace) (x : List Terminal) → HeadLeads at x → IfSome (heads.end_of at) (λ h. IsHead h x)
head_ends (head.Name taker n) x (y, l, e) = head_settled_ends (heads.taken_by taker (bare_col n)) x (head_taken taker (bare_col n) y x l e)
head_ends at x l = head_settled_ends at x l
