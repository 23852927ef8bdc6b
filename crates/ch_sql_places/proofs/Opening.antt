-- What leads to a place where a limit refuses a token, in words of the grammar.
use Rattle.std.proofs.Common.{◌≡◌, ℕ, ◌+◌, ◌≤◌, ◌<◌, ◌⊎◌, inl, inr, Bool, true, false, not, ◌&&◌, ◌||◌, nat_lt, if◌then◌else◌, List, [], ◌∷◌, ◌++◌, length, Option, Some, None, option_map, option_and_then, IfSome, refl, sym, ap, ◌∙◌, subst, append_assoc, append-nil, arith}
use Rattle.std.proofs.lemmas.Bool.{cases_Bool}
use Rattle.std.proofs.lemmas.Bool.Decides.{nat_tests}
use Rattle.ch_sql_grammar.specs.declared.terminal.Mark.{Mark}
use Rattle.ch_sql_grammar.specs.declared.terminal.Mark.TheVariants as mark
use Rattle.ch_sql_grammar.specs.declared.terminal.Terminal.{Terminal}
use Rattle.ch_sql_grammar.specs.declared.terminal.Terminal.TheVariants as terminal
use Rattle.ch_sql_grammar.specs.declared.query.ColumnRef.{ColumnRef}
use Rattle.ch_sql_grammar.specs.declared.query.Item.{Item}
use Rattle.ch_sql_grammar.specs.declared.query.Source.{Source}
use Rattle.ch_sql_grammar.specs.declared.query.Source.TheVariants as source
use Rattle.ch_sql_grammar.specs.declared.head.Head.{Head}
use Rattle.ch_pred.specs.declared.pred.Literal.{Literal}
use Rattle.ch_sql_grammar.specs.declared.error.ParseError.{ParseError}
use Rattle.ch_sql_grammar.specs.declared.error.ParseError.TheVariants as error
use Rattle.ch_sql_grammar.specs.Tokens.{has_mark, literal_in, text_in}
use Rattle.ch_sql_grammar.specs.Grammar as grammar
use Rattle.ch_sql_grammar.specs.Grammar.{Pred, Conj, Form, IsForm, col_tokens, literal_token, listed_tokens}
use Rattle.ch_sql_places.specs.Machine.{Around, Member, Negated, Level, Whole, Group, Place, Want, Next, Listed, LikeText, is_semi, is_pattern, takes_or, depth_of, level_depth, step, limit, start, walk}
use Rattle.ch_sql_places.specs.Refusal.{Open, behind, negated, OpenPred, filter_of, grouped, before_filter, ors_tokens, ands_tokens, open_tokens, open_pred_tokens, open_depth, open_pred_depth, may_or, OrsFit, IsOpen, IsOpenPred, IsDeep, IsLong, IsUnmatched}
use Rattle.ch_sql_places.proofs.Leads.{IsAround, IsLevel, IsHead, HeadedBy, opening, Leads, After, one, mark_is, literal_is, text_is, more}
use Rattle.ch_sql_places.proofs.Sound.{step_leads}
use Rattle.ch_sql_places.proofs.Walked.{and_left, and_right, not_true}

-- what stands around a neg is open

record FormFor (s : Source) (toks : List Terminal) : Type 0 where
  form : Form
  is_form : IsForm form
  tokens : toks ≡ before_filter form
  ors : may_or (filter_of form) ≡ not (is_semi s)

form_for : (s : Source) (distinct : Bool) (front : List Item) (last : Item) (f toks : List Terminal) → HeadedBy s distinct front last f → toks ≡ f ++ (terminal.Mark (opening (is_semi s)) ∷ []) → FormFor s toks
form_for (source.One table) true front last f toks (p, e) te = record { form = grammar.distinct front last table None; is_form = p; tokens = te ∙ ap (λ x. x ++ (terminal.Mark mark.Where ∷ [])) e; ors = refl }
form_for (source.One table) false front last f toks e te = record { form = grammar.one front last table None None; is_form = tt; tokens = te ∙ ap (λ x. x ++ (terminal.Mark mark.Where ∷ [])) e; ors = refl }
form_for (source.Join left right first_on second_on) distinct front last f toks (d, e) te =
    record { form = grammar.join front last left right first_on second_on None; is_form = tt; tokens = te ∙ ap (λ x. x ++ (terminal.Mark mark.Where ∷ [])) e; ors = refl }
form_for (source.Semi outer inner key inner_key) distinct front last f toks (d, p, e) te =
    record { form = grammar.semi front last outer key inner_key inner None; is_form = p; tokens = te ∙ ap (λ x. x ++ (terminal.Mark mark.And ∷ [])) e; ors = refl }

record OpenFor (around : Around) (toks : List Terminal) : Type 0 where
  here : Open
  is_open : IsOpen here
  tokens : toks ≡ open_tokens here
  depth : open_depth here ≡ depth_of around

record OpenPredFor (level : Level) (toks : List Terminal) : Type 0 where
  here : OpenPred
  is_open : IsOpenPred here
  tokens : toks ≡ open_pred_tokens here
  depth : open_pred_depth here ≡ level_depth level
  ors : may_or here ≡ takes_or level

mutual
  around_open : (around : Around) (toks : List Terminal) → IsAround around toks → OpenFor around toks
  around_open (Member conjs negs level) toks (f, os, ns, is, ce, ne, te, fit) = let h = level_open level f is in record {
    here = behind h.here os ns;
    is_open = (h.is_open, (let P : Bool → Type 0 = λ b. OrsFit os b in subst P (sym h.ors) fit));
    tokens = te ∙ ap (λ x. (x ++ ors_tokens os) ++ ands_tokens ns) h.tokens;
    depth = h.depth;
  }
  around_open (Negated around) toks (f, is, te) = let h = around_open around f is in record {
    here = negated h.here;
    is_open = h.is_open;
    tokens = te ∙ ap (λ x. x ++ (terminal.Mark mark.Not ∷ [])) h.tokens;
    depth = ap (λ n. n + 1) h.depth;
  }

  level_open : (level : Level) (toks : List Terminal) → IsLevel level toks → OpenPredFor level toks
  level_open (Whole head) toks (f, is, te) = let h = form_for head.source head.distinct is.front is.last f toks is.spelled te in record {
    here = filter_of h.form;
    is_open = h.is_form;
    tokens = h.tokens;
    depth = refl;
    ors = h.ors;
  }
  level_open (Group around) toks (f, is, te) = let h = around_open around f is in record {
    here = grouped h.here;
    is_open = h.is_open;
    tokens = te ∙ ap (λ x. x ++ (terminal.Mark mark.LeftParen ∷ [])) h.tokens;
    depth = ap (λ n. n + 1) h.depth;
    ors = refl;
  }

-- a token that a limit refuses breaks it

abbrev pub Broken : ParseError → ℕ → List Terminal → Terminal → Type 0
Broken (error.TooDeep n) at front token = (n ≡ at) × IsDeep front token
Broken (error.InTooLong n) at front token = (n ≡ at) × IsLong front token
Broken (error.BadLike n) at front token = (n ≡ at) × IsUnmatched front token
Broken (error.Syntax n) at front token = ⊥
Broken error.Memory at front token = ⊥

either_mark : (x y : Bool) (t : Terminal) → has_mark mark.Not t ≡ x → has_mark mark.LeftParen t ≡ y → (x || y) ≡ true → (t ≡ terminal.Mark mark.Not) ⊎ (t ≡ terminal.Mark mark.LeftParen)
either_mark true y t h k e = inl (mark_is mark.Not t h)
either_mark false true t h k e = inr (mark_is mark.LeftParen t k)
either_mark false false t h k e = cc

deep_broken : (x : Bool) (around : Around) (front : List Terminal) (t : Terminal) (e : ParseError) (at : ℕ) → IsAround around front →
    ((has_mark mark.Not t || has_mark mark.LeftParen t) && not (nat_lt (depth_of around) 32)) ≡ x → (if x then Some (error.TooDeep at) else None) ≡ Some e → Broken e at front t
deep_broken false around front t e at is h l = cc
deep_broken true around front t e at is h l =
    let o = around_open around front is in
    let b = has_mark mark.Not t || has_mark mark.LeftParen t in
    let d : 32 ≤ depth_of around = (let n : nat_lt (depth_of around) 32 ≡ false = not_true (nat_lt (depth_of around) 32) (and_right b (not (nat_lt (depth_of around) 32)) h) in grind (arith, nat_tests)) in
    let same : error.TooDeep at ≡ e = cc in
    (let P : ParseError → Type 0 = λ x. Broken x at front t in subst P same (
      refl,
      record {
        around = o.here;
        is_open = o.is_open;
        spelled = o.tokens;
        deep = (let k = o.depth in omega arith);
        opens = either_mark _ _ t refl refl (and_left b (not (nat_lt (depth_of around) 32)) h);
      },
    ))

list_spelled : (f xs toks : List Terminal) (around : Open) (col : ColumnRef) (ls : List Literal) → f ≡ open_tokens around → toks ≡ f ++ (((col_tokens col ++ one mark.In) ++ one mark.LeftParen) ++ listed_tokens ls) →
    toks ≡ open_tokens around ++ (col_tokens col ++ (terminal.Mark mark.In ∷ terminal.Mark mark.LeftParen ∷ listed_tokens ls))
list_spelled f xs toks around col ls e te = te ∙ ap (λ x. f ++ x) (append_assoc (col_tokens col ++ one mark.In) (one mark.LeftParen) (listed_tokens ls) ∙ append_assoc (col_tokens col) (one mark.In) (one mark.LeftParen ++ listed_tokens ls))
    ∙ ap (λ x. x ++ (col_tokens col ++ (terminal.Mark mark.In ∷ terminal.Mark mark.LeftParen ∷ listed_tokens ls))) e

long_broken : (x : Bool) (o : Option Literal) (around : Around) (col : ColumnRef) (ls : List Literal) (front : List Terminal) (t : Terminal) (next : Place) (e : ParseError) (at : ℕ) → Leads (Listed around col ls) front →
    literal_in t ≡ o → option_map (λ v. Next around col (ls ++ (v ∷ []))) o ≡ Some next → nat_lt (length ls) 16 ≡ x → (if x then None else Some (error.InTooLong at)) ≡ Some e → Broken e at front t
long_broken true o around col ls front t next e at is lit on h l = cc
long_broken false None around col ls front t next e at is lit on h l = cc
long_broken false (Some v) around col ls front t next e at (f, is, te) lit on h l =
    let o = around_open around f is in
    let same : error.InTooLong at ≡ e = cc in
    (let P : ParseError → Type 0 = λ x. Broken x at front t in subst P same (
      refl,
      record {
        around = o.here;
        is_open = o.is_open;
        col = col;
        literals = ls;
        spelled = list_spelled f [] front o.here col ls o.tokens te;
        many = grind (arith, nat_tests);
        value = v;
        lists = literal_is t v lit;
      },
    ))

text_broken : (x : Bool) (around : Around) (col : ColumnRef) (text : List ℕ) (front : List Terminal) (t : Terminal) (e : ParseError) (at : ℕ) → Leads (LikeText around col) front →
    text_in t ≡ Some text → is_pattern text ≡ x → (if x then None else Some (error.BadLike at)) ≡ Some e → Broken e at front t
text_broken true around col text front t e at is lit h l = cc
text_broken false around col text front t e at (f, is, te) lit h l =
    let o = around_open around f is in
    let same : error.BadLike at ≡ e = cc in
    (let P : ParseError → Type 0 = λ x. Broken x at front t in subst P same (
      refl,
      record {
        around = o.here;
        is_open = o.is_open;
        col = col;
        text = text;
        spelled = te ∙ ap (λ x. x ++ (col_tokens col ++ one mark.Like)) o.tokens;
        matches = text_is t text lit;
        bad = h;
      },
    ))

like_broken : (o : Option (List ℕ)) (around : Around) (col : ColumnRef) (front : List Terminal) (t : Terminal) (e : ParseError) (at : ℕ) → Leads (LikeText around col) front →
    text_in t ≡ o → option_and_then (λ s. if is_pattern s then None else Some (error.BadLike at)) o ≡ Some e → Broken e at front t
like_broken None around col front t e at is lit l = cc
like_broken (Some s) around col front t e at is lit l = text_broken (is_pattern s) around col s front t e at is lit refl l

pub limit_broken : (place next : Place) (front : List Terminal) (t : Terminal) (e : ParseError) (at : ℕ) → Leads place front → step place t ≡ Some next → limit place at t ≡ Some e → Broken e at front t
limit_broken (Want around) next front t e at is on l = deep_broken _ around front t e at is refl l
limit_broken (Listed around col ls) next front t e at is on l = long_broken _ (literal_in t) around col ls front t next e at is refl on refl l
limit_broken (LikeText around col) next front t e at is on l = like_broken (text_in t) around col front t e at is refl l
limit_broken place next front t e at is on l = cc

-- walked tokens lead where they come to

lead_on : (o : Option Place) (toks : List Terminal) (t : Terminal) (ts : List Terminal) (last : Place) → IfSome o (λ next. Leads next (more toks t)) → ((next : Place) → Leads next (more toks t) → walk next ts ≡ Some last → Leads last (more toks t ++ ts)) →
    option_and_then (λ p. walk p ts) o ≡ Some last → Leads last (toks ++ (t ∷ ts))
lead_on None toks t ts last is again w = cc
lead_on (Some next) toks t ts last is again w = (let P : List Terminal → Type 0 = λ x. Leads last x in subst P (append_assoc toks (t ∷ []) ts) (again next is w))

walked_leads : (ts toks : List Terminal) (place last : Place) → Leads place toks → walk place ts ≡ Some last → Leads last (toks ++ ts)
walked_leads [] toks place last is w = (let P : Place → Type 0 = λ p. Leads p (toks ++ []) in subst P (let k : place ≡ last = cc in k) (let Q : List Terminal → Type 0 = λ x. Leads place x in subst Q (sym (append-nil toks)) is))
walked_leads (t ∷ ts) toks place last is w = lead_on (step place t) toks t ts last (step_leads place toks t is) (λ next k v. walked_leads ts (more toks t) next last k v) w

pub leads_there : (front : List Terminal) (last : Place) → walk start front ≡ Some last → Leads last front
leads_there front last w = walked_leads front [] start last refl w
