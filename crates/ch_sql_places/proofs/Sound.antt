-- What the places give, the grammar derives.
use Rattle.std.proofs.Common.{◌≡◌, ℕ, Bool, true, false, ◌&&◌, if◌then◌else◌, List, [], ◌∷◌, ◌++◌, Option, Some, None, option_map, option_and_then, refl, sym, ap, ap₂, ◌∙◌, append_assoc, append-nil, inl, inr, subst, IfSome}
use Rattle.ch_sql_grammar.specs.declared.terminal.Mark.TheVariants as mark
use Rattle.ch_sql_grammar.specs.declared.terminal.Terminal.{Terminal}
use Rattle.ch_sql_grammar.specs.declared.terminal.Terminal.TheVariants as terminal
use Rattle.ch_sql_grammar.specs.declared.query.ColumnRef.{ColumnRef}
use Rattle.ch_pred.specs.declared.pred.Literal.{Literal}
use Rattle.ch_sql_grammar.specs.declared.query.Side.TheVariants as side
use Rattle.ch_sql_grammar.specs.Tree.{Plain, Compare, Within, Not, all_of, any_of, Select, bare_col}
use Rattle.ch_sql_grammar.specs.Tokens.{has_mark, name_in, literal_in, text_in, cmp_in}
use Rattle.ch_sql_grammar.specs.declared.query.Item.{Item}
use Rattle.ch_sql_grammar.specs.declared.query.Source.{Source}
use Rattle.ch_sql_grammar.specs.declared.query.Source.TheVariants as source
use Rattle.ch_sql_grammar.specs.declared.query.Tail.{Tail}
use Rattle.ch_sql_grammar.specs.declared.query.Tail.TheVariants as tail
use Rattle.ch_sql_grammar.specs.declared.head.Head.{Head}
use Rattle.ch_sql_grammar.specs.declared.head.HeadPlace.TheVariants as head
use Rattle.ch_sql_grammar.specs.declared.head.HeadTaker.TheVariants as headtaker
use Rattle.ch_sql_grammar.specs.declared.head.HeadStep.{HeadStep}
use Rattle.ch_sql_grammar.specs.declared.head.HeadStep.TheVariants as headstep
use Rattle.ch_sql_grammar.specs.declared.tail.TailPlace.{TailPlace}
use Rattle.ch_sql_grammar.specs.declared.tail.TailPlace.TheVariants as place
use Rattle.ch_sql_grammar.specs.HeadSteps as heads
use Rattle.ch_sql_grammar.specs.HeadSteps.{one_head, join_head, semi_head}
use Rattle.ch_sql_grammar.specs.TailSteps as tails
use Rattle.ch_sql_places.specs.Machine.{Around, Member, Negated, Level, Whole, Group, Taker, First, Second, Leading, Place, Heading, Lead, LeadCol, LeadIn, LeadListed, Want, Name, Dot, Atom, Compared, Low, LowAnd, High, In, Listed, Next, LikeText, Negs, Conjs, Closed, Tailing, have, took, whole, headed, behind, step, step_settled, after_pred, after_conj, after_neg, after_col, finish, pred_end, answer, start, takes_or, takes_tail, may_be_outer, is_semi, is_one, outer_of, selected}
use Rattle.ch_sql_places.proofs.Complete.{finish_have}
use Rattle.ch_sql_places.proofs.Walked.{and_left, and_right}
use Rattle.ch_sql_grammar.specs.Grammar as grammar
use Rattle.ch_sql_grammar.specs.Grammar.{Pred, conj, or, Conj, neg, and, Neg, not, parens, atom, compare, between, within, like, col_tokens, qualifier, literal_token, listed_tokens, cmp_mark, side_tokens, atom_tokens, pred_tokens, conj_tokens, neg_tokens, atom_tree, conj_trees, neg_trees, neg_tree, pred_tree, conj_tree, each, extreme_tokens, item_tokens, items_tokens, where_tokens, and_tokens, direction_tokens, agg_tokens, having_tokens, dim_mark, dim_tokens, ending_tokens, endings_tokens, one_tokens, distinct_tokens, join_tokens, semi_tokens, form_tokens, is_descending, ending_tree, endings_tree, form_tree, is_plain_item, ArePlain, IsForm, IsQuery}
use Rattle.ch_sql_places.proofs.Leads.{ands_tokens, ands_trees, ors_tokens, ors_trees, OrsFit, PredFits, one, HeadedBy, IsHead, opening, IsAround, IsLevel, After, InnerLeads, TailIs, TailLeads, FilterIs, Leads, mark_is, name_is, text_is, literal_is, cmp_is, each_if, each_map, each_given, more}
use Rattle.std.specs.List.{list_all}
use Rattle.std.specs.Prelude.{not as negated}
use Rattle.ch_sql_places.proofs.TailSound.{TailFinal, tail_steps, tail_ends}
use Rattle.ch_sql_places.proofs.HeadSound.{StepLeads, head_steps, head_ends}

-- one more neg or conj

abbrev more_negs : Option Conj → Neg → Conj
more_negs None n = neg n
more_negs (Some c) n = and c n

more_negs_tokens : (o : Option Conj) (n : Neg) → ands_tokens o ++ neg_tokens n ≡ conj_tokens (more_negs o n)
more_negs_tokens None n = refl
more_negs_tokens (Some c) n = append_assoc (conj_tokens c) (one mark.And) (neg_tokens n)

more_negs_trees : (o : Option Conj) (n : Neg) → ands_trees o ++ (neg_tree n ∷ []) ≡ neg_trees (more_negs o n)
more_negs_trees None n = refl
more_negs_trees (Some c) n = refl

abbrev more_conjs : Option Pred → Conj → Pred
more_conjs None c = conj c
more_conjs (Some p) c = or p c

more_conjs_tokens : (o : Option Pred) (c : Conj) → ors_tokens o ++ conj_tokens c ≡ pred_tokens (more_conjs o c)
more_conjs_tokens None c = refl
more_conjs_tokens (Some p) c = append_assoc (pred_tokens p) (one mark.Or) (conj_tokens c)

more_conjs_trees : (o : Option Pred) (c : Conj) → ors_trees o ++ (all_of (neg_trees c) ∷ []) ≡ conj_trees (more_conjs o c)
more_conjs_trees None c = refl
more_conjs_trees (Some p) c = refl

more_fit : (o : Option Pred) (c : Conj) (b : Bool) → OrsFit o b → PredFits (more_conjs o c) b
more_fit None c b h = tt
more_fit (Some p) c b h = h

leads_have : (around : Around) (toks f : List Terminal) (n : Neg) → IsAround around f → toks ≡ f ++ neg_tokens n → Leads (have (neg_tree n) around) toks
leads_have (Member conjs negs level) toks f n (b, os, ns, l, ce, ne, te, fit) e = (
  b,
  os,
  more_negs ns n,
  l,
  ce,
  ap (λ x. x ++ (neg_tree n ∷ [])) ne ∙ more_negs_trees ns n,
  e ∙ ap (λ x. x ++ neg_tokens n) te ∙ append_assoc (b ++ ors_tokens os) (ands_tokens ns) (neg_tokens n) ∙ ap (λ x. (b ++ ors_tokens os) ++ x) (more_negs_tokens ns n),
  fit,
)
leads_have (Negated around) toks f n (g, a, fe) e = leads_have around toks g (not n) a (e ∙ ap (λ x. x ++ neg_tokens n) fe ∙ append_assoc g (one mark.Not) (neg_tokens n))

leads_conjs : (conjs negs : List Plain) (level : Level) (toks : List Terminal) → Leads (Negs conjs negs level) toks → Leads (Conjs (conjs ++ (all_of negs ∷ [])) level) toks
leads_conjs conjs negs level toks (f, os, c, l, ce, ne, te, fit) = (
  f,
  more_conjs os c,
  l,
  ap₂ (λ x y. x ++ (all_of y ∷ [])) ce ne ∙ more_conjs_trees os c,
  te ∙ append_assoc f (ors_tokens os) (conj_tokens c) ∙ ap (λ x. f ++ x) (more_conjs_tokens os c),
  more_fit os c (takes_or level) fit,
)

leads_closed : (conjs : List Plain) (level : Level) (toks : List Terminal) → Leads (Conjs conjs level) toks → Leads (Closed (any_of conjs) level) toks
leads_closed conjs level toks (f, p, l, ce, te, fit) = (f, p, l, ap any_of ce, te, fit)

grow : (around : Around) (toks xs : List Terminal) (t u : Terminal) → After around toks xs → t ≡ u → After around (more toks t) (more xs u)
grow around toks xs t u (f, a, e) h = (f, a, ap₂ more e h ∙ append_assoc f xs (u ∷ []))

-- a whole atom
close : (around : Around) (toks xs : List Terminal) (a : grammar.Atom) → After around toks xs → xs ≡ atom_tokens a → Leads (have (atom_tree a) around) toks
close around toks xs a (f, r, e) h = leads_have around toks f (atom a) r (e ∙ ap (λ x. f ++ x) h)

abbrev Led : List Terminal → Terminal → Place → Type 0
Led toks t next = Leads next (more toks t)

abbrev Onward : Place → List Terminal → Terminal → Type 0
Onward place toks t = IfSome (step_settled place t) (λ next. Leads next (more toks t))

-- behind a filter or a source

tailing_some : (h : Head) (filter : Option Plain) (f g x toks : List Terminal) (t : Terminal) (o : Option TailPlace) → IsHead h f → FilterIs (is_semi h.source) filter g → toks ≡ (f ++ g) ++ x →
    IfSome o (λ next. TailLeads (takes_tail h) next (more x t)) → IfSome (option_map (λ p. Tailing h filter p) o) (λ next. Leads next (more toks t))
tailing_some h filter f g x toks t None hd fi e l = tt
tailing_some h filter f g x toks t (Some next) hd fi e l = (f, g, more x t, hd, fi, l, ap (λ z. more z t) e ∙ append_assoc (f ++ g) x (t ∷ []))

tailing_steps : (h : Head) (filter : Option Plain) (at : TailPlace) (toks : List Terminal) (t : Terminal) → Leads (Tailing h filter at) toks → IfSome (option_map (λ p. Tailing h filter p) (tails.step_of at t)) (λ next. Leads next (more toks t))
tailing_steps h filter at toks t (f, g, x, hd, fi, l, e) = tailing_some h filter f g x toks t (tails.step_of at t) hd fi e (tail_steps (takes_tail h) at x t l)

source_opened : (h : Head) (toks : List Terminal) → IsHead h toks → Leads (Tailing h None (place.Start (takes_tail h))) toks
source_opened h toks hd = (toks, [], [], hd, refl, (refl, refl), sym (append-nil _ ∙ append-nil _))

filter_is : (b : Bool) (p : Plain) (q : Pred) → p ≡ pred_tree q → PredFits q (negated b) → FilterIs b (Some p) (terminal.Mark (opening b) ∷ pred_tokens q)
filter_is true p (conj c) e fit = (c, e, refl)
filter_is true p (or q c) e fit = cc
filter_is false p q e fit = (q, e, refl)

filter_opened : (p : Plain) (h : Head) (toks : List Terminal) → Leads (Closed p (Whole h)) toks → Leads (Tailing h (Some p) (place.Start (takes_tail h))) toks
filter_opened p h toks (f, q, (g, hd, ge), pe, te, fit) = (
  g,
  terminal.Mark (opening (is_semi h.source)) ∷ pred_tokens q,
  [],
  hd,
  filter_is (is_semi h.source) p q pe fit,
  (refl, refl),
  te ∙ ap (λ z. z ++ pred_tokens q) ge ∙ append_assoc g (terminal.Mark (opening (is_semi h.source)) ∷ []) (pred_tokens q) ∙ sym (append-nil _),
)

after_pred_leads : (p : Plain) (level : Level) (toks : List Terminal) (t : Terminal) → Leads (Closed p level) toks → IfSome (after_pred p level t) (λ next. Leads next (more toks t))
after_pred_leads p (Whole h) toks t r = tailing_steps h (Some p) (place.Start (takes_tail h)) toks t (filter_opened p h toks r)
after_pred_leads p (Group around) toks t (f, q, (g, a, fe), pe, te, fit) = each_if (Led toks t) _ _ None
    (λ h. subst (λ x. Leads (have x around) (more toks t)) (sym pe) (leads_have around (more toks t) g (parens q) a
    (ap₂ more (te ∙ ap (λ x. x ++ pred_tokens q) fe ∙ append_assoc g (one mark.LeftParen) (pred_tokens q)) (mark_is mark.RightParen t h) ∙ append_assoc g (terminal.Mark mark.LeftParen ∷ pred_tokens q) (one mark.RightParen)))) tt

-- behind a source

around_whole : (h : Head) (toks : List Terminal) → IsLevel (Whole h) toks → IsAround (whole h) toks
around_whole h toks l = (toks, None, None, l, refl, refl, sym (append-nil _ ∙ append-nil _), tt)

opening_where : (b : Bool) → negated b ≡ true → opening b ≡ mark.Where
opening_where true e = cc
opening_where false e = refl

opening_and : (b : Bool) → b ≡ true → opening b ≡ mark.And
opening_and true e = refl
opening_and false e = cc

level_where : (h : Head) (toks : List Terminal) (t : Terminal) → IsHead h toks → t ≡ terminal.Mark mark.Where → negated (is_semi h.source) ≡ true → IsLevel (Whole h) (more toks t)
level_where h toks t hd e s = (toks, hd, ap (more toks) (e ∙ ap terminal.Mark (sym (opening_where (is_semi h.source) s))))

level_and : (h : Head) (toks : List Terminal) (t : Terminal) → IsHead h toks → t ≡ terminal.Mark mark.And → is_semi h.source ≡ true → IsLevel (Whole h) (more toks t)
level_and h toks t hd e s = (toks, hd, ap (more toks) (e ∙ ap terminal.Mark (sym (opening_and (is_semi h.source) s))))

opened_leads : (h : Head) (toks : List Terminal) (b : Bool) → may_be_outer h ≡ b → IsLevel (Whole h) toks → IfSome (if b then Some (Lead h) else Some (Want (whole h))) (λ next. Leads next toks)
opened_leads h toks true e l = (l, e)
opened_leads h toks false e l = around_whole h toks l

each_option : {A : Type 0} → (P : A → Type 0) (b : Bool) (o r : Option A) → (b ≡ true → IfSome o P) → IfSome r P → IfSome (if b then o else r) P
each_option P true o r here else_ = here refl
each_option P false o r here else_ = else_

behind_leads : (h : Head) (toks : List Terminal) (t : Terminal) → IsHead h toks → IfSome (behind h t) (λ next. Leads next (more toks t))
behind_leads h toks t hd =
    each_option (Led toks t) (has_mark mark.Where t && negated (is_semi h.source)) _ _
    (λ k. opened_leads h (more toks t) (may_be_outer h) refl (level_where h toks t hd (mark_is mark.Where t (and_left (has_mark mark.Where t) _ k)) (and_right (has_mark mark.Where t) (negated (is_semi h.source)) k)))
    (each_if (Led toks t) (has_mark mark.And t && is_semi h.source) (Want (whole h)) _
    (λ k. around_whole h (more toks t) (level_and h toks t hd (mark_is mark.And t (and_left (has_mark mark.And t) _ k)) (and_right (has_mark mark.And t) (is_semi h.source) k)))
    (tailing_steps h None (place.Start (takes_tail h)) toks t (source_opened h toks hd)))

headed_leads : (s : HeadStep) (toks : List Terminal) (t : Terminal) → StepLeads toks t s → IfSome (headed s t) (λ next. Leads next (more toks t))
headed_leads (headstep.On next) toks t l = l
headed_leads (headstep.Done h) toks t l = behind_leads h toks t l
headed_leads headstep.Stuck toks t l = tt

-- a semi-join opens

inner_by : (s : Source) (d : Bool) (front : List Item) (last : Item) (f : List Terminal) → (negated d && is_one s) ≡ true → HeadedBy s d front last f → f ≡ one_tokens front last (outer_of s)
inner_by (source.One table) false front last f e k = k
inner_by (source.One table) true front last f e k = cc
inner_by (source.Join left right first_on second_on) true front last f e k = cc
inner_by (source.Join left right first_on second_on) false front last f e k = cc
inner_by (source.Semi outer inner key inner_key) true front last f e k = cc
inner_by (source.Semi outer inner key inner_key) false front last f e k = cc

no_semi : (s : Source) (d : Bool) → (negated d && is_one s) ≡ true → opening (is_semi s) ≡ mark.Where
no_semi (source.One table) d e = refl
no_semi (source.Join left right first_on second_on) d e = refl
no_semi (source.Semi outer inner key inner_key) true e = cc
no_semi (source.Semi outer inner key inner_key) false e = cc

inner_leads : (h : Head) (col : ColumnRef) (toks : List Terminal) (t : Terminal) → Leads (LeadListed h col) toks → t ≡ terminal.Mark mark.Select → InnerLeads h.items (outer_of h.source) col (more toks t)
inner_leads h col toks t (f, (g, hd, ge), e, m) k =
    let takes = and_left (takes_tail h) (list_all is_plain_item h.items) m in
    let plain = and_right (takes_tail h) (list_all is_plain_item h.items) m in
    let first : g ≡ one_tokens hd.front hd.last (outer_of h.source) = inner_by h.source h.distinct hd.front hd.last g takes hd.spelled in (
      hd.front,
      hd.last,
      hd.items,
      ap (λ z. list_all is_plain_item z) (sym hd.items) ∙ plain,
      ap₂ more (e ∙ ap (λ z. z ++ ((col_tokens col ++ one mark.In) ++ one mark.LeftParen)) (ge ∙ ap₂ (λ a b. a ++ (terminal.Mark b ∷ [])) first (no_semi h.source h.distinct takes))
          ∙ sym (append_assoc (one_tokens hd.front hd.last (outer_of h.source) ++ one mark.Where) (col_tokens col ++ one mark.In) (one mark.LeftParen))
          ∙ ap (λ z. z ++ one mark.LeftParen) (sym (append_assoc (one_tokens hd.front hd.last (outer_of h.source) ++ one mark.Where) (col_tokens col) (one mark.In)))) k,
    )

after_conj_leads : (conjs : List Plain) (level : Level) (toks : List Terminal) (t : Terminal) → Leads (Conjs conjs level) toks → IfSome (after_conj conjs level t) (λ next. Leads next (more toks t))
after_conj_leads conjs level toks t r = each_if (Led toks t) (has_mark mark.Or t && takes_or level) (Want (Member conjs [] level)) _
    (λ h. (r.0, Some r.1, None, r.2, r.3, refl, ap₂ more r.4 (mark_is mark.Or t (and_left (has_mark mark.Or t) (takes_or level) h)) ∙ append_assoc r.0 (pred_tokens r.1) (one mark.Or) ∙ sym (append-nil _), and_right (has_mark mark.Or t) (takes_or level) h))
    (after_pred_leads (any_of conjs) level toks t (leads_closed conjs level toks r))

after_neg_leads : (conjs negs : List Plain) (level : Level) (toks : List Terminal) (t : Terminal) → Leads (Negs conjs negs level) toks → IfSome (after_neg conjs negs level t) (λ next. Leads next (more toks t))
after_neg_leads conjs negs level toks t r = each_if (Led toks t) (has_mark mark.And t) (Want (Member conjs negs level)) _
    (λ h. (r.0, r.1, Some r.2, r.3, r.4, r.5, ap₂ more r.6 (mark_is mark.And t h) ∙ append_assoc (r.0 ++ ors_tokens r.1) (conj_tokens r.2) (one mark.And), r.7))
    (after_conj_leads (conjs ++ (all_of negs ∷ [])) level toks t (leads_conjs conjs negs level toks r))

listed_more : (front : List Literal) (last : Literal) → listed_tokens front ++ (literal_token last ∷ terminal.Mark mark.Comma ∷ []) ≡ listed_tokens (front ++ (last ∷ []))
listed_more [] last = refl
listed_more (v ∷ vs) last = ap (λ x. literal_token v ∷ terminal.Mark mark.Comma ∷ x) (listed_more vs last)

comma : (col : ColumnRef) (front : List Literal) (last : Literal) →
    more ((((col_tokens col ++ one mark.In) ++ one mark.LeftParen) ++ listed_tokens front) ++ (literal_token last ∷ [])) (terminal.Mark mark.Comma)
    ≡ ((col_tokens col ++ one mark.In) ++ one mark.LeftParen) ++ listed_tokens (front ++ (last ∷ []))
comma col front last = append_assoc _ (literal_token last ∷ []) (one mark.Comma) ∙ append_assoc _ (listed_tokens front) _ ∙ ap (λ x. ((col_tokens col ++ one mark.In) ++ one mark.LeftParen) ++ x) (listed_more front last)

after_col_leads : (around : Around) (col : ColumnRef) (toks : List Terminal) (t : Terminal) → After around toks (col_tokens col) → IfSome (after_col around col t) (λ next. Leads next (more toks t))
after_col_leads around col toks t r = each_given (Led toks t) _ (cmp_in t) _ (λ c h. grow around toks _ t (terminal.Mark (cmp_mark c)) r (cmp_is t c h))
    (each_if (Led toks t) _ _ _ (λ h. grow around toks _ t (terminal.Mark mark.Between) r (mark_is mark.Between t h))
    (each_if (Led toks t) _ _ _ (λ h. grow around toks _ t (terminal.Mark mark.In) r (mark_is mark.In t h))
    (each_if (Led toks t) _ _ None (λ h. grow around toks _ t (terminal.Mark mark.Like) r (mark_is mark.Like t h)) tt)))

onward : (place : Place) (toks : List Terminal) (t : Terminal) → Leads place toks → Onward place toks t
onward (Heading at) toks t r = headed_leads (heads.step_of at t) toks t (head_steps at toks t r)
onward (Lead h) toks t (l, m) = each_if (Led toks t) (has_mark mark.Not t) (Want (Negated (whole h))) _ (λ k. (toks, around_whole h toks l, ap (more toks) (mark_is mark.Not t k)))
    (each_if (Led toks t) (has_mark mark.LeftParen t) (Want (Member [] [] (Group (whole h)))) _ (λ k. (more toks t, None, None, (toks, around_whole h toks l, ap (more toks) (mark_is mark.LeftParen t k)), refl, refl, sym (append-nil _ ∙ append-nil _), tt))
    (each_map (Led toks t) (λ n. Name (Leading h) n) (name_in t) (λ n k. (toks, l, ap (more toks) (name_is t n k), m))))
onward (LeadCol h col) toks t (f, l, e, m) = each_if (Led toks t) (has_mark mark.In t) (LeadIn h col) _ (λ k. (f, l, ap₂ more e (mark_is mark.In t k) ∙ append_assoc f (col_tokens col) (one mark.In), m))
    (after_col_leads (whole h) col toks t (f, around_whole h f l, e))
onward (LeadIn h col) toks t (f, l, e, m) = each_if (Led toks t) (has_mark mark.LeftParen t) (LeadListed h col) None (λ k. (f, l, ap₂ more e (mark_is mark.LeftParen t k) ∙ append_assoc f (col_tokens col ++ one mark.In) (one mark.LeftParen), m)) tt
onward (LeadListed h col) toks t (f, l, e, m) = each_if (Led toks t) (has_mark mark.Select t) (Heading (head.Taking (headtaker.InnerKey h.items (outer_of h.source) col))) _ (λ k. inner_leads h col toks t (f, l, e, m) (mark_is mark.Select t k))
    (each_map (Led toks t) (λ v. Next (whole h) col (v ∷ [])) (literal_in t) (λ v k. ([], v, refl, (f, around_whole h f l, ap₂ more e (literal_is t v k) ∙ append_assoc f ((col_tokens col ++ one mark.In) ++ one mark.LeftParen) (literal_token v ∷ []) ∙ ap (λ z. f ++ (z ++ (literal_token v ∷ []))) (sym (append-nil ((col_tokens col ++ one mark.In) ++ one mark.LeftParen)))))))
onward (Tailing h filter at) toks t r = tailing_steps h filter at toks t r
onward (Dot (Leading h) n) toks t (f, l, e, m) = each_map (Led toks t) (λ k. LeadCol h (record { table = Some n; name = k })) (name_in t) (λ k i. (f, l, ap₂ more e (name_is t k i) ∙ append_assoc f (terminal.Name n ∷ terminal.Mark mark.Dot ∷ []) (terminal.Name k ∷ []), m))
onward (Want around) toks t r = each_if (Led toks t) (has_mark mark.Not t) (Want (Negated around)) _ (λ h. (toks, r, ap (more toks) (mark_is mark.Not t h)))
    (each_if (Led toks t) (has_mark mark.LeftParen t) (Want (Member [] [] (Group around))) _ (λ h. (more toks t, None, None, (toks, r, ap (more toks) (mark_is mark.LeftParen t h)), refl, refl, sym (append-nil _ ∙ append-nil _), tt))
    (each_map (Led toks t) (λ n. Name (First around) n) (name_in t) (λ n h. (toks, r, ap (more toks) (name_is t n h)))))
onward (Name taker n) toks t r = tt
onward (Dot (First around) n) toks t r = each_map (Led toks t) _ (name_in t) (λ m h. grow around toks _ t (terminal.Name m) r (name_is t m h))
onward (Dot (Second around left c) n) toks t r = each_map (Led toks t) _ (name_in t) (λ m h. close around (more toks t) _ (compare left c (side.Column (record { table = Some n; name = m }))) (grow around toks _ t (terminal.Name m) r (name_is t m h)) (simp append_assoc))
onward (Atom around col) toks t r = after_col_leads around col toks t r
onward (Compared around col c) toks t r = each_given (Led toks t) _ (name_in t) _ (λ n h. grow around toks _ t (terminal.Name n) r (name_is t n h))
    (each_map (Led toks t) _ (literal_in t) (λ v h. close around (more toks t) _ (compare col c (side.Value v)) (grow around toks _ t (literal_token v) r (literal_is t v h)) (append_assoc (col_tokens col) (one (cmp_mark c)) (literal_token v ∷ []))))
onward (Low around col) toks t r = each_map (Led toks t) _ (literal_in t) (λ v h. grow around toks _ t (literal_token v) r (literal_is t v h))
onward (LowAnd around col low) toks t r = each_if (Led toks t) _ _ None (λ h. grow around toks _ t (terminal.Mark mark.And) r (mark_is mark.And t h)) tt
onward (High around col low) toks t r = each_map (Led toks t) _ (literal_in t) (λ v h. close around (more toks t) _ (between col low v) (grow around toks _ t (literal_token v) r (literal_is t v h)) (simp append_assoc))
onward (In around col) toks t r = each_if (Led toks t) _ _ None (λ h. (let g = grow around toks _ t (terminal.Mark mark.LeftParen) r (mark_is mark.LeftParen t h) in (g.0, g.1, g.2 ∙ ap (λ x. g.0 ++ x) (sym (append-nil _))))) tt
onward (Listed around col literals) toks t r = each_map (Led toks t) (λ v. Next around col (literals ++ (v ∷ []))) (literal_in t) (λ v h. (literals, v, refl, grow around toks _ t (literal_token v) r (literal_is t v h)))
onward (Next around col literals) toks t (front, last, le, r) = each_if (Led toks t) _ _ _
    (λ h. (let g = grow around toks _ t (terminal.Mark mark.Comma) r (mark_is mark.Comma t h) in (g.0, g.1, g.2 ∙ ap (λ x. g.0 ++ x) (comma col front last ∙ ap (λ l. ((col_tokens col ++ one mark.In) ++ one mark.LeftParen) ++ listed_tokens l) (sym le)))))
    (each_if (Led toks t) _ _ None (λ h. subst (λ l. Leads (have (Within col l) around) (more toks t)) (sym le)
    (close around (more toks t) _ (within col front last) (grow around toks _ t (terminal.Mark mark.RightParen) r (mark_is mark.RightParen t h)) (simp append_assoc))) tt)
onward (LikeText around col) toks t r = each_map (Led toks t) _ (text_in t) (λ s h. close around (more toks t) _ (like col s) (grow around toks _ t (terminal.Text s) r (text_is t s h)) (append_assoc (col_tokens col) (one mark.Like) (terminal.Text s ∷ [])))
onward (Negs conjs negs level) toks t r = after_neg_leads conjs negs level toks t r
onward (Conjs conjs level) toks t r = after_conj_leads conjs level toks t r
onward (Closed p level) toks t r = after_pred_leads p level toks t r

settles : (taker : Taker) (n : List ℕ) (toks : List Terminal) → Leads (Name taker n) toks → Leads (took taker (record { table = None; name = n })) toks
settles (First around) n toks r = r
settles (Leading h) n toks r = r
settles (Second around left c) n toks r = close around toks _ (compare left c (side.Column (record { table = None; name = n }))) r (append_assoc (col_tokens left) (one (cmp_mark c)) (terminal.Name n ∷ []))

pub step_leads : (place : Place) (toks : List Terminal) (t : Terminal) → Leads place toks → IfSome (step place t) (λ next. Leads next (more toks t))
step_leads (Name (First around) n) toks t r = each_if (Led toks t) _ _ _ (λ h. grow around toks _ t (terminal.Mark mark.Dot) r (mark_is mark.Dot t h)) (onward (took (First around) (record { table = None; name = n })) toks t (settles (First around) n toks r))
step_leads (Name (Second around left c) n) toks t r = each_if (Led toks t) _ _ _ (λ h. grow around toks _ t (terminal.Mark mark.Dot) r (mark_is mark.Dot t h)) (onward (took (Second around left c) (record { table = None; name = n })) toks t (settles (Second around left c) n toks r))
step_leads (Name (Leading h) n) toks t (f, l, e, m) = each_if (Led toks t) (has_mark mark.Dot t) (Dot (Leading h) n) _ (λ k. (f, l, ap₂ more e (mark_is mark.Dot t k) ∙ append_assoc f (terminal.Name n ∷ []) (one mark.Dot), m)) (onward (LeadCol h (bare_col n)) toks t (f, l, e, m))
step_leads place toks t r = onward place toks t r

-- where the tokens may end they are a query

abbrev made : Bool → List Item → Source → Option Plain → Tail → Select
made d items s filter t = record { distinct = d; items = items; source = s; filter = filter; tail = t }

abbrev FormOf : Source → Bool → List Item → Option Plain → Tail → List Terminal → Type 0
FormOf s d items filter t toks = (form : grammar.Form) × IsForm form × (toks ≡ form_tokens form) × (made d items s filter t ≡ form_tree form)

where_is : (filter : Option Plain) (g : List Terminal) → FilterIs false filter g → (q : Option Pred) × (filter ≡ option_map pred_tree q) × (g ≡ where_tokens q)
where_is None g e = (None, refl, e)
where_is (Some p) g (q, e, k) = (Some q, ap Some e, k)

and_is : (filter : Option Plain) (g : List Terminal) → FilterIs true filter g → (c : Option Conj) × (filter ≡ option_map conj_tree c) × (g ≡ and_tokens c)
and_is None g e = (None, refl, e)
and_is (Some p) g (c, e, k) = (Some c, ap Some e, k)

ending_is : (t : Tail) (x : List Terminal) → TailIs true t x → (e : Option grammar.Ending) × (t ≡ endings_tree e) × (x ≡ endings_tokens e)
ending_is t x (inl (e, b, te, xe)) = (Some e, te, xe)
ending_is t x (inr (te, xe)) = (None, te, xe)

no_ending : (t : Tail) (x : List Terminal) → TailIs false t x → (t ≡ tail.Nothing) × (x ≡ [])
no_ending t x (inl (e, b, te, xe)) = cc
no_ending t x (inr k) = k

same_select : (d : Bool) (s : Source) (i j : List Item) (f g : Option Plain) (t u : Tail) → i ≡ j → f ≡ g → t ≡ u → made d i s f t ≡ made d j s g u
same_select d s i j f g t u ie fe te = ap₂ (λ a b. made d a s b t) ie fe ∙ ap (λ c. made d j s g c) te

form_by : (s : Source) (d : Bool) (items : List Item) (front : List Item) (last : Item) (filter : Option Plain) (t : Tail) (f g x : List Terminal) → items ≡ front ++ (last ∷ []) →
    HeadedBy s d front last f → FilterIs (is_semi s) filter g → TailIs (negated d && is_one s) t x → FormOf s d items filter t ((f ++ g) ++ x)
form_by (source.One table) true items front last filter t f g x ie (plain, fe) fi ti =
    let (q, qe, ge) = where_is filter g fi in
    let (te, xe) = no_ending t x ti in
    (grammar.distinct front last table q, plain, ap₂ (λ a b. (a ++ b) ++ x) fe ge ∙ ap (λ z. (distinct_tokens front last table ++ where_tokens q) ++ z) xe ∙ append-nil _, same_select true (source.One table) items (front ++ (last ∷ [])) filter (option_map pred_tree q) t tail.Nothing ie qe te)
form_by (source.One table) false items front last filter t f g x ie fe fi ti =
    let (q, qe, ge) = where_is filter g fi in
    let (e, te, xe) = ending_is t x ti in (
      grammar.one front last table q e,
      tt,
      ap₂ (λ a b. (a ++ b) ++ x) fe ge ∙ ap (λ z. (one_tokens front last table ++ where_tokens q) ++ z) xe ∙ append_assoc (one_tokens front last table) (where_tokens q) (endings_tokens e),
      same_select false (source.One table) items (front ++ (last ∷ [])) filter (option_map pred_tree q) t (endings_tree e) ie qe te,
    )
form_by (source.Join left right first_on second_on) true items front last filter t f g x ie (de, fe) fi ti = cc
form_by (source.Join left right first_on second_on) false items front last filter t f g x ie (de, fe) fi ti =
    let (q, qe, ge) = where_is filter g fi in
    let (te, xe) = no_ending t x ti in (
      grammar.join front last left right first_on second_on q,
      tt,
      ap₂ (λ a b. (a ++ b) ++ x) fe ge ∙ ap (λ z. (join_tokens front last left right first_on second_on ++ where_tokens q) ++ z) xe ∙ append-nil _,
      same_select false (source.Join left right first_on second_on) items (front ++ (last ∷ [])) filter (option_map pred_tree q) t tail.Nothing ie qe te,
    )
form_by (source.Semi outer inner key inner_key) true items front last filter t f g x ie (de, plain, fe) fi ti = cc
form_by (source.Semi outer inner key inner_key) false items front last filter t f g x ie (de, plain, fe) fi ti =
    let (c, ce, ge) = and_is filter g fi in
    let (te, xe) = no_ending t x ti in (
      grammar.semi front last outer key inner_key inner c,
      plain,
      ap₂ (λ a b. (a ++ b) ++ x) fe ge ∙ ap (λ z. (semi_tokens front last outer key inner_key inner ++ and_tokens c) ++ z) xe ∙ append-nil _,
      same_select false (source.Semi outer inner key inner_key) items (front ++ (last ∷ [])) filter (option_map conj_tree c) t tail.Nothing ie ce te,
    )

query_of : (h : Head) (filter : Option Plain) (t : Tail) (f g x toks : List Terminal) → IsHead h f → FilterIs (is_semi h.source) filter g → toks ≡ (f ++ g) ++ x → TailFinal (takes_tail h) x t → IsQuery toks (selected h filter t)
query_of h filter t f g x toks hd fi e (inl ti) =
    let (form, is, fe, te) = form_by h.source h.distinct h.items hd.front hd.last filter t f g x hd.items hd.spelled fi ti in
    record { form = form; is_form = is; spelled = inl (e ∙ fe); stands_for = te }
query_of h filter t f g x toks hd fi e (inr (y, ti, ye)) =
    let (form, is, fe, te) = form_by h.source h.distinct h.items hd.front hd.last filter t f g y hd.items hd.spelled fi ti in
    record { form = form; is_form = is; spelled = inr (e ∙ ap (λ z. (f ++ g) ++ z) ye ∙ sym (append_assoc (f ++ g) y (one mark.Semicolon)) ∙ ap (λ z. z ++ one mark.Semicolon) fe); stands_for = te }

tails_end : (h : Head) (filter : Option Plain) (f g x toks : List Terminal) (o : Option Tail) → IsHead h f → FilterIs (is_semi h.source) filter g → toks ≡ (f ++ g) ++ x → IfSome o (TailFinal (takes_tail h) x) →
    IfSome (option_map (λ t. selected h filter t) o) (λ tree. IsQuery toks tree)
tails_end h filter f g x toks None hd fi e l = tt
tails_end h filter f g x toks (Some t) hd fi e l = query_of h filter t f g x toks hd fi e l

tailing_ends : (h : Head) (filter : Option Plain) (at : TailPlace) (toks : List Terminal) → Leads (Tailing h filter at) toks → IfSome (option_map (λ t. selected h filter t) (tails.end_of at)) (λ tree. IsQuery toks tree)
tailing_ends h filter at toks (f, g, x, hd, fi, l, e) = tails_end h filter f g x toks (tails.end_of at) hd fi e (tail_ends (takes_tail h) at x l)

heads_end : (toks : List Terminal) (o : Option Head) → IfSome o (λ h. IsHead h toks) → IfSome (option_map (λ h. selected h None tail.Nothing) o) (λ tree. IsQuery toks tree)
heads_end toks None l = tt
heads_end toks (Some h) hd = tailing_ends h None (place.Start (takes_tail h)) toks (source_opened h toks hd)

pred_ends : (p : Plain) (level : Level) (toks : List Terminal) → Leads (Closed p level) toks → IfSome (pred_end p level) (λ tree. IsQuery toks tree)
pred_ends p (Whole h) toks r = tailing_ends h (Some p) (place.Start (takes_tail h)) toks (filter_opened p h toks r)
pred_ends p (Group around) toks r = tt

negs_end : (conjs negs : List Plain) (level : Level) (toks : List Terminal) → Leads (Negs conjs negs level) toks → IfSome (finish (Negs conjs negs level)) (λ tree. IsQuery toks tree)
negs_end conjs negs level toks r = pred_ends _ level toks (leads_closed _ level toks (leads_conjs conjs negs level toks r))

have_ends : (around : Around) (p : Plain) (toks : List Terminal) → Leads (have p around) toks → IfSome (finish (have p around)) (λ tree. IsQuery toks tree)
have_ends (Member conjs negs level) p toks r = negs_end conjs (negs ++ (p ∷ [])) level toks r
have_ends (Negated around) p toks r = have_ends around (Not p) toks r

finish_leads : (place : Place) (toks : List Terminal) → Leads place toks → IfSome (finish place) (λ tree. IsQuery toks tree)
finish_leads (Name (First around) n) toks r = tt
finish_leads (Name (Second around left c) n) toks r = subst (λ o. IfSome o (λ tree. IsQuery toks tree)) (finish_have around _) (have_ends around (Compare left c (side.Column (record { table = None; name = n }))) toks (settles (Second around left c) n toks r))
finish_leads (Want around) toks r = tt
finish_leads (Dot taker n) toks r = tt
finish_leads (Atom around col) toks r = tt
finish_leads (Compared around col c) toks r = tt
finish_leads (Low around col) toks r = tt
finish_leads (LowAnd around col low) toks r = tt
finish_leads (High around col low) toks r = tt
finish_leads (In around col) toks r = tt
finish_leads (Listed around col ls) toks r = tt
finish_leads (Next around col ls) toks r = tt
finish_leads (LikeText around col) toks r = tt
finish_leads (Negs conjs negs level) toks r = negs_end conjs negs level toks r
finish_leads (Conjs conjs level) toks r = pred_ends _ level toks (leads_closed conjs level toks r)
finish_leads (Closed p level) toks r = pred_ends p level toks r
finish_leads (Heading at) toks r = heads_end toks (heads.end_of at) (head_ends at toks r)
finish_leads (Tailing h filter at) toks r = tailing_ends h filter at toks r
finish_leads (Name (Leading h) n) toks r = tt
finish_leads (Lead h) toks r = tt
finish_leads (LeadCol h col) toks r = tt
finish_leads (LeadIn h col) toks r = tt
finish_leads (LeadListed h col) toks r = tt

at_some : {A : Type 0} → (P : A → Type 0) (o : Option A) (x : A) → o ≡ Some x → IfSome o P → P x
at_some {A = A} P o x e h = let Q : Option A → Type 0 = λ v. IfSome v P in subst Q e h

then_leads : (o : Option Place) (toks ts : List Terminal) (tree : Select) → IfSome o (λ next. Leads next toks) →
    ((next : Place) → Leads next toks → answer next ts ≡ Some tree → IsQuery (toks ++ ts) tree) → option_and_then (λ next. answer next ts) o ≡ Some tree → IsQuery (toks ++ ts) tree
then_leads (Some next) toks ts tree l again h = again next l h
then_leads None toks ts tree l again h = cc

answer_leads : (ts toks : List Terminal) (place : Place) (tree : Select) → Leads place toks → answer place ts ≡ Some tree → IsQuery (toks ++ ts) tree
answer_leads [] toks place tree r e = subst (λ x. IsQuery x tree) (sym (append-nil toks)) (at_some (λ v. IsQuery toks v) (finish place) tree e (finish_leads place toks r))
answer_leads (t ∷ ts) toks place tree r e = subst (λ x. IsQuery x tree) (append_assoc toks (t ∷ []) ts)
    (then_leads (step place t) (more toks t) ts tree (step_leads place toks t r) (λ next l h. answer_leads ts (more toks t) next tree l h) e)

pub sound : (tokens : List Terminal) (tree : Select) → answer start tokens ≡ Some tree → IsQuery tokens tree
sound tokens tree e = answer_leads tokens [] start tree refl e
