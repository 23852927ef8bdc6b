-- The places of a tail: what a token leads to stands for the tokens.
use Rattle.std.proofs.Common.{◌≡◌, ℕ, ◌⊎◌, Bool, true, false, ◌&&◌, List, [], ◌∷◌, ◌++◌, Option, Some, None, refl, sym, ap, ap₂, ◌∙◌, append_assoc, append-nil, inl, inr, IfSome}
use Rattle.ch_sql_grammar.specs.declared.terminal.Mark.{Mark}
use Rattle.ch_sql_grammar.specs.declared.terminal.Mark.TheVariants as mark
use Rattle.ch_sql_grammar.specs.declared.terminal.Terminal.{Terminal}
use Rattle.ch_sql_grammar.specs.declared.terminal.Terminal.TheVariants as terminal
use Rattle.ch_sql_grammar.specs.declared.query.ColumnRef.{ColumnRef}
use Rattle.ch_sql_grammar.specs.Tree.{bare_col, col_of}
use Rattle.ch_sql_grammar.specs.Tokens.{has_mark, number_in, name_in}
use Rattle.ch_sql_grammar.specs.declared.query.Agg.TheVariants as agg
use Rattle.ch_sql_grammar.specs.declared.query.Tail.{Tail}
use Rattle.ch_sql_grammar.specs.declared.query.Tail.TheVariants as tail
use Rattle.ch_sql_grammar.specs.declared.tail.TailPlace.{TailPlace}
use Rattle.ch_sql_grammar.specs.declared.tail.TailPlace.TheVariants as place
use Rattle.ch_sql_grammar.specs.declared.tail.TailTaker.{TailTaker}
use Rattle.ch_sql_grammar.specs.declared.tail.TailTaker.TheVariants as tailtaker
use Rattle.ch_sql_grammar.specs.TailSteps as tails
use Rattle.ch_sql_places.proofs.Walked.{and_left, and_right}
use Rattle.ch_sql_grammar.specs.Grammar as grammar
use Rattle.ch_sql_grammar.specs.Grammar.{Pred, conj, or, Conj, neg, and, Neg, not, parens, atom, compare, between, within, like, col_tokens, qualifier, literal_token, listed_tokens, cmp_mark, side_tokens, atom_tokens, pred_tokens, conj_tokens, neg_tokens, atom_tree, conj_trees, neg_trees, neg_tree, pred_tree, conj_tree, each, extreme_tokens, item_tokens, items_tokens, where_tokens, and_tokens, direction_tokens, agg_tokens, having_tokens, dim_mark, dim_tokens, ending_tokens, endings_tokens, one_tokens, distinct_tokens, join_tokens, semi_tokens, form_tokens, is_descending, ending_tree, endings_tree, form_tree, is_plain_item, ArePlain, IsForm, IsQuery}
use Rattle.ch_sql_places.proofs.Leads.{one, group_by, skyline_of, order_by, KeysLead, TailBefore, TailDone, TailIs, TailLeads, mark_is, name_is, each_if, more, assoc4, assoc5, assoc7}
use Rattle.std.specs.Prelude.{ℤ}

-- lists with commas

pub each_snoc : {A : Type 0} → (f : A → List Terminal) (front : List A) (last : A) → each f front ++ (f last ++ (terminal.Mark mark.Comma ∷ [])) ≡ each f (front ++ (last ∷ []))
each_snoc f [] last = refl
each_snoc f (x ∷ xs) last = append_assoc (f x) (terminal.Mark mark.Comma ∷ each f xs) (f last ++ (terminal.Mark mark.Comma ∷ [])) ∙ ap (λ z. f x ++ (terminal.Mark mark.Comma ∷ z)) (each_snoc f xs last)

pub list_comma : {A : Type 0} → (g : List Terminal) (f : A → List Terminal) (front : List A) (last : A) → more ((g ++ each f front) ++ f last) (terminal.Mark mark.Comma) ≡ g ++ each f (front ++ (last ∷ []))
list_comma g f front last = append_assoc (g ++ each f front) (f last) (terminal.Mark mark.Comma ∷ []) ∙ append_assoc g (each f front) (f last ++ (terminal.Mark mark.Comma ∷ [])) ∙ ap (λ z. g ++ z) (each_snoc f front last)

-- the tail

abbrev pub TailLed : Bool → List Terminal → Terminal → TailPlace → Type 0
TailLed b x t next = TailLeads b next (more x t)

pub tail_taken : (b : Bool) (taker : TailTaker) (col : ColumnRef) (y x : List Terminal) → b ≡ true → TailBefore taker y → x ≡ y ++ col_tokens col → TailLeads b (tails.taken_by taker col) x
tail_taken b tailtaker.By col y x h k e = (h, e ∙ ap (λ z. z ++ col_tokens col) k)
tail_taken b (tailtaker.Key keys) col y x h k e = (h, (keys, col, refl, e ∙ ap (λ z. z ++ col_tokens col) k))
tail_taken b (tailtaker.Sum keys) col y x h (z, l, k) e = (h, z, l, e ∙ ap (λ z. z ++ col_tokens col) k)
tail_taken b (tailtaker.Dim dims) col y x h k e = (h, e ∙ ap (λ z. z ++ col_tokens col) k)

pub tail_named : (b : Bool) (at : TailPlace) (x : List Terminal) (t : Terminal) (n : List ℕ) → t ≡ terminal.Name n → TailLeads b at x → IfSome (tails.named_step at n) (TailLed b x t)
tail_named b (place.Taking taker) x t n h (k, l) = (k, x, l, ap (more x) h)
tail_named b (place.Dot taker table) x t n h (k, y, l, e) = tail_taken b taker (col_of table n) y (more x t) k l (ap₂ more e h ∙ assoc4 y (terminal.Name table ∷ []) (one mark.Dot) (terminal.Name n ∷ []))
tail_named b at x t n h l = tt

pub tail_name : (b : Bool) (at : TailPlace) (x : List Terminal) (t : Terminal) (o : Option (List ℕ)) → name_in t ≡ o → TailLeads b at x → IfSome (tails.name_given at o) (TailLed b x t)
tail_name b at x t None h l = tt
tail_name b at x t (Some n) h l = tail_named b at x t n (name_is t n h) l

pub number_is : (t : Terminal) (n : ℤ) → number_in t ≡ Some n → t ≡ terminal.Number n
number_is (terminal.Name k) n h = cc
number_is (terminal.Mark m) n h = cc
number_is (terminal.Number k) n h = cc
number_is (terminal.Text k) n h = cc

pub tail_numbered : (b : Bool) (at : TailPlace) (x : List Terminal) (t : Terminal) (n : ℤ) → t ≡ terminal.Number n → TailLeads b at x → IfSome (tails.numbered_step at n) (TailLed b x t)
tail_numbered b (place.LimitNumber by descending) x t n h (k, d, de, e) = (grammar.top by d n, k, ap (λ z. tail.Top by z n) de, ap₂ more e h ∙ assoc5 order_by (col_tokens by) (direction_tokens d) (one mark.Limit) (terminal.Number n ∷ []))
tail_numbered b (place.AboveNumber keys a) x t n h (k, y, (front, last, ke, ye), e) =
    (grammar.group front last (Some (tails.having_of a n)), k, ap (λ z. tail.Group z (Some (tails.having_of a n))) ke, ap₂ more (e ∙ ap (λ z. ((z ++ one mark.Having) ++ agg_tokens a) ++ one mark.Gt) ye) h ∙ assoc7 group_by (each col_tokens front) (col_tokens last) (one mark.Having) (agg_tokens a) (one mark.Gt) (terminal.Number n ∷ []))
tail_numbered b at x t n h l = tt

pub tail_number : (b : Bool) (at : TailPlace) (x : List Terminal) (t : Terminal) (o : Option ℤ) → number_in t ≡ o → TailLeads b at x → IfSome (tails.number_given at o) (TailLed b x t)
tail_number b at x t None h l = tt
tail_number b at x t (Some n) h l = tail_numbered b at x t n (number_is t n h) l

pub tail_begins : (b begins : Bool) (x : List Terminal) (t : Terminal) → begins ≡ b → x ≡ [] → IfSome (tails.start_step_of begins t) (TailLed b x t)
tail_begins b begins x t s e =
    each_if (TailLed b x t) (has_mark mark.Semicolon t) (place.Ended tail.Nothing) _ (λ h. ([], inr (refl, refl), ap₂ more e (mark_is mark.Semicolon t h)))
    (each_if (TailLed b x t) (has_mark mark.Order t && begins) place.Order _ (λ h. (sym s ∙ and_right (has_mark mark.Order t) begins h, ap₂ more e (mark_is mark.Order t (and_left (has_mark mark.Order t) begins h))))
    (each_if (TailLed b x t) (has_mark mark.Group t && begins) place.Group _ (λ h. (sym s ∙ and_right (has_mark mark.Group t) begins h, ap₂ more e (mark_is mark.Group t (and_left (has_mark mark.Group t) begins h))))
    (each_if (TailLed b x t) (has_mark mark.Skyline t && begins) place.Skyline None (λ h. (sym s ∙ and_right (has_mark mark.Skyline t) begins h, ap₂ more e (mark_is mark.Skyline t (and_left (has_mark mark.Skyline t) begins h)))) tt)))

-- one mark that must come
pub tail_must : (b : Bool) (x : List Terminal) (t : Terminal) (m : Mark) (next : TailPlace) → (t ≡ terminal.Mark m → TailLeads b next (more x t)) → IfSome (tails.on_mark m t next) (TailLed b x t)
tail_must b x t m next f = each_if (TailLed b x t) (has_mark m t) next None (λ h. f (mark_is m t h)) tt

pub tail_marked : (b : Bool) (at : TailPlace) (x : List Terminal) (t : Terminal) → TailLeads b at x → IfSome (tails.mark_step_of at t) (TailLed b x t)
tail_marked b place.Order x t (k, e) = tail_must b x t mark.By (place.Taking tailtaker.By) (λ h. (k, ap₂ more e h))
tail_marked b (place.Limit by descending) x t (k, d, de, e) = tail_must b x t mark.Limit (place.LimitNumber by descending) (λ h. (k, d, de, ap₂ more e h))
tail_marked b (place.SumOpen keys) x t (k, y, l, e) = tail_must b x t mark.LeftParen (place.Taking (tailtaker.Sum keys)) (λ h. (k, (y, l, ap₂ more e h)))
tail_marked b (place.SumClose keys col) x t (k, y, l, e) = tail_must b x t mark.RightParen (place.Above keys (agg.Sum col)) (λ h. (k, y, l, ap₂ more e h ∙ assoc5 (y ++ one mark.Having) (one mark.Sum) (one mark.LeftParen) (col_tokens col) (one mark.RightParen)))
tail_marked b (place.CountOpen keys) x t (k, y, l, e) = tail_must b x t mark.LeftParen (place.CountStar keys) (λ h. (k, y, l, ap₂ more e h))
tail_marked b (place.CountStar keys) x t (k, y, l, e) = tail_must b x t mark.Star (place.CountClose keys) (λ h. (k, y, l, ap₂ more e h))
tail_marked b (place.CountClose keys) x t (k, y, l, e) = tail_must b x t mark.RightParen (place.Above keys agg.Count) (λ h. (k, y, l, ap₂ more e h ∙ assoc5 (y ++ one mark.Having) (one mark.Count) (one mark.LeftParen) (one mark.Star) (one mark.RightParen)))
tail_marked b (place.Above keys a) x t (k, y, l, e) = tail_must b x t mark.Gt (place.AboveNumber keys a) (λ h. (k, y, l, ap₂ more e h))
tail_marked b (place.Whole done) x t l = tail_must b x t mark.Semicolon (place.Ended done) (λ h. (x, inl l, ap (more x) h))
tail_marked b at x t l = tt

pub keys_done : (b : Bool) (keys : List ColumnRef) (x : List Terminal) → b ≡ true → KeysLead keys x → TailDone b (tail.Group keys None) x
keys_done b keys x k (front, last, ke, e) = (grammar.group front last None, k, ap (λ z. tail.Group z None) ke, e ∙ ap (λ z. terminal.Mark mark.Group ∷ terminal.Mark mark.By ∷ (each col_tokens front ++ z)) (sym (append-nil (col_tokens last))))

pub tail_onward : (b : Bool) (at : TailPlace) (x : List Terminal) (t : Terminal) → TailLeads b at x → IfSome (tails.settled_of at t) (TailLed b x t)
tail_onward b (place.Start begins) x t (s, e) = tail_begins b begins x t s e
tail_onward b place.Group x t (k, e) = tail_must b x t mark.By (place.Taking (tailtaker.Key [])) (λ h. (k, ap₂ more e h))
tail_onward b place.Skyline x t (k, e) = tail_must b x t mark.Of (place.Taking (tailtaker.Dim [])) (λ h. (k, ap₂ more e h))
tail_onward b (place.Direction by) x t (k, e) =
    each_if (TailLed b x t) (has_mark mark.Asc t) (place.Limit by false) _ (λ h. (k, grammar.ascending, refl, ap₂ more e (mark_is mark.Asc t h)))
    (each_if (TailLed b x t) (has_mark mark.Desc t) (place.Limit by true) _ (λ h. (k, grammar.descending, refl, ap₂ more e (mark_is mark.Desc t h)))
    (tail_must b x t mark.Limit (place.LimitNumber by false) (λ h. (k, grammar.unsaid, refl, ap₂ more (e ∙ sym (append-nil (order_by ++ col_tokens by))) h))))
tail_onward b (place.Keys keys) x t (k, (front, last, ke, e)) =
    each_if (TailLed b x t) (has_mark mark.Comma t) (place.Taking (tailtaker.Key keys)) _ (λ h. (k, ap₂ more e (mark_is mark.Comma t h) ∙ list_comma group_by col_tokens front last ∙ ap (λ z. group_by ++ each col_tokens z) (sym ke)))
    (each_if (TailLed b x t) (has_mark mark.Having t) (place.Having keys) _ (λ h. (k, x, (front, last, ke, e), ap (more x) (mark_is mark.Having t h)))
    (tail_must b x t mark.Semicolon (place.Ended (tail.Group keys None)) (λ h. (x, inl (keys_done b keys x k (front, last, ke, e)), ap (more x) h))))
tail_onward b (place.Having keys) x t (k, y, l, e) =
    each_if (TailLed b x t) (has_mark mark.Sum t) (place.SumOpen keys) _ (λ h. (k, y, l, ap₂ more e (mark_is mark.Sum t h)))
    (tail_must b x t mark.Count (place.CountOpen keys) (λ h. (k, y, l, ap₂ more e h)))
tail_onward b (place.DimDirection dims col) x t (k, e) =
    each_if (TailLed b x t) (has_mark mark.Max t) (place.Dims (dims ++ (tails.dim_of col true ∷ []))) _ (λ h. (k, dims, tails.dim_of col true, refl, ap₂ more e (mark_is mark.Max t h) ∙ append_assoc (skyline_of ++ each dim_tokens dims) (col_tokens col) (one mark.Max)))
    (each_if (TailLed b x t) (has_mark mark.Min t) (place.Dims (dims ++ (tails.dim_of col false ∷ []))) None (λ h. (k, dims, tails.dim_of col false, refl, ap₂ more e (mark_is mark.Min t h) ∙ append_assoc (skyline_of ++ each dim_tokens dims) (col_tokens col) (one mark.Min))) tt)
tail_onward b (place.Dims dims) x t (k, front, last, de, e) =
    each_if (TailLed b x t) (has_mark mark.Comma t) (place.Taking (tailtaker.Dim dims)) _ (λ h. (k, ap₂ more e (mark_is mark.Comma t h) ∙ list_comma skyline_of dim_tokens front last ∙ ap (λ z. skyline_of ++ each dim_tokens z) (sym de)))
    (tail_must b x t mark.Semicolon (place.Ended (tail.Skyline dims)) (λ h. (x, inl (grammar.skyline front last, k, ap tail.Skyline de, e), ap (more x) h)))
tail_onward b (place.Name taker n) x t l = tt
tail_onward b (place.Taking taker) x t l = tail_name b (place.Taking taker) x t (name_in t) refl l
tail_onward b (place.Dot taker table) x t l = tail_name b (place.Dot taker table) x t (name_in t) refl l
tail_onward b (place.LimitNumber by descending) x t l = tail_number b (place.LimitNumber by descending) x t (number_in t) refl l
tail_onward b (place.AboveNumber keys a) x t l = tail_number b (place.AboveNumber keys a) x t (number_in t) refl l
tail_onward b at x t l = tail_marked b at x t l

pub tail_steps : (b : Bool) (at : TailPlace) (x : List Terminal) (t : Terminal) → TailLeads b at x → IfSome (tails.step_of at t) (TailLed b x t)
tail_steps b (place.Name taker n) x t (k, y, l, e) = each_if (TailLed b x t) (has_mark mark.Dot t) (place.Dot taker n) _ (λ h. (k, y, l, ap₂ more e (mark_is mark.Dot t h)))
    (tail_onward b (tails.taken_by taker (bare_col n)) x t (tail_taken b taker (bare_col n) y x k l e))
tail_steps b at x t l = tail_onward b at x t l

-- a tail whose tokens may end here
abbrev pub TailFinal : Bool → List Terminal → Tail → Type 0
TailFinal b x t = TailIs b t x ⊎ ((y : List Terminal) × TailIs b t y × (x ≡ y ++ one mark.Semicolon))

pub tail_settled_ends : (b : Bool) (at : TailPlace) (x : List Terminal) → TailLeads b at x → IfSome (tails.settled_end at) (TailFinal b x)
tail_settled_ends b (place.Start begins) x (s, e) = inl (inr (refl, e))
tail_settled_ends b (place.Keys keys) x (k, l) = inl (inl (keys_done b keys x k l))
tail_settled_ends b (place.Dims dims) x (k, front, last, de, e) = inl (inl (grammar.skyline front last, k, ap tail.Skyline de, e))
tail_settled_ends b (place.Whole done) x l = inl (inl l)
tail_settled_ends b (place.Ended done) x l = inr l
tail_settled_ends b at x l = tt

pub tail_ends : (b : Bool) (at : TailPlace) (x : List Terminal) → TailLeads b at x → IfSome (tails.end_of at) (TailFinal b x)
tail_ends b (place.Name taker n) x (k, y, l, e) = tail_settled_ends b (tails.taken_by taker (bare_col n)) x (tail_taken b taker (bare_col n) y x k l e)
tail_ends b at x l = tail_settled_ends b at x l
