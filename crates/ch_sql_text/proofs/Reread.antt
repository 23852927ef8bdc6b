-- What tokens spell, the tokens of the query that they derive spell again.
use Rattle.std.proofs.Common.{◌≡◌, ℕ, Bool, true, false, List, [], ◌∷◌, ◌++◌, map, ◌⊎◌, inl, inr, Option, Some, None, option_map, Ok, sym, ap, subst}
use Rattle.std.specs.List.{All, AllByRecursion}
use Rattle.std.proofs.lemmas.List.Elements.{All-from_recursion, recursion_from_All}
use Rattle.ch_sql_tokens.specs.declared.token.Token.{Token}
use Rattle.ch_sql_tokens.specs.declared.token.Token.TheVariants as token
use Rattle.ch_sql_tokens.specs.Spelling.{is_word, IsToken}
use Rattle.ch_sql_tokens.specs.Lexed.{IsQueryText}
use Rattle.ch_sql_tokens.proofs.Lexing.{scans_tokens}
use Rattle.ch_sql_grammar.specs.declared.terminal.Mark.{Mark}
use Rattle.ch_sql_grammar.specs.declared.terminal.Mark.TheVariants as mark
use Rattle.ch_sql_grammar.specs.declared.terminal.Terminal.{Terminal}
use Rattle.ch_sql_grammar.specs.declared.terminal.Terminal.TheVariants as terminal
use Rattle.ch_sql_grammar.specs.declared.query.ColumnRef.{ColumnRef}
use Rattle.ch_sql_grammar.specs.declared.query.Item.{Item}
use Rattle.ch_sql_grammar.specs.Keyword.{keyword_of}
use Rattle.ch_sql_grammar.specs.Tokens.{terminal_of, word_terminal}
use Rattle.ch_sql_grammar.specs.Tree.{Plain, plains, all_of, any_of, Select}
use Rattle.ch_sql_grammar.specs.Grammar as grammar
use Rattle.ch_sql_grammar.specs.Grammar.{Pred, conj, or, Conj, neg, and, Neg, parens, atom, Form, IsQuery, Ending, top, group, skyline, each, col_tokens, item_tokens, dim_tokens, items_tokens, direction_tokens, endings_tokens, endings_tree, is_descending, form_tokens, form_tree, pred_tokens, conj_tokens, neg_tokens, atom_tokens, atom_tree, conj_trees, neg_trees, neg_tree, pred_tree, conj_tree}
use Rattle.ch_sql_limits.specs.Limits.{IsQueryWithin}
use Rattle.ch_sql_limits.specs.Texts.{seen, Spells}
use Rattle.ch_sql_text.specs.Printed.{when, marked_off, joined, in_parens, is_or, is_and_or, filter_tokens, and_members, or_members, where_tokens, tail_tokens, printed_tokens, query_text}
use Rattle.ch_sql_text.specs.Law.{IsSpellable, text_tokens}
use Rattle.ch_sql_text.proofs.Listing.{joined_each}
use Rattle.ch_sql_text.proofs.Derived.{within_tokens}
use Rattle.ch_sql_text.proofs.Forms.{closed, derived_within}
use Rattle.ch_sql_text.proofs.Rescan.{lexed, all_seen, are_tokens}

abbrev pub AreSpellable : List Terminal → Type 0
AreSpellable ts = AllByRecursion IsSpellable ts

together : (xs ys : List Terminal) → AreSpellable xs → AreSpellable ys → AreSpellable (xs ++ ys)
together [] ys a b = b
together (x ∷ xs) ys (is, a) b = (is, together xs ys a b)

apart : (xs ys : List Terminal) → AreSpellable (xs ++ ys) → AreSpellable xs × AreSpellable ys
apart [] ys a = (tt, a)
apart (x ∷ xs) ys (is, a) = let r = apart xs ys a in ((is, r.0), r.1)

mark_spellable : (b : Bool) (m : Mark) → AreSpellable (when b m)
mark_spellable true m = (tt, tt)
mark_spellable false m = tt

parens_spellable : (b : Bool) (ts : List Terminal) → AreSpellable ts → AreSpellable (in_parens b ts)
parens_spellable b ts a = together (when b mark.LeftParen) _ (mark_spellable b mark.LeftParen) (together ts _ a (mark_spellable b mark.RightParen))

-- each list of a list
abbrev EachSpellable : List (List Terminal) → Type 0
EachSpellable xs = AllByRecursion AreSpellable xs

marked_spellable : (b : Bool) (m : Mark) (xs : List (List Terminal)) → EachSpellable xs → AreSpellable (marked_off b m xs)
marked_spellable b m [] a = tt
marked_spellable b m (x ∷ xs) (is, a) = together (when b m) _ (mark_spellable b m) (together x _ is (marked_spellable true m xs a))

-- predicates

abbrev TreesSpellable : List Plain → Type 0
TreesSpellable ts = AllByRecursion (λ t. AreSpellable (filter_tokens t)) ts

trees_together : (xs ys : List Plain) → TreesSpellable xs → TreesSpellable ys → TreesSpellable (xs ++ ys)
trees_together [] ys a b = b
trees_together (x ∷ xs) ys (is, a) b = (is, trees_together xs ys a b)

and_spellable : (ts : List Plain) → TreesSpellable ts → EachSpellable (and_members (plains ts))
and_spellable [] a = tt
and_spellable (t ∷ ts) (is, a) = (parens_spellable (is_and_or t) (filter_tokens t) is, and_spellable ts a)

or_spellable : (ts : List Plain) → TreesSpellable ts → EachSpellable (or_members (plains ts))
or_spellable [] a = tt
or_spellable (t ∷ ts) (is, a) = (parens_spellable (is_or t) (filter_tokens t) is, or_spellable ts a)

all_of_spellable : (ts : List Plain) → TreesSpellable ts → AreSpellable (filter_tokens (all_of ts))
all_of_spellable [] a = tt
all_of_spellable (t ∷ []) (is, a) = is
all_of_spellable (t ∷ u ∷ us) a = marked_spellable false mark.And (and_members (plains (t ∷ u ∷ us))) (and_spellable (t ∷ u ∷ us) a)

any_of_spellable : (ts : List Plain) → TreesSpellable ts → AreSpellable (filter_tokens (any_of ts))
any_of_spellable [] a = tt
any_of_spellable (t ∷ []) (is, a) = is
any_of_spellable (t ∷ u ∷ us) a = marked_spellable false mark.Or (or_members (plains (t ∷ u ∷ us))) (or_spellable (t ∷ u ∷ us) a)

atom_spellable : (a : grammar.Atom) → AreSpellable (atom_tokens a) → AreSpellable (filter_tokens (atom_tree a))
atom_spellable (grammar.compare col c s) h = h
atom_spellable (grammar.between col low high) h = h
atom_spellable (grammar.within col front last) h = subst AreSpellable (within_tokens col front last) h
atom_spellable (grammar.like col text) h = together (col_tokens col) _ (apart (col_tokens col) _ h).0 (tt, (tt, tt))

mutual
  pred_spellable : (p : Pred) → AreSpellable (pred_tokens p) → TreesSpellable (conj_trees p)
  pred_spellable (conj c) h = (all_of_spellable (neg_trees c) (conj_spellable c h), tt)
  pred_spellable (or p c) h =
      let r = apart (pred_tokens p) (terminal.Mark mark.Or ∷ conj_tokens c) h in
      trees_together (conj_trees p) (conj_tree c ∷ []) (pred_spellable p r.0) (all_of_spellable (neg_trees c) (conj_spellable c r.1.1), tt)

  conj_spellable : (c : Conj) → AreSpellable (conj_tokens c) → TreesSpellable (neg_trees c)
  conj_spellable (neg n) h = (neg_spellable n h, tt)
  conj_spellable (and c n) h =
      let r = apart (conj_tokens c) (terminal.Mark mark.And ∷ neg_tokens n) h in
      trees_together (neg_trees c) (neg_tree n ∷ []) (conj_spellable c r.0) (neg_spellable n r.1.1, tt)

  neg_spellable : (n : Neg) → AreSpellable (neg_tokens n) → AreSpellable (filter_tokens (neg_tree n))
  neg_spellable (grammar.not n) h = (tt, parens_spellable (is_and_or (neg_tree n)) (filter_tokens (neg_tree n)) (neg_spellable n h.1))
  neg_spellable (parens p) h = any_of_spellable (conj_trees p) (pred_spellable p (apart (pred_tokens p) (terminal.Mark mark.RightParen ∷ []) h.1).0)
  neg_spellable (atom a) h = atom_spellable a h

-- queries

where_spellable : (filter : Option Pred) → AreSpellable (grammar.where_tokens filter) → AreSpellable (where_tokens false (option_map pred_tree filter))
where_spellable None h = tt
where_spellable (Some p) h = (tt, any_of_spellable (conj_trees p) (pred_spellable p h.1))

and_filter_spellable : (filter : Option Conj) → AreSpellable (grammar.and_tokens filter) → AreSpellable (where_tokens true (option_map conj_tree filter))
and_filter_spellable None h = tt
and_filter_spellable (Some c) h = (tt, parens_spellable (is_or (conj_tree c)) (filter_tokens (conj_tree c)) (all_of_spellable (neg_trees c) (conj_spellable c h.1)))

list_spellable : {A : Type 0} → (f : A → List Terminal) (front : List A) (last : A) → AreSpellable (each f front ++ f last) → AreSpellable (joined mark.Comma (map f (front ++ (last ∷ []))))
list_spellable f front last h = subst AreSpellable (sym (joined_each f front last)) h

ending_spellable : (e : Option Ending) → AreSpellable (endings_tokens e) → AreSpellable (tail_tokens (endings_tree e))
ending_spellable None h = tt
ending_spellable (Some (top by direction number)) h =
    let r = apart (col_tokens by) (direction_tokens direction ++ (terminal.Mark mark.Limit ∷ terminal.Number number ∷ [])) h.1.1 in
    let s = apart (direction_tokens direction) (terminal.Mark mark.Limit ∷ terminal.Number number ∷ []) r.1 in
    (tt, (tt, together (col_tokens by) _ r.0 (together (when (is_descending direction) mark.Desc) _ (mark_spellable (is_descending direction) mark.Desc) s.1)))
ending_spellable (Some (group front last having)) h =
    let r = apart (each col_tokens front) (col_tokens last ++ grammar.having_tokens having) h.1.1 in
    let s = apart (col_tokens last) (grammar.having_tokens having) r.1 in
    (tt, (tt, together _ (grammar.having_tokens having) (list_spellable col_tokens front last (together (each col_tokens front) (col_tokens last) r.0 s.0)) s.1))
ending_spellable (Some (skyline front last)) h = (tt, (tt, list_spellable dim_tokens front last h.1.1))

-- items, a source and what stands behind
pieces : (front : List Item) (last : Item) (between x y : List Terminal) → (AreSpellable x → AreSpellable y) → AreSpellable ((items_tokens front last ++ between) ++ x) →
    AreSpellable (joined mark.Comma (map item_tokens (front ++ (last ∷ []))) ++ (between ++ y))
pieces front last between x y f h =
    let r = apart (items_tokens front last ++ between) x h in
    let s = apart (items_tokens front last) between r.0 in
    together _ (between ++ y) (list_spellable item_tokens front last s.0) (together between y s.1 (f r.1))

-- the same where the source stands in two pieces
pieces_on : (front : List Item) (last : Item) (first second third x y : List Terminal) → (AreSpellable second → AreSpellable third) → (AreSpellable x → AreSpellable y) → AreSpellable (((items_tokens front last ++ first) ++ second) ++ x) →
    AreSpellable (joined mark.Comma (map item_tokens (front ++ (last ∷ []))) ++ ((first ++ third) ++ y))
pieces_on front last first second third x y g f h =
    let r = apart ((items_tokens front last ++ first) ++ second) x h in
    let s = apart (items_tokens front last ++ first) second r.0 in
    let t = apart (items_tokens front last) first s.0 in
    together _ ((first ++ third) ++ y) (list_spellable item_tokens front last t.0) (together (first ++ third) y (together first third t.1 (g s.1)) (f r.1))

abbrev joined_on : List ℕ → ColumnRef → ColumnRef → List Terminal
joined_on right first_on second_on = terminal.Mark mark.Join ∷ terminal.Name right ∷ terminal.Mark mark.On ∷ (col_tokens first_on ++ (terminal.Mark mark.Eq ∷ col_tokens second_on))

abbrev inner_select : ColumnRef → ColumnRef → List ℕ → List Terminal
inner_select key inner_key inner = terminal.Mark mark.Where ∷ (col_tokens key ++ (terminal.Mark mark.In ∷ in_parens true (terminal.Mark mark.Select ∷ (col_tokens inner_key ++ (terminal.Mark mark.From ∷ terminal.Name inner ∷ [])))))

inner_spellable : (key inner_key : ColumnRef) (inner : List ℕ) →
    AreSpellable (terminal.Mark mark.Where ∷ (col_tokens key ++ (terminal.Mark mark.In ∷ terminal.Mark mark.LeftParen ∷ terminal.Mark mark.Select ∷ (col_tokens inner_key ++ (terminal.Mark mark.From ∷ terminal.Name inner ∷ terminal.Mark mark.RightParen ∷ []))))) →
    AreSpellable (inner_select key inner_key inner)
inner_spellable key inner_key inner h =
    subst (λ v. AreSpellable (terminal.Mark mark.Where ∷ (col_tokens key ++ (terminal.Mark mark.In ∷ terminal.Mark mark.LeftParen ∷ terminal.Mark mark.Select ∷ v)))) (closed (col_tokens inner_key) inner) h

pub form_spellable : (form : Form) → AreSpellable (form_tokens form) → AreSpellable (printed_tokens (form_tree form))
unfolding printed_tokens
form_spellable (grammar.distinct front last table filter) h =
    (tt, (tt, pieces front last (terminal.Mark mark.From ∷ terminal.Name table ∷ []) _ _ (λ f. together _ [] (where_spellable filter f) tt) h.1.1))
form_spellable (grammar.join front last left right first_on second_on filter) h =
    (tt, pieces_on front last (terminal.Mark mark.From ∷ terminal.Name left ∷ []) (joined_on right first_on second_on) (joined_on right first_on second_on) _ _ (λ s. s) (λ f. together _ [] (where_spellable filter f) tt) h.1)
form_spellable (grammar.semi front last outer key inner_key inner filter) h =
    (tt, pieces_on front last (terminal.Mark mark.From ∷ terminal.Name outer ∷ []) _ (inner_select key inner_key inner) _ _ (inner_spellable key inner_key inner) (λ f. together _ [] (and_filter_spellable filter f) tt) h.1)
form_spellable (grammar.one front last table filter ending) h =
    (tt, pieces front last (terminal.Mark mark.From ∷ terminal.Name table ∷ []) _ _ (λ f. let r = apart (grammar.where_tokens filter) (endings_tokens ending) f in together _ _ (where_spellable filter r.0) (ending_spellable ending r.1)) h.1)

-- tokens as the lexer makes them

word_spellable : (w : List ℕ) (o : Option Mark) → is_word w ≡ true → IsSpellable (word_terminal o w)
word_spellable w (Some m) is = tt
word_spellable w None is = λ e. (let f = ap is_word e in cc)

terminal_spellable : (t : Token) → IsToken t → IsSpellable (terminal_of t)
terminal_spellable (token.Word w) is = word_spellable w (keyword_of w) is
terminal_spellable (token.Quoted name) is = is
terminal_spellable (token.Number n) is = is
terminal_spellable (token.Text text) is = tt
terminal_spellable (token.Symbol s) is = tt

toks_spellable : (ts : List Token) → AllByRecursion IsToken ts → AreSpellable (map terminal_of ts)
toks_spellable [] all = tt
toks_spellable (t ∷ ts) (is, all) = (terminal_spellable t is, toks_spellable ts all)

query_spellable : (tokens : List Terminal) (form : Form) → (tokens ≡ form_tokens form) ⊎ (tokens ≡ form_tokens form ++ (terminal.Mark mark.Semicolon ∷ [])) → AreSpellable tokens → AreSpellable (printed_tokens (form_tree form))
query_spellable tokens form (inl e) h = form_spellable form (subst AreSpellable e h)
query_spellable tokens form (inr e) h = form_spellable form (apart (form_tokens form) _ (subst AreSpellable e h)).0

spelled_again : (tokens : List Token) (form : Form) (q : Select) → All IsToken tokens → (map terminal_of tokens ≡ form_tokens form) ⊎ (map terminal_of tokens ≡ form_tokens form ++ (terminal.Mark mark.Semicolon ∷ [])) → q ≡ form_tree form →
    All IsSpellable (printed_tokens q)
spelled_again tokens form q all s e =
    All-from_recursion IsSpellable (printed_tokens q) (subst (λ t. AreSpellable (printed_tokens t)) (sym e) (query_spellable (map terminal_of tokens) form s (toks_spellable tokens (recursion_from_All IsToken tokens all))))

pub read_again : (tokens : List Token) (q : Select) → All IsToken tokens → IsQueryWithin (seen tokens) q → IsQueryText (query_text q) → Spells (query_text q) q
read_again tokens q all h short =
    let spelled = spelled_again tokens h.form q all h.spelled h.stands_for in
    record {
      tokens = text_tokens q;
      short = short;
      lexed = (scans_tokens (query_text q) (Ok (text_tokens q)) short (lexed (printed_tokens q) spelled)).1;
      derived = subst (λ ts. IsQueryWithin ts q) (sym (all_seen (printed_tokens q))) (derived_within (map terminal_of tokens) q h);
    }
