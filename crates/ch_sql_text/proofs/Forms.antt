-- The printed tokens of a query that is derived derive it again, within the limits where it was.
use Rattle.std.proofs.Common.{◌≡◌, ℕ, Bool, true, false, List, [], ◌∷◌, ◌++◌, map, inl, Option, Some, None, option_map, refl, sym, ap, ap₂, ◌∙◌, append_assoc, append-nil, arith}
use Rattle.ch_sql_grammar.specs.declared.terminal.Mark.TheVariants as mark
use Rattle.ch_sql_grammar.specs.declared.terminal.Terminal.{Terminal}
use Rattle.ch_sql_grammar.specs.declared.terminal.Terminal.TheVariants as terminal
use Rattle.ch_sql_grammar.specs.declared.query.ColumnRef.{ColumnRef}
use Rattle.ch_sql_grammar.specs.declared.query.Item.{Item}
use Rattle.ch_sql_grammar.specs.declared.query.Source.{Source}
use Rattle.ch_sql_grammar.specs.declared.query.Source.TheVariants as source
use Rattle.ch_sql_grammar.specs.declared.query.Tail.{Tail}
use Rattle.ch_sql_grammar.specs.declared.query.Tail.TheVariants as tail
use Rattle.ch_sql_grammar.specs.Tree.{Plain, Select}
use Rattle.ch_sql_grammar.specs.Grammar as grammar
use Rattle.ch_sql_grammar.specs.Grammar.{Pred, Conj, Form, IsForm, IsQuery, Direction, unsaid, descending, Ending, top, group, skyline, each, col_tokens, item_tokens, dim_tokens, items_tokens, direction_tokens, endings_tokens, endings_tree, is_descending, form_tokens, form_tree, pred_tree, conj_tree}
use Rattle.ch_sql_limits.specs.Limits.{FilterFits, SemiFilterFits, FitsLimits, IsQueryWithin}
use Rattle.ch_sql_text.specs.Printed.{when, joined, where_tokens, tail_tokens, printed_tokens}
use Rattle.ch_sql_text.proofs.Listing.{joined_each}
use Rattle.ch_sql_text.proofs.Derived.{show_pred, show_conj}

-- filters

record FilterFor (filter : Option Pred) : Type 0 where
  form : Option Pred
  has_tree : option_map pred_tree form ≡ option_map pred_tree filter
  has_tokens : grammar.where_tokens form ≡ where_tokens false (option_map pred_tree filter)
  fits : FilterFits filter → FilterFits form

filter_for : (filter : Option Pred) → FilterFor filter
filter_for None = record { form = None; has_tree = refl; has_tokens = refl; fits = λ h. h }
filter_for (Some p) =
    let s = (show_pred p).as_pred in
    record {
      form = Some s.form;
      has_tree = ap Some s.has_tree;
      has_tokens = ap (λ v. terminal.Mark mark.Where ∷ v) s.has_tokens;
      fits = λ (deep, atoms). (let d = s.has_depth in omega arith, s.fits atoms);
    }

record SemiFilterFor (filter : Option Conj) : Type 0 where
  form : Option Conj
  has_tree : option_map conj_tree form ≡ option_map conj_tree filter
  has_tokens : grammar.and_tokens form ≡ where_tokens true (option_map conj_tree filter)
  fits : SemiFilterFits filter → SemiFilterFits form

semi_filter_for : (filter : Option Conj) → SemiFilterFor filter
semi_filter_for None = record { form = None; has_tree = refl; has_tokens = refl; fits = λ h. h }
semi_filter_for (Some c) =
    let s = (show_conj c).as_conj in
    record {
      form = Some s.form;
      has_tree = ap Some s.has_tree;
      has_tokens = ap (λ v. terminal.Mark mark.And ∷ v) s.has_tokens;
      fits = λ (deep, atoms). (let d = s.has_depth in omega arith, s.fits atoms);
    }

-- tails

abbrev said : Bool → Direction
said true = descending
said false = unsaid

said_tree : (b : Bool) → is_descending (said b) ≡ b
said_tree true = refl
said_tree false = refl

said_tokens : (b : Bool) → direction_tokens (said b) ≡ when b mark.Desc
said_tokens true = refl
said_tokens false = refl

record EndingFor (ending : Option Ending) : Type 0 where
  form : Option Ending
  has_tree : endings_tree form ≡ endings_tree ending
  has_tokens : endings_tokens form ≡ tail_tokens (endings_tree ending)

ending_for : (ending : Option Ending) → EndingFor ending
ending_for None = record { form = None; has_tree = refl; has_tokens = refl }
ending_for (Some (top by direction number)) = record {
  form = Some (top by (said (is_descending direction)) number);
  has_tree = ap (λ b. tail.Top by b number) (said_tree (is_descending direction));
  has_tokens = ap (λ v. terminal.Mark mark.Order ∷ terminal.Mark mark.By ∷ (col_tokens by ++ (v ++ (terminal.Mark mark.Limit ∷ terminal.Number number ∷ [])))) (said_tokens (is_descending direction));
}
ending_for (Some (group front last having)) = record {
  form = Some (group front last having);
  has_tree = refl;
  has_tokens = ap (λ v. terminal.Mark mark.Group ∷ terminal.Mark mark.By ∷ v) (sym (append_assoc (each col_tokens front) (col_tokens last) (grammar.having_tokens having)) ∙ ap (λ v. v ++ grammar.having_tokens having) (sym (joined_each col_tokens front last)));
}
ending_for (Some (skyline front last)) = record {
  form = Some (skyline front last);
  has_tree = refl;
  has_tokens = ap (λ v. terminal.Mark mark.Skyline ∷ terminal.Mark mark.Of ∷ v) (sym (joined_each dim_tokens front last));
}

-- queries

-- how a derived query is printed
pub record Printed (form : Form) : Type 0 where
  pub printed : Form
  pub is_form : IsForm printed
  pub has_tree : form_tree printed ≡ form_tree form
  pub has_tokens : form_tokens printed ≡ printed_tokens (form_tree form)
  pub fits : FitsLimits form → FitsLimits printed

abbrev selected : Bool → List Item → Source → Option Plain → Tail → Select
selected distinct items source filter t = record { distinct = distinct; items = items; source = source; filter = filter; tail = t }

-- the items, the source, and what stands behind
laid : (front : List Item) (last : Item) (between x y : List Terminal) → x ≡ y → (items_tokens front last ++ between) ++ x ≡ joined mark.Comma (map item_tokens (front ++ (last ∷ []))) ++ (between ++ y)
laid front last between x y e =
    append_assoc (items_tokens front last) between x ∙ ap₂ (λ v w. v ++ (between ++ w)) (sym (joined_each item_tokens front last)) e

-- the same where the source stands in two pieces
laid_on : (front : List Item) (last : Item) (first second x y : List Terminal) → x ≡ y → ((items_tokens front last ++ first) ++ second) ++ x ≡ joined mark.Comma (map item_tokens (front ++ (last ∷ []))) ++ ((first ++ second) ++ y)
laid_on front last first second x y e = ap (λ v. v ++ x) (append_assoc (items_tokens front last) first second) ∙ laid front last (first ++ second) x y e

print_distinct : (front : List Item) (last : Item) (table : List ℕ) (filter : Option Pred) → IsForm (grammar.distinct front last table filter) → Printed (grammar.distinct front last table filter)
unfolding printed_tokens
print_distinct front last table filter is =
    let f = filter_for filter in
    record {
      printed = grammar.distinct front last table f.form;
      is_form = is;
      has_tree = ap (λ v. selected true (front ++ (last ∷ [])) (source.One table) v tail.Nothing) f.has_tree;
      has_tokens = ap (λ v. terminal.Mark mark.Select ∷ terminal.Mark mark.Distinct ∷ v) (laid front last (terminal.Mark mark.From ∷ terminal.Name table ∷ []) _ _ (f.has_tokens ∙ sym (append-nil _)));
      fits = f.fits;
    }

print_one : (front : List Item) (last : Item) (table : List ℕ) (filter : Option Pred) (ending : Option Ending) → Printed (grammar.one front last table filter ending)
unfolding printed_tokens
print_one front last table filter ending =
    let f = filter_for filter in
    let e = ending_for ending in
    record {
      printed = grammar.one front last table f.form e.form;
      is_form = tt;
      has_tree = ap₂ (λ v w. selected false (front ++ (last ∷ [])) (source.One table) v w) f.has_tree e.has_tree;
      has_tokens = ap (λ v. terminal.Mark mark.Select ∷ v) (laid front last (terminal.Mark mark.From ∷ terminal.Name table ∷ []) _ _ (ap₂ (λ v w. v ++ w) f.has_tokens e.has_tokens));
      fits = f.fits;
    }

print_join : (front : List Item) (last : Item) (left right : List ℕ) (first_on second_on : ColumnRef) (filter : Option Pred) → Printed (grammar.join front last left right first_on second_on filter)
unfolding printed_tokens
print_join front last left right first_on second_on filter =
    let f = filter_for filter in
    record {
      printed = grammar.join front last left right first_on second_on f.form;
      is_form = tt;
      has_tree = ap (λ v. selected false (front ++ (last ∷ [])) (source.Join left right first_on second_on) v tail.Nothing) f.has_tree;
      has_tokens = ap (λ v. terminal.Mark mark.Select ∷ v) (laid_on front last (terminal.Mark mark.From ∷ terminal.Name left ∷ []) _ _ _ (f.has_tokens ∙ sym (append-nil _)));
      fits = f.fits;
    }

-- the inner select of a semi-join, with its parenthesis
pub closed : (col : List Terminal) (inner : List ℕ) → col ++ (terminal.Mark mark.From ∷ terminal.Name inner ∷ terminal.Mark mark.RightParen ∷ []) ≡ (col ++ (terminal.Mark mark.From ∷ terminal.Name inner ∷ [])) ++ (terminal.Mark mark.RightParen ∷ [])
closed col inner = sym (append_assoc col (terminal.Mark mark.From ∷ terminal.Name inner ∷ []) (terminal.Mark mark.RightParen ∷ []))

print_semi : (front : List Item) (last : Item) (outer : List ℕ) (key inner_key : ColumnRef) (inner : List ℕ) (filter : Option Conj) →
    IsForm (grammar.semi front last outer key inner_key inner filter) → Printed (grammar.semi front last outer key inner_key inner filter)
unfolding printed_tokens
print_semi front last outer key inner_key inner filter is =
    let f = semi_filter_for filter in
    record {
      printed = grammar.semi front last outer key inner_key inner f.form;
      is_form = is;
      has_tree = ap (λ v. selected false (front ++ (last ∷ [])) (source.Semi outer inner key inner_key) v tail.Nothing) f.has_tree;
      has_tokens =
          ap (λ v. terminal.Mark mark.Select ∷ v) (laid_on front last (terminal.Mark mark.From ∷ terminal.Name outer ∷ []) _ _ _ (f.has_tokens ∙ sym (append-nil _)))
          ∙ ap (λ v. terminal.Mark mark.Select ∷ (joined mark.Comma (map item_tokens (front ++ (last ∷ []))) ++ ((terminal.Mark mark.From ∷ terminal.Name outer ∷ terminal.Mark mark.Where ∷ (col_tokens key ++ (terminal.Mark mark.In ∷ terminal.Mark mark.LeftParen ∷ terminal.Mark mark.Select ∷ v))) ++ (where_tokens true (option_map conj_tree filter) ++ []))))
          (closed (col_tokens inner_key) inner);
      fits = f.fits;
    }

pub printed_form : (form : Form) → IsForm form → Printed form
printed_form (grammar.distinct front last table filter) is = print_distinct front last table filter is
printed_form (grammar.join front last left right first_on second_on filter) is = print_join front last left right first_on second_on filter
printed_form (grammar.semi front last outer key inner_key inner filter) is = print_semi front last outer key inner_key inner filter is
printed_form (grammar.one front last table filter ending) is = print_one front last table filter ending

pub derived : (tokens : List Terminal) (q : Select) → IsQuery tokens q → IsQuery (printed_tokens q) q
derived tokens q h =
    let p = printed_form h.form h.is_form in
    record { form = p.printed; is_form = p.is_form; spelled = inl (ap printed_tokens h.stands_for ∙ sym p.has_tokens); stands_for = h.stands_for ∙ sym p.has_tree }

pub derived_within : (tokens : List Terminal) (q : Select) → IsQueryWithin tokens q → IsQueryWithin (printed_tokens q) q
derived_within tokens q h =
    let p = printed_form h.form h.is_form in
    record { form = p.printed; is_form = p.is_form; fits = p.fits h.fits; spelled = inl (ap printed_tokens h.stands_for ∙ sym p.has_tokens); stands_for = h.stands_for ∙ sym p.has_tree }
