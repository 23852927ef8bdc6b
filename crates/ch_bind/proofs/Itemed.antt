-- The items of a query that is parsed are no more than its tokens.
use Rattle.std.proofs.Common.{◌≡◌, ap, refl, ℕ, suc, ◌≤◌, ◌<◌, ◌^◌, List, [], ◌∷◌, ◌++◌, length, ◌⊎◌, inl, inr, arith, length-append}
use Rattle.ch_sql_tokens.specs.declared.token.Token.{Token}
use Rattle.ch_sql_limits.specs.Texts.{seen}
use Rattle.ch_sql_limits.proofs.Within.{without_limits}
use Rattle.ch_sql.specs.Parsed.{IsParsed}
use Rattle.ch_sql_grammar.specs.declared.terminal.Mark.TheVariants as mark
use Rattle.ch_sql_grammar.specs.declared.terminal.Terminal.{Terminal}
use Rattle.ch_sql_grammar.specs.declared.terminal.Terminal.TheVariants as terminal
use Rattle.ch_sql_grammar.specs.declared.query.Item.{Item}
use Rattle.ch_sql_grammar.specs.declared.query.Item.TheVariants as item
use Rattle.ch_sql_grammar.specs.Tree.{Select}
use Rattle.ch_sql_grammar.specs.Grammar as grammar
use Rattle.ch_sql_grammar.specs.Grammar.{Form, IsQuery, qualifier, col_tokens, each, item_tokens, where_tokens, and_tokens, endings_tokens, one_tokens, distinct_tokens, join_tokens, semi_tokens, form_tokens, form_tree}

item_some : (i : Item) → 1 ≤ length (item_tokens i)
item_some item.Star = omega arith
item_some (item.Column col) = omega (arith, length-append (qualifier col.table) (terminal.Name col.name ∷ []))
item_some (item.Max col) = omega arith
item_some (item.Min col) = omega arith

items_few : (front : List Item) (last : Item) → length (front ++ (last ∷ [])) ≤ length (grammar.items_tokens front last)
items_few [] last = item_some last
items_few (x ∷ xs) last = omega (
  arith,
  item_some x,
  items_few xs last,
  length-append (item_tokens x ++ (terminal.Mark mark.Comma ∷ each item_tokens xs)) (item_tokens last),
  length-append (item_tokens x) (terminal.Mark mark.Comma ∷ each item_tokens xs),
  length-append (each item_tokens xs) (item_tokens last),
)

heads_few : (front : List Item) (last : Item) (table : List ℕ) → length (front ++ (last ∷ [])) ≤ length (one_tokens front last table)
heads_few front last table = omega (arith, items_few front last, length-append (grammar.items_tokens front last) (terminal.Mark mark.From ∷ terminal.Name table ∷ []))

form_few : (form : Form) → length (form_tree form).items ≤ length (form_tokens form)
form_few (grammar.distinct front last table filter) = omega (arith, heads_few front last table, length-append (distinct_tokens front last table) (where_tokens filter))
form_few (grammar.join front last left right first_on second_on filter) =
    let joined = terminal.Mark mark.Join ∷ terminal.Name right ∷ terminal.Mark mark.On ∷ (col_tokens first_on ++ (terminal.Mark mark.Eq ∷ col_tokens second_on)) in
    omega (arith, heads_few front last left, length-append (join_tokens front last left right first_on second_on) (where_tokens filter), length-append (one_tokens front last left) joined)
form_few (grammar.semi front last outer key inner_key inner filter) =
    let inside = terminal.Mark mark.In ∷ terminal.Mark mark.LeftParen ∷ terminal.Mark mark.Select ∷ (col_tokens inner_key ++ (terminal.Mark mark.From ∷ terminal.Name inner ∷ terminal.Mark mark.RightParen ∷ [])) in
    omega (
      arith,
      heads_few front last outer,
      length-append (semi_tokens front last outer key inner_key inner) (and_tokens filter),
      length-append (one_tokens front last outer) (terminal.Mark mark.Where ∷ (col_tokens key ++ inside)),
    )
form_few (grammar.one front last table filter ending) = omega (arith, heads_few front last table, length-append (one_tokens front last table) (where_tokens filter ++ endings_tokens ending))

spelled_few : (tokens : List Terminal) (form : Form) → (tokens ≡ form_tokens form) ⊎ (tokens ≡ form_tokens form ++ (terminal.Mark mark.Semicolon ∷ [])) → length (form_tree form).items ≤ length tokens
spelled_few tokens form (inl e) = omega (arith, form_few form, ap length e)
spelled_few tokens form (inr e) = omega (arith, form_few form, ap length e, length-append (form_tokens form) (terminal.Mark mark.Semicolon ∷ []))

pub derived_items : (tokens : List Terminal) (q : Select) → IsQuery tokens q → length q.items ≤ length tokens
derived_items tokens q is = omega (arith, spelled_few tokens is.form is.spelled, ap (λ (t : Select). length t.items) is.stands_for)

seen_length : (tokens : List Token) → length (seen tokens) ≡ length tokens
seen_length [] = refl
seen_length (t ∷ ts) = ap suc (seen_length ts)

pub parsed_items : (q : Select) → IsParsed q → length q.items < 2 ^ 32
parsed_items q p =
    let few = p.few in
    let h = derived_items (seen p.tokens) q (without_limits (seen p.tokens) q p.derived) in
    omega (arith, seen_length p.tokens)
