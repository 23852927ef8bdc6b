-- The lists of a query's filter are no longer than the query's tokens.
use Rattle.std.proofs.Common.{◌≡◌, ap, sym, refl, subst, suc, ◌<◌, ◌≤◌, ◌^◌, List, [], ◌∷◌, ◌++◌, length, length-append, Option, Some, None, option_map, inl, inr, arith}
use Rattle.std.proofs.lemmas.List.{length-map}
use Rattle.ch_bind.specs.Binding.{filter_of, pred_of, preds_of}
use Rattle.ch_bind.specs.Scope.{scope_of}
use Rattle.ch_bind.specs.declared.TableShape.{TableShape}
use Rattle.ch_pred.specs.declared.pred.Literal.{Literal}
use Rattle.ch_sql.specs.Parsed.{IsParsed}
use Rattle.ch_sql_grammar.specs.Grammar as grammar
use Rattle.ch_sql_grammar.specs.Grammar.{Conj, Form, Neg, Pred, and, and_tokens, atom, atom_tokens, atom_tree, col_tokens, conj, conj_tokens, conj_tree, conj_trees, distinct_tokens, endings_tokens, form_tokens, form_tree, join_tokens, listed_tokens, literal_token, neg, neg_tokens, neg_tree, neg_trees, not, one_tokens, or, parens, pred_tokens, pred_tree, qualifier, semi_tokens, where_tokens}
use Rattle.ch_sql_grammar.specs.Tokens.{terminal_of}
use Rattle.ch_sql_grammar.specs.Tree.{Plain, Select, all_of, any_of, plains}
use Rattle.ch_sql_grammar.specs.declared.query.ColumnRef.{ColumnRef}
use Rattle.ch_sql_grammar.specs.declared.query.Source.{Source}
use Rattle.ch_sql_grammar.specs.declared.terminal.Mark.TheVariants as mark
use Rattle.ch_sql_grammar.specs.declared.terminal.Terminal.TheVariants as terminal
use Rattle.cheetah_inputs_laws.proofs.Boxed.{AreShort, IsShort, members_of}

-- ---- as many trees as tokens at most

col_some : (col : ColumnRef) → 1 ≤ length (col_tokens col)
col_some col = omega (arith, length-append (qualifier col.table) (terminal.Name col.name ∷ []))

listed_few : (vs : List Literal) → length vs ≤ length (listed_tokens vs)
listed_few [] = omega arith
listed_few (v ∷ vs) = omega (arith, listed_few vs)

pub within_few : (col : ColumnRef) (front : List Literal) (last : Literal) → length (front ++ (last ∷ [])) ≤ length (atom_tokens (grammar.within col front last))
within_few col front last = omega (
  arith,
  listed_few front,
  length-append front (last ∷ []),
  length-append (col_tokens col) (terminal.Mark mark.In ∷ terminal.Mark mark.LeftParen ∷ (listed_tokens front ++ (literal_token last ∷ terminal.Mark mark.RightParen ∷ []))),
  length-append (listed_tokens front) (literal_token last ∷ terminal.Mark mark.RightParen ∷ []),
)

atom_some : (a : grammar.Atom) → 1 ≤ length (atom_tokens a)
atom_some (grammar.compare col c s) = omega (arith, col_some col, length-append (col_tokens col) (terminal.Mark (grammar.cmp_mark c) ∷ grammar.side_tokens s))
atom_some (grammar.between col low high) = omega (arith, col_some col, length-append (col_tokens col) (terminal.Mark mark.Between ∷ literal_token low ∷ terminal.Mark mark.And ∷ literal_token high ∷ []))
atom_some (grammar.within col front last) = omega (arith, within_few col front last, length-append front (last ∷ []))
atom_some (grammar.like col text) = omega (arith, col_some col, length-append (col_tokens col) (terminal.Mark mark.Like ∷ terminal.Text text ∷ []))

neg_some : (n : Neg) → 1 ≤ length (neg_tokens n)
neg_some (not n) = omega arith
neg_some (parens p) = omega arith
neg_some (atom a) = atom_some a

negs_few : (c : Conj) → length (neg_trees c) ≤ length (conj_tokens c)
negs_few (neg n) = omega (arith, neg_some n)
negs_few (and c n) = omega (arith, negs_few c, length-append (neg_trees c) (neg_tree n ∷ []), length-append (conj_tokens c) (terminal.Mark mark.And ∷ neg_tokens n))

conj_some : (c : Conj) → 1 ≤ length (conj_tokens c)
conj_some (neg n) = neg_some n
conj_some (and c n) = omega (arith, length-append (conj_tokens c) (terminal.Mark mark.And ∷ neg_tokens n))

conjs_few : (p : Pred) → length (conj_trees p) ≤ length (pred_tokens p)
conjs_few (conj c) = omega (arith, conj_some c)
conjs_few (or p c) = omega (arith, conjs_few p, length-append (conj_trees p) (all_of (neg_trees c) ∷ []), length-append (pred_tokens p) (terminal.Mark mark.Or ∷ conj_tokens c))

-- ---- the bound tree

module _ (source : Source) (shapes : List TableShape) where
  abbrev Short : List Plain → Type 0
  Short ts = AreShort (preds_of (scope_of source shapes) (plains ts))

  counted : (ts : List Plain) → members_of (preds_of (scope_of source shapes) (plains ts)) ≡ length ts
  counted [] = refl
  counted (t ∷ ts) = ap suc (counted ts)

  short_append : (ts us : List Plain) → Short ts → Short us → Short (ts ++ us)
  short_append [] us a b = b
  short_append (t ∷ ts) us a b = (a.0, short_append ts us a.1 b)

  all_short : (ts : List Plain) → length ts < 2 ^ 63 → Short ts → IsShort (pred_of (scope_of source shapes) (all_of ts))
  all_short [] few short = (few, short)
  all_short (t ∷ []) few short = short.0
  all_short (t ∷ u ∷ ts) few short = (let count = counted (t ∷ u ∷ ts) in omega (arith, count, few), short)

  any_short : (ts : List Plain) → length ts < 2 ^ 63 → Short ts → IsShort (pred_of (scope_of source shapes) (any_of ts))
  any_short [] few short = (few, short)
  any_short (t ∷ []) few short = short.0
  any_short (t ∷ u ∷ ts) few short = (let count = counted (t ∷ u ∷ ts) in omega (arith, count, few), short)

  atom_short : (a : grammar.Atom) → length (atom_tokens a) < 2 ^ 63 → IsShort (pred_of (scope_of source shapes) (atom_tree a))
  atom_short (grammar.compare col c s) few = tt
  atom_short (grammar.between col low high) few = tt
  atom_short (grammar.within col front last) few = omega (arith, few, within_few col front last)
  atom_short (grammar.like col text) few = tt

  conj_by : (c : Conj) → length (conj_tokens c) < 2 ^ 63 → Short (neg_trees c) → IsShort (pred_of (scope_of source shapes) (all_of (neg_trees c)))
  conj_by c few short = all_short (neg_trees c) (omega (arith, few, negs_few c)) short

  mutual
    conjs_short : (p : Pred) → length (pred_tokens p) < 2 ^ 63 → Short (conj_trees p)
    conjs_short (conj c) few = (conj_by c few (negs_short c few), tt)
    conjs_short (or p c) few =
        let size = length-append (pred_tokens p) (terminal.Mark mark.Or ∷ conj_tokens c) in
        let last : length (conj_tokens c) < 2 ^ 63 = omega (arith, few, size) in
        short_append (conj_trees p) (all_of (neg_trees c) ∷ []) (conjs_short p (omega (arith, few, size))) (conj_by c last (negs_short c last), tt)

    negs_short : (c : Conj) → length (conj_tokens c) < 2 ^ 63 → Short (neg_trees c)
    negs_short (neg n) few = (neg_short n few, tt)
    negs_short (and c n) few =
        let size = length-append (conj_tokens c) (terminal.Mark mark.And ∷ neg_tokens n) in
        short_append (neg_trees c) (neg_tree n ∷ []) (negs_short c (omega (arith, few, size))) (neg_short n (omega (arith, few, size)), tt)

    neg_short : (n : Neg) → length (neg_tokens n) < 2 ^ 63 → IsShort (pred_of (scope_of source shapes) (neg_tree n))
    neg_short (not n) few = neg_short n (omega (arith, few))
    neg_short (parens p) few =
        let size = length-append (pred_tokens p) (terminal.Mark mark.RightParen ∷ []) in
        let less : length (pred_tokens p) < 2 ^ 63 = omega (arith, few, size) in
        any_short (conj_trees p) (omega (arith, less, conjs_few p)) (conjs_short p less)
    neg_short (atom a) few = atom_short a few

  where_short : (filter : Option Pred) → length (where_tokens filter) < 2 ^ 63 → IsShort (filter_of (scope_of source shapes) (option_map pred_tree filter))
  where_short None few = tt
  where_short (Some p) few =
      let less : length (pred_tokens p) < 2 ^ 63 = omega (arith, few) in any_short (conj_trees p) (omega (arith, less, conjs_few p)) (conjs_short p less)

  and_short : (filter : Option Conj) → length (and_tokens filter) < 2 ^ 63 → IsShort (filter_of (scope_of source shapes) (option_map conj_tree filter))
  and_short None few = tt
  and_short (Some c) few = let less : length (conj_tokens c) < 2 ^ 63 = omega (arith, few) in conj_by c less (negs_short c less)

  form_short : (form : Form) → length (form_tokens form) < 2 ^ 63 → IsShort (filter_of (scope_of source shapes) (form_tree form).filter)
  form_short (grammar.distinct front last table filter) few = where_short filter (omega (arith, few, length-append (distinct_tokens front last table) (where_tokens filter)))
  form_short (grammar.join front last left right first_on second_on filter) few =
      where_short filter (omega (arith, few, length-append (join_tokens front last left right first_on second_on) (where_tokens filter)))
  form_short (grammar.semi front last outer key inner_key inner filter) few =
      and_short filter (omega (arith, few, length-append (semi_tokens front last outer key inner_key inner) (and_tokens filter)))
  form_short (grammar.one front last table filter ending) few =
      where_short filter (omega (
        arith,
        few,
        length-append (one_tokens front last table) (where_tokens filter ++ endings_tokens ending),
        length-append (where_tokens filter) (endings_tokens ending),
      ))

  pub filter_short : (q : Select) → IsParsed q → IsShort (filter_of (scope_of source shapes) q.filter)
  filter_short q parsed =
      let form = parsed.derived.form in
      let count = length-map parsed.tokens terminal_of in
      let few = parsed.few in
      let less : length (form_tokens form) < 2 ^ 63 = elim parsed.derived.spelled [
        | inl e ↦ let size = ap length e in omega (arith, few, count, size)
        | inr e ↦ let size = ap length e in let more = length-append (form_tokens form) (terminal.Mark mark.Semicolon ∷ []) in omega (arith, few, count, size, more)
      ] in
      subst (λ (s : Select). IsShort (filter_of (scope_of source shapes) s.filter)) (sym parsed.derived.stands_for) (form_short form less)
