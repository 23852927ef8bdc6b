-- The texts of a query's filter are no more than its tokens.
use Rattle.std.proofs.Common.{◌≡◌, ap, sym, refl, subst, ℕ, ◌+◌, ◌≤◌, List, [], ◌∷◌, ◌++◌, flat_map, length, length-append, Option, Some, None, option_map, inl, inr, arith}
use Rattle.std.proofs.lemmas.List.{length-map}
use Rattle.ch_asked.specs.Texts.{arg_texts, filter_texts, literal_texts, member_texts}
use Rattle.ch_bind.specs.Binding.{arg_of, filter_of, pred_of, preds_of}
use Rattle.ch_bind.specs.Scope.{scope_of}
use Rattle.ch_bind.specs.declared.TableShape.{TableShape}
use Rattle.ch_pred.specs.declared.pred.Literal.{Literal}
use Rattle.ch_pred.specs.declared.pred.Literal.TheVariants as literal
use Rattle.ch_sql.specs.Parsed.{IsParsed}
use Rattle.ch_sql_grammar.specs.Grammar as grammar
use Rattle.ch_sql_grammar.specs.Grammar.{Conj, Form, Neg, Pred, and, and_tokens, atom, atom_tokens, atom_tree, col_tokens, conj, conj_tokens, conj_tree, conj_trees, distinct_tokens, endings_tokens, form_tokens, form_tree, join_tokens, literal_token, neg, neg_tokens, neg_tree, neg_trees, not, one_tokens, or, parens, pred_tokens, pred_tree, semi_tokens, side_tokens, where_tokens}
use Rattle.ch_sql_grammar.specs.Tokens.{terminal_of}
use Rattle.ch_sql_grammar.specs.Tree.{Not, Plain, Select, all_of, any_of, plains}
use Rattle.ch_sql_grammar.specs.declared.query.Side.{Side}
use Rattle.ch_sql_grammar.specs.declared.query.Side.TheVariants as side
use Rattle.ch_sql_grammar.specs.declared.query.Source.{Source}
use Rattle.ch_sql_grammar.specs.declared.terminal.Mark.TheVariants as mark
use Rattle.ch_sql_grammar.specs.declared.terminal.Terminal.TheVariants as terminal
use Rattle.ch_sql_tokens.specs.declared.scanner.TheConstants.{MAX_QUERY_BYTES}
use Rattle.cheetah_inputs_laws.proofs.Short.{within_few}

one_text : (v : Literal) → length (literal_texts v) ≤ 1
one_text (literal.Number n) = omega arith
one_text (literal.Text t) = omega arith

literals_few : (vs : List Literal) → length (flat_map literal_texts vs) ≤ length vs
literals_few [] = omega arith
literals_few (v ∷ vs) = omega (arith, one_text v, literals_few vs, length-append (literal_texts v) (flat_map literal_texts vs))

module _ (source : Source) (shapes : List TableShape) where
  -- how many texts stand in some trees
  texts_in : List Plain → ℕ
  texts_in ts = length (member_texts (preds_of (scope_of source shapes) (plains ts)))

  texts_of : Plain → ℕ
  texts_of t = length (filter_texts (pred_of (scope_of source shapes) t))

  texts_append : (ts us : List Plain) → texts_in (ts ++ us) ≡ texts_in ts + texts_in us
  unfolding texts_in
  texts_append [] us = omega arith
  texts_append (t ∷ ts) us = omega (
    arith,
    texts_append ts us,
    length-append (filter_texts (pred_of (scope_of source shapes) t)) (member_texts (preds_of (scope_of source shapes) (plains (ts ++ us)))),
    length-append (filter_texts (pred_of (scope_of source shapes) t)) (member_texts (preds_of (scope_of source shapes) (plains ts))),
  )

  texts_one : (t : Plain) → texts_in (t ∷ []) ≡ texts_of t
  unfolding texts_in texts_of
  texts_one t = omega (arith, length-append (filter_texts (pred_of (scope_of source shapes) t)) [])

  any_texts : (ts : List Plain) → texts_of (any_of ts) ≡ texts_in ts
  unfolding texts_in texts_of
  any_texts [] = refl
  any_texts (t ∷ []) = sym (texts_one t)
  any_texts (t ∷ u ∷ ts) = refl

  all_texts : (ts : List Plain) → texts_of (all_of ts) ≡ texts_in ts
  unfolding texts_in texts_of
  all_texts [] = refl
  all_texts (t ∷ []) = sym (texts_one t)
  all_texts (t ∷ u ∷ ts) = refl

  side_few : (s : Side) → length (arg_texts (arg_of (scope_of source shapes) s)) ≤ length (side_tokens s)
  side_few (side.Column col) = omega arith
  side_few (side.Value v) = one_text v

  atom_few : (a : grammar.Atom) → texts_of (atom_tree a) ≤ length (atom_tokens a)
  unfolding texts_of
  atom_few (grammar.compare col c s) = omega (arith, side_few s, length-append (col_tokens col) (terminal.Mark (grammar.cmp_mark c) ∷ side_tokens s))
  atom_few (grammar.between col low high) = omega (
    arith,
    one_text low,
    one_text high,
    length-append (literal_texts low) (literal_texts high),
    length-append (col_tokens col) (terminal.Mark mark.Between ∷ literal_token low ∷ terminal.Mark mark.And ∷ literal_token high ∷ []),
  )
  atom_few (grammar.within col front last) = omega (arith, within_few col front last, literals_few (front ++ (last ∷ [])))
  atom_few (grammar.like col text) = omega arith

  not_texts : (t : Plain) → texts_of (Not t) ≡ texts_of t
  unfolding texts_of
  not_texts t = refl

  mutual
    pred_few : (p : Pred) → texts_in (conj_trees p) ≤ length (pred_tokens p)
    pred_few (conj c) = omega (arith, conj_few c, texts_one (all_of (neg_trees c)), all_texts (neg_trees c))
    pred_few (or p c) = omega (
      arith,
      pred_few p,
      conj_few c,
      texts_append (conj_trees p) (all_of (neg_trees c) ∷ []),
      texts_one (all_of (neg_trees c)),
      all_texts (neg_trees c),
      length-append (pred_tokens p) (terminal.Mark mark.Or ∷ conj_tokens c),
    )

    conj_few : (c : Conj) → texts_in (neg_trees c) ≤ length (conj_tokens c)
    conj_few (neg n) = omega (arith, neg_few n, texts_one (neg_tree n))
    conj_few (and c n) = omega (arith, conj_few c, neg_few n, texts_append (neg_trees c) (neg_tree n ∷ []), texts_one (neg_tree n), length-append (conj_tokens c) (terminal.Mark mark.And ∷ neg_tokens n))

    neg_few : (n : Neg) → texts_of (neg_tree n) ≤ length (neg_tokens n)
    neg_few (not n) = omega (arith, neg_few n, not_texts (neg_tree n))
    neg_few (parens p) = omega (arith, pred_few p, any_texts (conj_trees p), length-append (pred_tokens p) (terminal.Mark mark.RightParen ∷ []))
    neg_few (atom a) = atom_few a

  abbrev filtered : Option Plain → ℕ
  filtered filter = length (filter_texts (filter_of (scope_of source shapes) filter))

  some_filter : (t : Plain) → filtered (Some t) ≡ texts_of t
  unfolding texts_of
  some_filter t = refl

  where_few : (filter : Option Pred) → filtered (option_map pred_tree filter) ≤ length (where_tokens filter)
  where_few None = omega arith
  where_few (Some p) = omega (arith, pred_few p, any_texts (conj_trees p), some_filter (any_of (conj_trees p)))

  and_few : (filter : Option Conj) → filtered (option_map conj_tree filter) ≤ length (and_tokens filter)
  and_few None = omega arith
  and_few (Some c) = omega (arith, conj_few c, all_texts (neg_trees c), some_filter (all_of (neg_trees c)))

  form_few : (form : Form) → filtered (form_tree form).filter ≤ length (form_tokens form)
  form_few (grammar.distinct front last table filter) = omega (arith, where_few filter, length-append (distinct_tokens front last table) (where_tokens filter))
  form_few (grammar.join front last left right first_on second_on filter) = omega (arith, where_few filter, length-append (join_tokens front last left right first_on second_on) (where_tokens filter))
  form_few (grammar.semi front last outer key inner_key inner filter) = omega (arith, and_few filter, length-append (semi_tokens front last outer key inner_key inner) (and_tokens filter))
  form_few (grammar.one front last table filter ending) = omega (
    arith,
    where_few filter,
    length-append (one_tokens front last table) (where_tokens filter ++ endings_tokens ending),
    length-append (where_tokens filter) (endings_tokens ending),
  )

  pub filter_few : (q : Select) → IsParsed q → length (filter_texts (filter_of (scope_of source shapes) q.filter)) ≤ MAX_QUERY_BYTES
  filter_few q parsed =
      let form = parsed.derived.form in
      let count = length-map parsed.tokens terminal_of in
      let few = parsed.few in
      let here = form_few form in
      let less : filtered (form_tree form).filter ≤ MAX_QUERY_BYTES = elim parsed.derived.spelled [
        | inl e ↦ let size = ap length e in omega (arith, few, count, size, here)
        | inr e ↦ let size = ap length e in let more = length-append (form_tokens form) (terminal.Mark mark.Semicolon ∷ []) in omega (arith, few, count, size, more, here)
      ] in
      subst (λ (s : Select). filtered s.filter ≤ MAX_QUERY_BYTES) (sym parsed.derived.stands_for) less
