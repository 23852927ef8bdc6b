-- The derivations within the limits.
use Rattle.std.specs.Prelude.{ℕ, ◌+◌, ◌≤◌, ◌≡◌, max, true, List, [], ◌∷◌, ◌++◌, length, ◌⊎◌, Option, Some, None}
use Rattle.ch_sql_grammar.specs.declared.limits.TheConstants.{MAX_DEPTH, MAX_LITERALS}
use Rattle.ch_sql_grammar.specs.declared.terminal.Mark.TheVariants as mark
use Rattle.ch_sql_grammar.specs.declared.terminal.Terminal.{Terminal}
use Rattle.ch_sql_grammar.specs.declared.terminal.Terminal.TheVariants as terminal
use Rattle.ch_sql_grammar.specs.Tree.{Select}
use Rattle.ch_sql_grammar.specs.Grammar as grammar
use Rattle.ch_sql_grammar.specs.Grammar.{Pred, conj, or, Conj, neg, and, Neg, not, parens, atom, Form, IsForm, form_tokens, form_tree}
use Rattle.ch_sql_places.specs.Machine.{is_pattern}

-- how many NOT and parentheses stand inside each other
abbrev mutual
  pub pred_depth : Pred → ℕ
  pred_depth (conj c) = conj_depth c
  pred_depth (or p c) = max (pred_depth p) (conj_depth c)

  pub conj_depth : Conj → ℕ
  conj_depth (neg n) = neg_depth n
  conj_depth (and c n) = max (conj_depth c) (neg_depth n)

  pub neg_depth : Neg → ℕ
  neg_depth (not n) = neg_depth n + 1
  neg_depth (parens p) = pred_depth p + 1
  neg_depth (atom a) = 0

-- a list has at most 16 literals, and a LIKE text ends in its only %, without a _
abbrev pub AtomFits : grammar.Atom → Type 0
AtomFits (grammar.compare col c s) = Unit {0}
AtomFits (grammar.between col low high) = Unit {0}
AtomFits (grammar.within col front last) = length (front ++ (last ∷ [])) ≤ MAX_LITERALS
AtomFits (grammar.like col text) = is_pattern text ≡ true

-- each atom fits
abbrev mutual
  pub PredAtomsFit : Pred → Type 0
  PredAtomsFit (conj c) = ConjAtomsFit c
  PredAtomsFit (or p c) = PredAtomsFit p × ConjAtomsFit c

  pub ConjAtomsFit : Conj → Type 0
  ConjAtomsFit (neg n) = NegAtomsFit n
  ConjAtomsFit (and c n) = ConjAtomsFit c × NegAtomsFit n

  pub NegAtomsFit : Neg → Type 0
  NegAtomsFit (not n) = NegAtomsFit n
  NegAtomsFit (parens p) = PredAtomsFit p
  NegAtomsFit (atom a) = AtomFits a

-- at most 32 NOT and parentheses inside each other
abbrev pub PredFits : Pred → Type 0
PredFits p = (pred_depth p ≤ MAX_DEPTH) × PredAtomsFit p

abbrev pub ConjFits : Conj → Type 0
ConjFits c = (conj_depth c ≤ MAX_DEPTH) × ConjAtomsFit c

abbrev pub FilterFits : Option Pred → Type 0
FilterFits None = Unit {0}
FilterFits (Some p) = PredFits p

abbrev pub SemiFilterFits : Option Conj → Type 0
SemiFilterFits None = Unit {0}
SemiFilterFits (Some c) = ConjFits c

abbrev pub FitsLimits : Form → Type 0
FitsLimits (grammar.distinct front last table filter) = FilterFits filter
FitsLimits (grammar.join front last left right first_on second_on filter) = FilterFits filter
FitsLimits (grammar.semi front last outer key inner_key inner filter) = SemiFilterFits filter
FitsLimits (grammar.one front last table filter ending) = FilterFits filter

-- these tokens are a query within the limits, with or without a semicolon, which has this tree
pub record IsQueryWithin (tokens : List Terminal) (tree : Select) : Type 0 where
  pub form : Form
  pub is_form : IsForm form
  pub fits : FitsLimits form
  pub spelled : (tokens ≡ form_tokens form) ⊎ (tokens ≡ form_tokens form ++ (terminal.Mark mark.Semicolon ∷ []))
  pub stands_for : tree ≡ form_tree form
