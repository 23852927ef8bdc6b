-- The refusals, in words of the grammar and of the limits.
use Rattle.std.specs.Prelude.{ℕ, ◌+◌, ◌≤◌, ◌≡◌, ◌⊎◌, Bool, true, false, List, [], ◌∷◌, ◌++◌, length, Option, Some, None}
use Rattle.ch_sql_grammar.specs.declared.limits.TheConstants.{MAX_DEPTH, MAX_LITERALS}
use Rattle.ch_sql_grammar.specs.declared.terminal.Mark.TheVariants as mark
use Rattle.ch_sql_grammar.specs.declared.terminal.Terminal.{Terminal}
use Rattle.ch_sql_grammar.specs.declared.terminal.Terminal.TheVariants as terminal
use Rattle.ch_sql_grammar.specs.declared.query.ColumnRef.{ColumnRef}
use Rattle.ch_sql_grammar.specs.declared.error.ParseError.{ParseError}
use Rattle.ch_sql_grammar.specs.declared.error.ParseError.TheVariants as error
use Rattle.ch_pred.specs.declared.pred.Literal.{Literal}
use Rattle.ch_sql_grammar.specs.Grammar as grammar
use Rattle.ch_sql_grammar.specs.Grammar.{Pred, Conj, Form, IsForm, Begins, IsEnd, col_tokens, literal_token, listed_tokens, pred_tokens, conj_tokens, distinct_tokens, join_tokens, semi_tokens, one_tokens}
use Rattle.ch_sql_places.specs.Machine.{is_pattern}

-- the tokens of a form up to its filter
abbrev pub before_filter : Form → List Terminal
before_filter (grammar.distinct front last table filter) = distinct_tokens front last table ++ (terminal.Mark mark.Where ∷ [])
before_filter (grammar.join front last left right first_on second_on filter) = join_tokens front last left right first_on second_on ++ (terminal.Mark mark.Where ∷ [])
before_filter (grammar.semi front last outer key inner_key inner filter) = semi_tokens front last outer key inner_key inner ++ (terminal.Mark mark.And ∷ [])
before_filter (grammar.one front last table filter ending) = one_tokens front last table ++ (terminal.Mark mark.Where ∷ [])

mutual
  -- what stands before a neg: finished conjs with an OR behind them and negs with an AND, or a NOT
  pub data Open : Type 0 where
    behind : (around : OpenPred) (conjs : Option Pred) (negs : Option Conj) → Open
    negated : (around : Open) → Open

  -- what stands before a pred: the tokens of a form up to its filter, or a parenthesis
  pub data OpenPred : Type 0 where
    filter_of : (form : Form) → OpenPred
    grouped : (around : Open) → OpenPred

abbrev pub ors_tokens : Option Pred → List Terminal
ors_tokens None = []
ors_tokens (Some p) = pred_tokens p ++ (terminal.Mark mark.Or ∷ [])

abbrev pub ands_tokens : Option Conj → List Terminal
ands_tokens None = []
ands_tokens (Some c) = conj_tokens c ++ (terminal.Mark mark.And ∷ [])

abbrev mutual
  pub open_tokens : Open → List Terminal
  open_tokens (behind around conjs negs) = (open_pred_tokens around ++ ors_tokens conjs) ++ ands_tokens negs
  open_tokens (negated around) = open_tokens around ++ (terminal.Mark mark.Not ∷ [])

  pub open_pred_tokens : OpenPred → List Terminal
  open_pred_tokens (filter_of form) = before_filter form
  open_pred_tokens (grouped around) = open_tokens around ++ (terminal.Mark mark.LeftParen ∷ [])

-- how many NOT and parentheses are open
abbrev mutual
  pub open_depth : Open → ℕ
  open_depth (behind around conjs negs) = open_pred_depth around
  open_depth (negated around) = open_depth around + 1

  pub open_pred_depth : OpenPred → ℕ
  open_pred_depth (filter_of form) = 0
  open_pred_depth (grouped around) = open_depth around + 1

-- the filter of a semi-join is a conj
abbrev pub has_pred : Form → Bool
has_pred (grammar.distinct front last table filter) = true
has_pred (grammar.join front last left right first_on second_on filter) = true
has_pred (grammar.semi front last outer key inner_key inner filter) = false
has_pred (grammar.one front last table filter ending) = true

abbrev pub may_or : OpenPred → Bool
may_or (filter_of form) = has_pred form
may_or (grouped around) = true

-- only where an OR may come conjs stand before one
abbrev pub OrsFit : Option Pred → Bool → Type 0
OrsFit None b = Unit {0}
OrsFit (Some p) b = b ≡ true

abbrev mutual
  pub IsOpen : Open → Type 0
  IsOpen (behind around conjs negs) = IsOpenPred around × OrsFit conjs (may_or around)
  IsOpen (negated around) = IsOpen around

  pub IsOpenPred : OpenPred → Type 0
  IsOpenPred (filter_of form) = IsForm form
  IsOpenPred (grouped around) = IsOpen around

-- a NOT or a parenthesis of a neg inside 32 others or more
pub record IsDeep (front : List Terminal) (token : Terminal) : Type 0 where
  pub around : Open
  pub is_open : IsOpen around
  pub spelled : front ≡ open_tokens around
  pub deep : MAX_DEPTH ≤ open_depth around
  pub opens : (token ≡ terminal.Mark mark.Not) ⊎ (token ≡ terminal.Mark mark.LeftParen)

-- a literal behind 16 others or more of its list
pub record IsLong (front : List Terminal) (token : Terminal) : Type 0 where
  pub around : Open
  pub is_open : IsOpen around
  pub col : ColumnRef
  pub literals : List Literal
  pub spelled : front ≡ open_tokens around ++ (col_tokens col ++ (terminal.Mark mark.In ∷ terminal.Mark mark.LeftParen ∷ listed_tokens literals))
  pub many : MAX_LITERALS ≤ length literals
  pub value : Literal
  pub lists : token ≡ literal_token value

-- a text behind LIKE that is no prefix and a percent sign
pub record IsUnmatched (front : List Terminal) (token : Terminal) : Type 0 where
  pub around : Open
  pub is_open : IsOpen around
  pub col : ColumnRef
  pub text : List ℕ
  pub spelled : front ≡ open_tokens around ++ (col_tokens col ++ (terminal.Mark mark.Like ∷ []))
  pub matches : token ≡ terminal.Text text
  pub bad : is_pattern text ≡ false

-- behind these tokens, this one breaks a limit
abbrev pub Breaks : List Terminal → Terminal → Type 0
Breaks front token = IsDeep front token ⊎ (IsLong front token ⊎ IsUnmatched front token)

-- none of the tokens breaks a limit
abbrev pub KeepsLimits : List Terminal → Type 0
KeepsLimits tokens = (front : List Terminal) (token : Terminal) (rest : List Terminal) → tokens ≡ front ++ (token ∷ rest) → Breaks front token → ⊥

-- the tokens before keep the limits and begin a query, and with the next one they begin none
pub record IsSyntax (tokens : List Terminal) (at : ℕ) : Type 0 where
  pub front : List Terminal
  pub rest : List Terminal
  pub whole : tokens ≡ front ++ rest
  pub here : at ≡ length front
  pub kept : KeepsLimits front
  pub begins : Begins front
  pub ends : IsEnd front rest

-- the tokens before keep the limits, with the next one they begin a query, and that one breaks a limit
pub record IsLimit (Broken : List Terminal → Terminal → Type 0) (tokens : List Terminal) (at : ℕ) : Type 0 where
  pub front : List Terminal
  pub token : Terminal
  pub rest : List Terminal
  pub whole : tokens ≡ front ++ (token ∷ rest)
  pub here : at ≡ length front
  pub kept : KeepsLimits front
  pub begins : Begins (front ++ (token ∷ []))
  pub broken : Broken front token

abbrev pub IsRefusal : List Terminal → ParseError → Type 0
IsRefusal tokens error.Memory = Unit {0}
IsRefusal tokens (error.Syntax at) = IsSyntax tokens at
IsRefusal tokens (error.TooDeep at) = IsLimit IsDeep tokens at
IsRefusal tokens (error.InTooLong at) = IsLimit IsLong tokens at
IsRefusal tokens (error.BadLike at) = IsLimit IsUnmatched tokens at
