-- Tokens are walked from place to place, over any fold.
use Rattle.std.proofs.Common.{◌≡◌, ℕ, ◌+◌, Bool, true, false, ◌||◌, if◌then◌else◌, List, [], ◌∷◌, ◌++◌, length, Option, Some, None, option_map, refl}
use Rattle.ch_sql_grammar.specs.declared.terminal.Mark.TheVariants as mark
use Rattle.ch_sql_grammar.specs.declared.terminal.Terminal.{Terminal}
use Rattle.ch_sql_grammar.specs.declared.query.ColumnRef.{ColumnRef}
use Rattle.ch_pred.specs.declared.pred.Literal.{Literal}
use Rattle.ch_sql_grammar.specs.Tree.{Plain, Not, Select}
use Rattle.ch_sql_grammar.specs.Tokens.{has_mark, literal_in, text_in}
use Rattle.ch_sql_grammar.specs.Grammar as grammar
use Rattle.ch_sql_grammar.specs.Grammar.{Pred, conj, or, Conj, neg, and, Neg, not, parens, atom, Form}
use Rattle.ch_sql_places.specs.Machine.{Around, Member, Negated, Taker, First, Second, Leading, Place, Lead, LeadListed, Want, Listed, LikeText, have, took, depth_of, step, finish, answer}

-- what a limit looks at: a NOT or a parenthesis inside so many, a literal behind so many, the text of a pattern
pub data Check : Type 0 where
  opens : (depth : ℕ) → Check
  lists : (number : ℕ) → Check
  matches : (text : List ℕ) → Check

abbrev pub opening : ℕ → Terminal → Option Check
opening depth t = if has_mark mark.Not t || has_mark mark.LeftParen t then Some (opens depth) else None

abbrev pub check : Place → Terminal → Option Check
check (Want around) t = opening (depth_of around) t
check (Lead h) t = opening 0 t
check (Listed around col literals) t = Some (lists (length literals))
check (LeadListed h col) t = option_map (λ v. lists 0) (literal_in t)
check (LikeText around col) t = option_map matches (text_in t)
check place t = None

-- what is made of the checks, of a token that leads nowhere, and of the place where the tokens end
pub record Fold (R : Type 0) : Type 0 where
  pub on : Check → R → R
  pub stuck : R
  pub end : Place → R

abbrev pub noted : {R : Type 0} → Fold R → Option Check → R → R
noted fold None r = r
noted fold (Some c) r = fold.on c r

abbrev pub led : {R : Type 0} → Fold R → (Place → R) → Option Place → R
led fold k (Some next) = k next
led fold k None = fold.stuck

abbrev pub run : {R : Type 0} → Fold R → Place → List Terminal → R
run fold place [] = fold.end place
run fold place (t ∷ ts) = noted fold (check place t) (led fold (λ next. run fold next ts) (step place t))

-- a fold that sees of the last place only the query that it gives
pub record Settled (R : Type 0) (fold : Fold R) : Type 0 where
  pub done : Option Select → R
  pub is_done : (place : Place) → fold.end place ≡ done (finish place)

-- the checks of a derivation, in order

abbrev pub literals_on : {R : Type 0} → Fold R → ℕ → List Literal → R → R
literals_on fold n [] r = r
literals_on fold n (v ∷ vs) r = fold.on (lists n) (literals_on fold (n + 1) vs r)

abbrev pub atom_on : {R : Type 0} → Fold R → grammar.Atom → R → R
atom_on fold (grammar.compare col c s) r = r
atom_on fold (grammar.between col low high) r = r
atom_on fold (grammar.within col front last) r = literals_on fold 0 (front ++ (last ∷ [])) r
atom_on fold (grammar.like col text) r = fold.on (matches text) r

abbrev mutual
  pub pred_on : {R : Type 0} → Fold R → ℕ → Pred → R → R
  pred_on fold d (conj c) r = conj_on fold d c r
  pred_on fold d (or p c) r = pred_on fold d p (conj_on fold d c r)

  pub conj_on : {R : Type 0} → Fold R → ℕ → Conj → R → R
  conj_on fold d (neg n) r = neg_on fold d n r
  conj_on fold d (and c n) r = conj_on fold d c (neg_on fold d n r)

  pub neg_on : {R : Type 0} → Fold R → ℕ → Neg → R → R
  neg_on fold d (not n) r = fold.on (opens d) (neg_on fold (d + 1) n r)
  neg_on fold d (parens p) r = fold.on (opens d) (pred_on fold (d + 1) p r)
  neg_on fold d (atom a) r = atom_on fold a r

abbrev pub where_on : {R : Type 0} → Fold R → Option Pred → R → R
where_on fold None r = r
where_on fold (Some p) r = pred_on fold 0 p r

abbrev pub and_on : {R : Type 0} → Fold R → Option Conj → R → R
and_on fold None r = r
and_on fold (Some c) r = conj_on fold 0 c r

abbrev pub form_on : {R : Type 0} → Fold R → Form → R → R
form_on fold (grammar.distinct front last table filter) r = where_on fold filter r
form_on fold (grammar.join front last left right first_on second_on filter) r = where_on fold filter r
form_on fold (grammar.semi front last outer key inner_key inner filter) r = and_on fold filter r
form_on fold (grammar.one front last table filter ending) r = where_on fold filter r

-- behind a column no limit looks at a token

check_have : (around : Around) (p : Plain) (t : Terminal) → check (have p around) t ≡ None
check_have (Member conjs negs level) p t = refl
check_have (Negated around) p t = check_have around (Not p) t

pub check_took : (taker : Taker) (col : ColumnRef) (t : Terminal) → check (took taker col) t ≡ None
check_took (First around) col t = refl
check_took (Second around left c) col t = check_have around _ t
check_took (Leading h) col t = refl
