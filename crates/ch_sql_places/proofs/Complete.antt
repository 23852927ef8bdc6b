-- Each place can be completed.
use Rattle.std.proofs.Common.{◌≡◌, ℕ, true, false, if◌then◌else◌, List, [], ◌∷◌, ◌++◌, Option, Some, None, option_and_then, refl, sym, ap, ◌∙◌, append_assoc, append-nil}
use Rattle.ch_sql_grammar.specs.declared.terminal.Mark.{Mark}
use Rattle.ch_sql_grammar.specs.declared.terminal.Mark.TheVariants as mark
use Rattle.ch_sql_grammar.specs.declared.terminal.Terminal.{Terminal}
use Rattle.ch_sql_grammar.specs.declared.terminal.Terminal.TheVariants as terminal
use Rattle.ch_sql_grammar.specs.declared.query.ColumnRef.{ColumnRef}
use Rattle.ch_pred.specs.declared.pred.Cmp.{Cmp}
use Rattle.ch_pred.specs.declared.pred.Cmp.TheVariants as cmp
use Rattle.ch_pred.specs.declared.pred.Literal.{Literal}
use Rattle.ch_pred.specs.declared.pred.Literal.TheVariants as literal
use Rattle.ch_sql_grammar.specs.declared.query.Side.TheVariants as side
use Rattle.ch_sql_grammar.specs.Tree.{Plain, Compare, Between, Not, all_of, any_of, Select}
use Rattle.ch_sql_grammar.specs.Tokens.{has_mark}
use Rattle.ch_sql_grammar.specs.declared.head.Head.{Head}
use Rattle.ch_sql_grammar.specs.declared.head.HeadPlace.{HeadPlace}
use Rattle.ch_sql_grammar.specs.declared.head.HeadPlace.TheVariants as head
use Rattle.ch_sql_grammar.specs.declared.head.HeadTaker.{HeadTaker}
use Rattle.ch_sql_grammar.specs.declared.head.HeadTaker.TheVariants as headtaker
use Rattle.ch_sql_grammar.specs.declared.tail.TailPlace.{TailPlace}
use Rattle.ch_sql_grammar.specs.declared.tail.TailPlace.TheVariants as place
use Rattle.ch_sql_grammar.specs.declared.tail.TailTaker.{TailTaker}
use Rattle.ch_sql_grammar.specs.declared.tail.TailTaker.TheVariants as tailtaker
use Rattle.ch_sql_places.specs.Machine.{Around, Member, Negated, Level, Whole, Group, Taker, First, Second, Leading, Place, Heading, Lead, LeadCol, LeadIn, LeadListed, Want, Name, Dot, Atom, Compared, Low, LowAnd, High, In, Listed, Next, LikeText, Negs, Conjs, Closed, Tailing, have, took, step, step_settled, finish, finish_settled, answer, takes_or, after_pred}
use Rattle.ch_sql_places.specs.Completion.{closing, closing_level, head_completion, tail_completion, completion}
use Rattle.ch_sql_grammar.specs.Grammar as grammar
use Rattle.ch_sql_grammar.specs.Grammar.{Pred, conj, or, Conj, neg, and, Neg, not, parens, atom, compare, between, within, like, col_tokens, qualifier, literal_token, listed_tokens, cmp_mark, side_tokens, atom_tokens, pred_tokens, conj_tokens, neg_tokens, atom_tree, conj_trees, neg_trees, neg_tree, pred_tree, conj_tree, is_plain_item}

abbrev pub bare : List ℕ → ColumnRef
bare n = record { table = None; name = n }

-- no dot comes
abbrev pub NoDot : List Terminal → Type 0
NoDot [] = Unit {0}
NoDot (t ∷ ts) = has_mark mark.Dot t ≡ false

pub step_have : (around : Around) (p : Plain) (t : Terminal) → step (have p around) t ≡ step_settled (have p around) t
step_have (Member conjs negs level) p t = refl
step_have (Negated around) p t = step_have around (Not p) t

pub finish_have : (around : Around) (p : Plain) → finish (have p around) ≡ finish_settled (have p around)
finish_have (Member conjs negs level) p = refl
finish_have (Negated around) p = finish_have around (Not p)

pub step_took : (taker : Taker) (col : ColumnRef) (t : Terminal) → step (took taker col) t ≡ step_settled (took taker col) t
step_took (First around) col t = refl
step_took (Second around left c) col t = step_have around _ t
step_took (Leading h) col t = refl

pub finish_took : (taker : Taker) (col : ColumnRef) → finish (took taker col) ≡ finish_settled (took taker col)
finish_took (First around) col = refl
finish_took (Second around left c) col = finish_have around _
finish_took (Leading h) col = refl

pub answer_name : (taker : Taker) (n : List ℕ) (ts : List Terminal) → NoDot ts → answer (Name taker n) ts ≡ answer (took taker (bare n)) ts
answer_name taker n [] h = sym (finish_took taker (bare n))
answer_name taker n (t ∷ ts) h = ap (λ o. option_and_then (λ q. answer q ts) o)
    (ap (λ b. if b then Some (Dot taker n) else step_settled (took taker (bare n)) t) h ∙ sym (step_took taker (bare n) t))

-- every place can be completed

abbrev pub Answers : Place → List Terminal → Type 0
Answers place ts = (tree : Select) × (answer place ts ≡ Some tree)

mutual
  around_closes : (around : Around) (p : Plain) → Answers (have p around) (closing around)
  around_closes (Member conjs negs level) p = level_closes level conjs (negs ++ (p ∷ []))
  around_closes (Negated around) p = around_closes around (Not p)

  level_closes : (level : Level) (conjs negs : List Plain) → Answers (Negs conjs negs level) (closing_level level)
  level_closes (Whole h) conjs negs = (_, refl)
  level_closes (Group around) conjs negs = around_closes around (any_of (conjs ++ (all_of negs ∷ [])))

mutual
  around_no_dot : (around : Around) → NoDot (closing around)
  around_no_dot (Member conjs negs level) = level_no_dot level
  around_no_dot (Negated around) = around_no_dot around

  level_no_dot : (level : Level) → NoDot (closing_level level)
  level_no_dot (Whole h) = tt
  level_no_dot (Group around) = refl

conjs_close : (level : Level) (conjs : List Plain) → Answers (Conjs conjs level) (closing_level level)
conjs_close (Whole h) conjs = (_, refl)
conjs_close (Group around) conjs = around_closes around (any_of conjs)

closed_close : (level : Level) (p : Plain) → Answers (Closed p level) (closing_level level)
closed_close (Whole h) p = (_, refl)
closed_close (Group around) p = around_closes around p

taking_completes : (taker : HeadTaker) → Answers (Heading (head.Taking taker)) (head_completion (head.Taking taker))
taking_completes (headtaker.Item distinct items) = (_, refl)
taking_completes (headtaker.Extreme items max) = (_, refl)
taking_completes (headtaker.FirstOn items left right) = (_, refl)
taking_completes (headtaker.SecondOn items left right first_on) = (_, refl)
taking_completes (headtaker.InnerKey items outer key) = (_, refl)

name_completes : (taker : HeadTaker) (n : List ℕ) → Answers (Heading (head.Name taker n)) (head_completion (head.Name taker n))
name_completes (headtaker.Item distinct items) n = (_, refl)
name_completes (headtaker.Extreme items max) n = (_, refl)
name_completes (headtaker.FirstOn items left right) n = (_, refl)
name_completes (headtaker.SecondOn items left right first_on) n = (_, refl)
name_completes (headtaker.InnerKey items outer key) n = (_, refl)

dot_completes : (taker : HeadTaker) (n : List ℕ) → Answers (Heading (head.Dot taker n)) (head_completion (head.Dot taker n))
dot_completes (headtaker.Item distinct items) n = (_, refl)
dot_completes (headtaker.Extreme items max) n = (_, refl)
dot_completes (headtaker.FirstOn items left right) n = (_, refl)
dot_completes (headtaker.SecondOn items left right first_on) n = (_, refl)
dot_completes (headtaker.InnerKey items outer key) n = (_, refl)

head_completes : (at : HeadPlace) → Answers (Heading at) (head_completion at)
head_completes head.Start = (_, refl)
head_completes head.Select = (_, refl)
head_completes (head.Items distinct items) = (_, refl)
head_completes (head.Extreme items max) = (_, refl)
head_completes (head.Taking taker) = taking_completes taker
head_completes (head.Name taker n) = name_completes taker n
head_completes (head.Dot taker n) = dot_completes taker n
head_completes (head.Closing items max col) = (_, refl)
head_completes (head.Listing distinct items) = (_, refl)
head_completes (head.From distinct items) = (_, refl)
head_completes (head.Table distinct items table) = (_, refl)
head_completes (head.JoinTable items left) = (_, refl)
head_completes (head.On items left right) = (_, refl)
head_completes (head.Equals items left right first_on) = (_, refl)
head_completes (head.InnerFrom items outer key inner_key) = (_, refl)
head_completes (head.InnerTable items outer key inner_key) = (_, refl)
head_completes (head.InnerClose items outer key inner_key inner) = (_, refl)
head_completes (head.Whole h) = (_, refl)

tail_taking_completes : (h : Head) (filter : Option Plain) (taker : TailTaker) → Answers (Tailing h filter (place.Taking taker)) (tail_completion (place.Taking taker))
tail_taking_completes h filter tailtaker.By = (_, refl)
tail_taking_completes h filter (tailtaker.Key keys) = (_, refl)
tail_taking_completes h filter (tailtaker.Sum keys) = (_, refl)
tail_taking_completes h filter (tailtaker.Dim dims) = (_, refl)

tail_name_completes : (h : Head) (filter : Option Plain) (taker : TailTaker) (n : List ℕ) → Answers (Tailing h filter (place.Name taker n)) (tail_completion (place.Name taker n))
tail_name_completes h filter tailtaker.By n = (_, refl)
tail_name_completes h filter (tailtaker.Key keys) n = (_, refl)
tail_name_completes h filter (tailtaker.Sum keys) n = (_, refl)
tail_name_completes h filter (tailtaker.Dim dims) n = (_, refl)

tail_dot_completes : (h : Head) (filter : Option Plain) (taker : TailTaker) (n : List ℕ) → Answers (Tailing h filter (place.Dot taker n)) (tail_completion (place.Dot taker n))
tail_dot_completes h filter tailtaker.By n = (_, refl)
tail_dot_completes h filter (tailtaker.Key keys) n = (_, refl)
tail_dot_completes h filter (tailtaker.Sum keys) n = (_, refl)
tail_dot_completes h filter (tailtaker.Dim dims) n = (_, refl)

tail_completes : (h : Head) (filter : Option Plain) (at : TailPlace) → Answers (Tailing h filter at) (tail_completion at)
tail_completes h filter (place.Start begins) = (_, refl)
tail_completes h filter place.Order = (_, refl)
tail_completes h filter place.Group = (_, refl)
tail_completes h filter place.Skyline = (_, refl)
tail_completes h filter (place.Taking taker) = tail_taking_completes h filter taker
tail_completes h filter (place.Name taker n) = tail_name_completes h filter taker n
tail_completes h filter (place.Dot taker n) = tail_dot_completes h filter taker n
tail_completes h filter (place.Direction by) = (_, refl)
tail_completes h filter (place.Limit by descending) = (_, refl)
tail_completes h filter (place.LimitNumber by descending) = (_, refl)
tail_completes h filter (place.Keys keys) = (_, refl)
tail_completes h filter (place.Having keys) = (_, refl)
tail_completes h filter (place.SumOpen keys) = (_, refl)
tail_completes h filter (place.SumClose keys col) = (_, refl)
tail_completes h filter (place.CountOpen keys) = (_, refl)
tail_completes h filter (place.CountStar keys) = (_, refl)
tail_completes h filter (place.CountClose keys) = (_, refl)
tail_completes h filter (place.Above keys a) = (_, refl)
tail_completes h filter (place.AboveNumber keys a) = (_, refl)
tail_completes h filter (place.DimDirection dims col) = (_, refl)
tail_completes h filter (place.Dims dims) = (_, refl)
tail_completes h filter (place.Whole t) = (_, refl)
tail_completes h filter (place.Ended t) = (_, refl)

pub completes : (place : Place) → Answers place (completion place)
completes (Heading at) = head_completes at
completes (Lead h) = (_, refl)
completes (LeadCol h col) = (_, refl)
completes (LeadIn h col) = (_, refl)
completes (LeadListed h col) = (_, refl)
completes (Name (Leading h) n) = (_, refl)
completes (Dot (Leading h) n) = (_, refl)
completes (Tailing h filter at) = tail_completes h filter at
completes (Want around) = around_closes around _
completes (Name (First around) n) = around_closes around _
completes (Name (Second around col c) n) = let r = around_closes around (Compare col c (side.Column (bare n))) in (r.0, answer_name (Second around col c) n (closing around) (around_no_dot around) ∙ r.1)
completes (Dot (First around) n) = around_closes around _
completes (Dot (Second around col c) n) = around_closes around _
completes (Atom around col) = around_closes around _
completes (Compared around col c) = around_closes around _
completes (Low around col) = around_closes around _
completes (LowAnd around col low) = around_closes around _
completes (High around col low) = around_closes around _
completes (In around col) = around_closes around _
completes (Listed around col literals) = around_closes around _
completes (Next around col literals) = around_closes around _
completes (LikeText around col) = around_closes around _
completes (Negs conjs negs level) = level_closes level conjs negs
completes (Conjs conjs level) = conjs_close level conjs
completes (Closed p level) = closed_close level p
