-- From the inner key of a semi-join on, a head is a semi-join's.
use Rattle.std.proofs.Common.{◌≡◌, ℕ, Bool, true, false, List, Option, Some, None, refl, if◌then◌else◌}
use Rattle.ch_sql_grammar.specs.declared.terminal.Mark.TheVariants as mark
use Rattle.ch_sql_grammar.specs.declared.terminal.Terminal.{Terminal}
use Rattle.ch_sql_grammar.specs.declared.query.ColumnRef.{ColumnRef}
use Rattle.ch_sql_grammar.specs.declared.query.Item.{Item}
use Rattle.ch_sql_grammar.specs.declared.head.HeadPlace.{HeadPlace}
use Rattle.ch_sql_grammar.specs.declared.head.HeadPlace.TheVariants as head
use Rattle.ch_sql_grammar.specs.declared.head.HeadStep.{HeadStep}
use Rattle.ch_sql_grammar.specs.declared.head.HeadStep.TheVariants as headstep
use Rattle.ch_sql_grammar.specs.declared.head.HeadTaker.{HeadTaker}
use Rattle.ch_sql_grammar.specs.declared.head.HeadTaker.TheVariants as taker
use Rattle.ch_sql_grammar.specs.HeadSteps.{name_given, step_of}
use Rattle.ch_sql_grammar.specs.Tokens.{has_mark, name_in}
use Rattle.ch_sql_places.specs.Machine.{is_semi}
use Rattle.ch_sql_parser.specs.Behind.{takes_inner, is_inner}

abbrev pub StaysInner : HeadStep → Type 0
StaysInner (headstep.On next) = is_inner next ≡ true
StaysInner (headstep.Done h) = is_semi h.source ≡ true
StaysInner headstep.Stuck = Unit {0}

either_stays : (b : Bool) (s r : HeadStep) → StaysInner s → StaysInner r → StaysInner (if b then s else r)
either_stays true s r p q = p
either_stays false s r p q = q

taking_stays : (t : HeadTaker) (o : Option (List ℕ)) → takes_inner t ≡ true → StaysInner (name_given (head.Taking t) o)
taking_stays t (Some n) h = h
taking_stays t None h = tt

dot_stays : (t : HeadTaker) (table : List ℕ) (o : Option (List ℕ)) → takes_inner t ≡ true → StaysInner (name_given (head.Dot t table) o)
dot_stays (taker.InnerKey items outer key) table (Some n) h = refl
dot_stays (taker.InnerKey items outer key) table None h = tt
dot_stays t table o h = cc

name_stays : (taken : HeadTaker) (n : List ℕ) (t : Terminal) → takes_inner taken ≡ true → StaysInner (step_of (head.Name taken n) t)
name_stays (taker.InnerKey items outer key) n t h = either_stays (has_mark mark.Dot t) _ _ refl (either_stays (has_mark mark.From t) _ _ refl tt)
name_stays taken n t h = cc

table_stays : (items : List Item) (outer : List ℕ) (key inner_key : ColumnRef) (o : Option (List ℕ)) → StaysInner (name_given (head.InnerTable items outer key inner_key) o)
table_stays items outer key inner_key (Some n) = refl
table_stays items outer key inner_key None = tt

pub stays : (p : HeadPlace) (t : Terminal) → is_inner p ≡ true → StaysInner (step_of p t)
stays (head.Taking taken) t h = taking_stays taken (name_in t) h
stays (head.Name taken n) t h = name_stays taken n t h
stays (head.Dot taken n) t h = dot_stays taken n (name_in t) h
stays (head.InnerFrom items outer key inner_key) t h = either_stays (has_mark mark.From t) _ _ refl tt
stays (head.InnerTable items outer key inner_key) t h = table_stays items outer key inner_key (name_in t)
stays (head.InnerClose items outer key inner_key inner) t h = either_stays (has_mark mark.RightParen t) _ _ refl tt
stays (head.Whole g) t h = h
stays p t h = cc
