use Rattle.std.proofs.Common.{◌≡◌, List, [], ◌∷◌, ◌++◌, Err, refl}
use Rattle.std.specs.Prelude.{pos}
use Rattle.ch_sql_grammar.specs.declared.terminal.Mark.TheVariants as mark
use Rattle.ch_sql_grammar.specs.declared.terminal.Terminal.{Terminal}
use Rattle.ch_sql_grammar.specs.declared.terminal.Terminal.TheVariants as terminal
use Rattle.ch_sql_grammar.specs.declared.error.ParseError.{ParseError}
use Rattle.ch_sql_grammar.specs.declared.error.ParseError.TheVariants as error
use Rattle.ch_sql_places.specs.Machine.{parse_from, start}
use Rattle.ch_sql_places.specs.Refusal.{IsRefusal}
use Rattle.ch_sql_places.proofs.Judged.{judged}
use Rattle.ch_sql_places.proofs.Refused.{why_refused}
use Rattle.ch_sql_limits.specs.Worked.{where_these, times, in_turn, behind_sixteen, like_tokens}
use Rattle.ch_sql_limits.proofs.worked.refusals_are_worked.Goals as goal

by_places : (tokens : List Terminal) (e : ParseError) → parse_from start 0 tokens ≡ Err e → IsRefusal tokens e
by_places tokens e h = judged tokens e (why_refused tokens e h)

pub returns-clause-nots : goal.returns-clause-nots
returns-clause-nots c = by_places (where_these (times 33 mark.Not)) (error.TooDeep 37) refl

pub returns-clause-parentheses : goal.returns-clause-parentheses
returns-clause-parentheses c = by_places (where_these (times 33 mark.LeftParen)) (error.TooDeep 37) refl

pub returns-clause-in_turn : goal.returns-clause-in_turn
returns-clause-in_turn c = by_places (where_these (in_turn 17)) (error.TooDeep 37) refl

pub returns-clause-no_neg : goal.returns-clause-no_neg
returns-clause-no_neg c = by_places (where_these (in_turn 16 ++ (terminal.Mark mark.Star ∷ []))) (error.Syntax 37) refl

pub returns-clause-seventeen : goal.returns-clause-seventeen
returns-clause-seventeen c = by_places (where_these (behind_sixteen (terminal.Number (pos 0)))) (error.InTooLong 40) refl

pub returns-clause-no_literal : goal.returns-clause-no_literal
returns-clause-no_literal c = by_places (where_these (behind_sixteen (terminal.Name (97 ∷ [])))) (error.Syntax 40) refl

pub returns-clause-no_percent : goal.returns-clause-no_percent
returns-clause-no_percent c = by_places (where_these (like_tokens (120 ∷ []))) (error.BadLike 7) refl

pub returns-clause-nothing : goal.returns-clause-nothing
returns-clause-nothing c = by_places (where_these (like_tokens [])) (error.BadLike 7) refl

pub returns-clause-two_percents : goal.returns-clause-two_percents
returns-clause-two_percents c = by_places (where_these (like_tokens (37 ∷ 37 ∷ []))) (error.BadLike 7) refl

pub returns-clause-underscore : goal.returns-clause-underscore
returns-clause-underscore c = by_places (where_these (like_tokens (95 ∷ 37 ∷ []))) (error.BadLike 7) refl
