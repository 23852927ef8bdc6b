use Rattle.std.proofs.Common.{◌≡◌, ◌∙◌, Some, None, refl, sym, ap}
use Rattle.std.specs.Prelude.{slice_get}
use Rattle.std.proofs.lemmas.Option.{slice_get_read, slice_get_past}
use Rattle.ch_sql_grammar.specs.TailSteps as tails
use Rattle.ch_sql_parser.proofs.Stepping.{tail_rule, tail_end_rule, after_tail, after_tails}
use Rattle.ch_sql_parser.proofs.behind.tail_from.Goals as goal

pub returns-in-None : goal.returns-in-None
returns-in-None c = λ h filter.
    let here : slice_get c.args.tokens.now c.loop-token.next ≡ Some c.in-Some.token.now = slice_get_read _ _ _ _ refl c.in-Some.ensures.lookup.3.0 c.in-Some.ensures.lookup.1 in
    let step : tails.step_of c.loop-token.place c.in-Some.token.now ≡ None = sym c.in_ok-behind.ensures ∙ c.in-None.is in
    c.loop-token.invariant.same h filter ∙ tail_rule _ h filter _ _ _ here ∙ ap (after_tail c.args.tokens.now h filter c.loop-token.next) step

pub loop-token-preserved : goal.loop-token-preserved
loop-token-preserved c =
    let here : slice_get c.args.tokens.now c.loop-token.next ≡ Some c.in-Some.token.now = slice_get_read _ _ _ _ refl c.in-Some.ensures.lookup.3.0 c.in-Some.ensures.lookup.1 in
    let step : tails.step_of c.loop-token.place c.in-Some.token.now ≡ Some c.in-Some-2.behind = sym c.in_ok-behind.ensures ∙ c.in-Some-2.is in
    record { same = λ h filter. c.loop-token.invariant.same h filter ∙ tail_rule _ h filter _ _ _ here ∙ ap (after_tail c.args.tokens.now h filter c.loop-token.next) step }

pub returns-in-Some-3 : goal.returns-in-Some-3
returns-in-Some-3 c = λ h filter.
    let out : slice_get c.args.tokens.now c.loop-token.next ≡ None = slice_get_past _ _ c.in_default.ensures.lookup.3 in
    let end : tails.end_of c.loop-token.place ≡ Some c.in-Some-3.tail = sym c.in_ok-tail.ensures ∙ c.in-Some-3.is in
    c.loop-token.invariant.same h filter ∙ tail_end_rule _ h filter _ _ out ∙ ap (after_tails h filter c.loop-token.next) end

pub returns-in-None-2 : goal.returns-in-None-2
returns-in-None-2 c = λ h filter.
    let out : slice_get c.args.tokens.now c.loop-token.next ≡ None = slice_get_past _ _ c.in_default.ensures.lookup.3 in
    let end : tails.end_of c.loop-token.place ≡ None = sym c.in_ok-tail.ensures ∙ c.in-None-2.is in
    c.loop-token.invariant.same h filter ∙ tail_end_rule _ h filter _ _ out ∙ ap (after_tails h filter c.loop-token.next) end
