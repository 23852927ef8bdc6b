use Rattle.std.proofs.Common.{◌≡◌, ◌∙◌, Some, None, refl, sym, ap, subst}
use Rattle.std.specs.Prelude.{slice_get}
use Rattle.std.proofs.lemmas.Option.{slice_get_read, slice_get_past}
use Rattle.ch_sql_grammar.specs.declared.head.HeadStep.{HeadStep}
use Rattle.ch_sql_grammar.specs.declared.head.HeadStep.TheVariants as headstep
use Rattle.ch_sql_grammar.specs.HeadSteps as heads
use Rattle.ch_sql_parser.proofs.Inner.{StaysInner, stays}
use Rattle.ch_sql_parser.proofs.Stepping.{head_rule, head_end_rule, after_step, after_end}
use Rattle.ch_sql_parser.proofs.heads.head_from.Goals as goal

pub returns-in-Done-clause-moves : goal.returns-in-Done-clause-moves
returns-in-Done-clause-moves c =
    let here : slice_get c.args.tokens.now c.loop-token.next ≡ Some c.in-Some.token.now = slice_get_read _ _ _ _ refl c.in-Some.ensures.lookup.3.0 c.in-Some.ensures.lookup.1 in
    let step : heads.step_of c.loop-token.place c.in-Some.token.now ≡ headstep.Done c.in-Done.head = sym c.in_ok-behind.ensures ∙ c.in-Done.is in
    c.loop-token.invariant.same ∙ head_rule _ _ _ _ here ∙ ap (after_step c.args.tokens.now c.loop-token.next) step

pub returns-in-Stuck-clause-moves : goal.returns-in-Stuck-clause-moves
returns-in-Stuck-clause-moves c =
    let here : slice_get c.args.tokens.now c.loop-token.next ≡ Some c.in-Some.token.now = slice_get_read _ _ _ _ refl c.in-Some.ensures.lookup.3.0 c.in-Some.ensures.lookup.1 in
    let step : heads.step_of c.loop-token.place c.in-Some.token.now ≡ headstep.Stuck = sym c.in_ok-behind.ensures ∙ c.in-Stuck.is in
    c.loop-token.invariant.same ∙ head_rule _ _ _ _ here ∙ ap (after_step c.args.tokens.now c.loop-token.next) step

pub loop-token-preserved : goal.loop-token-preserved
loop-token-preserved c =
    let here : slice_get c.args.tokens.now c.loop-token.next ≡ Some c.in-Some.token.now = slice_get_read _ _ _ _ refl c.in-Some.ensures.lookup.3.0 c.in-Some.ensures.lookup.1 in
    let step : heads.step_of c.loop-token.place c.in-Some.token.now ≡ headstep.On c.in-On.behind = sym c.in_ok-behind.ensures ∙ c.in-On.is in
    record {
      same = c.loop-token.invariant.same ∙ head_rule _ _ _ _ here ∙ ap (after_step c.args.tokens.now c.loop-token.next) step;
      semi = λ inner. let P : HeadStep → Type 0 = λ s. StaysInner s in subst P step (stays c.loop-token.place c.in-Some.token.now (c.loop-token.invariant.semi inner));
    }

pub returns-in-Some-head_end-clause-moves : goal.returns-in-Some-head_end-clause-moves
returns-in-Some-head_end-clause-moves c =
    let out : slice_get c.args.tokens.now c.loop-token.next ≡ None = slice_get_past _ _ c.in_default.ensures.lookup.3 in
    let end : heads.end_of c.loop-token.place ≡ Some c.in-Some-head_end.head = cc in
    c.loop-token.invariant.same ∙ head_end_rule _ _ _ out ∙ ap (after_end c.args.tokens.now c.loop-token.next) end

pub returns-in-None-clause-moves : goal.returns-in-None-clause-moves
returns-in-None-clause-moves c =
    let out : slice_get c.args.tokens.now c.loop-token.next ≡ None = slice_get_past _ _ c.in_default.ensures.lookup.3 in
    let end : heads.end_of c.loop-token.place ≡ None = cc in
    c.loop-token.invariant.same ∙ head_end_rule _ _ _ out ∙ ap (after_end c.args.tokens.now c.loop-token.next) end
