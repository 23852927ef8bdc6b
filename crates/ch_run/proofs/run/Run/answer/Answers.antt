use Rattle.std.proofs.Common.{◌∙◌, sym, subst, ap}
use Rattle.std.proofs.lemmas.Result.{IfOk-weaker}
use Rattle.ch_survival.specs.Asked.{answer_arrived}
use Rattle.ch_protocol.specs.Machine.{passes}
use Rattle.ch_protocol.specs.Received.{rows_arrived}
use Rattle.ch_engine.specs.declared.engine.Engine.{Engine}
use Rattle.ch_run.specs.Runs.{IsRunOf}
use Rattle.ch_run.proofs.run.Run.answer.Goals as goal

pub answer-requires-clause-sound : goal.answer-requires-clause-sound
answer-requires-clause-sound c = c.self.invariant.is.stands.folded.sound

pub answer-requires-clause-stands : goal.answer-requires-clause-stands
answer-requires-clause-stands c =
    let r = c.self.invariant in
    let g = r.begun.given.config in
    (rows_arrived g (passes g) r.state.received, r.is.stands.fold)

pub returns-clause-header : goal.returns-clause-header
returns-clause-header c q s r =
    let x = c.self.inside.engine in
    let h = subst (λ (y : Engine). IsRunOf q y s) (sym c.self.view_is) r in
    IfOk-weaker c.answer.result _ _ (λ a e. e ∙ ap (λ b. b.header) h.bound_is) c.answer.ensures.header

pub returns-clause-rows : goal.returns-clause-rows
returns-clause-rows c q s r =
    let x = c.self.inside.engine in
    let h = subst (λ (y : Engine). IsRunOf q y s) (sym c.self.view_is) r in
    let f = c.answer.ensures.rows in
    let rows = rows_arrived q.given.config (passes q.given.config) s.received in
    IfOk-weaker c.answer.result _ _ (λ a e. e ∙ (ap (λ t. answer_arrived t x.bound.now rows) h.ranks_are ∙ ap (λ b. answer_arrived q.texts b rows) h.bound_is)) (f rows h.stands.fold)
