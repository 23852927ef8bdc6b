use Rattle.std.proofs.Common.{◌∙◌, sym, subst, ap}
use Rattle.std.proofs.lemmas.Result.{IfOk-weaker}
use Rattle.ch_print.specs.AnswerText.{text_of}
use Rattle.ch_survival.specs.Asked.{answer_arrived}
use Rattle.ch_protocol.specs.Machine.{passes}
use Rattle.ch_protocol.specs.Received.{rows_arrived}
use Rattle.ch_engine.specs.declared.engine.Engine.{Engine}
use Rattle.ch_run.specs.Runs.{IsRunOf}
use Rattle.ch_run.proofs.run.Run.text.Goals as goal

pub text-requires-clause-sound : goal.text-requires-clause-sound
text-requires-clause-sound c = c.self.invariant.is.stands.folded.sound

pub text-requires-clause-stands : goal.text-requires-clause-stands
text-requires-clause-stands c =
    let r = c.self.invariant in
    let g = r.begun.given.config in
    (rows_arrived g (passes g) r.state.received, r.is.stands.fold)

pub returns : goal.returns
returns c q s r =
    let x = c.self.inside.engine in
    let h = subst (λ (y : Engine). IsRunOf q y s) (sym c.self.view_is) r in
    let rows = rows_arrived q.given.config (passes q.given.config) s.received in
    IfOk-weaker c.text.result _ _
    (λ text e. e
    ∙ (ap (λ t. text_of (record { header = x.bound.now.header; rows = answer_arrived t x.bound.now rows })) h.ranks_are
    ∙ ap (λ b. text_of (record { header = b.header; rows = answer_arrived q.texts b rows })) h.bound_is))
    (c.text.ensures rows h.stands.fold)
