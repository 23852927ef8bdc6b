use Rattle.std.proofs.Common.{◌∙◌, sym, subst, ap, length}
use Rattle.std.proofs.lemmas.Result.{IfOk-weaker}
use Rattle.ch_survival.specs.Asked.{answer_arrived}
use Rattle.ch_protocol.specs.Machine.{passes}
use Rattle.ch_protocol.specs.Received.{rows_arrived}
use Rattle.ch_engine.specs.declared.engine.Engine.{Engine}
use Rattle.ch_run.specs.Runs.{IsRunOf}
use Rattle.ch_run.proofs.run.Run.answer_len.Goals as goal

pub answer_len-requires-clause-sound : goal.answer_len-requires-clause-sound
answer_len-requires-clause-sound c = c.self.invariant.is.stands.folded.sound

pub answer_len-requires-clause-stands : goal.answer_len-requires-clause-stands
answer_len-requires-clause-stands c =
    let r = c.self.invariant in
    let g = r.begun.given.config in
    (rows_arrived g (passes g) r.state.received, r.is.stands.fold)

pub returns : goal.returns
returns c q s r =
    let x = c.self.inside.engine in
    let h = subst (λ (y : Engine). IsRunOf q y s) (sym c.self.view_is) r in
    let rows = rows_arrived q.given.config (passes q.given.config) s.received in
    IfOk-weaker c.answer_len.result _ _
    (λ len e. e ∙ (ap (λ t. length (answer_arrived t x.bound.now rows)) h.ranks_are ∙ ap (λ b. length (answer_arrived q.texts b rows)) h.bound_is))
    (c.answer_len.ensures rows h.stands.fold)
