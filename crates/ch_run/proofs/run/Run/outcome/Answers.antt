use Rattle.std.proofs.Common.{◌∙◌, sym, subst}
use Rattle.ch_engine.specs.declared.engine.Engine.{Engine}
use Rattle.ch_run.specs.Runs.{IsRunOf}
use Rattle.ch_run.proofs.Reporting.{done_seen, open_seen}
use Rattle.ch_run.proofs.run.Run.outcome.Goals as goal

pub open_flows-requires : goal.open_flows-requires
open_flows-requires c = c.self.invariant

pub returns-then-stopped : goal.returns-then-stopped
returns-then-stopped c q s r =
    let h = subst (λ (y : Engine). IsRunOf q y s) (sym c.self.view_is) r in
    let st = c.stopped.ensures in
    done_seen q c.self.inside.engine s h (sym (st q s r) ∙ c.if-stopped.true)

pub returns : goal.returns
returns c q s r =
    let h = subst (λ (y : Engine). IsRunOf q y s) (sym c.self.view_is) r in
    let st = c.stopped.ensures in
    let f = c.in_ok-flows.ensures in
    open_seen q.given.config s _ (sym (st q s r) ∙ c.if-stopped.false) (f q s h)
