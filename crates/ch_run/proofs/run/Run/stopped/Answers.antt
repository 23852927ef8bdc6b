use Rattle.std.proofs.Common.{sym, subst}
use Rattle.ch_engine.specs.Stands.{Stands}
use Rattle.ch_engine.specs.declared.engine.Engine.{Engine}
use Rattle.ch_run.proofs.run.Run.stopped.Goals as goal

pub returns : goal.returns
returns c q s r =
    let f = c.stopped.ensures in
    f q.given s (subst (λ (x : Engine). Stands q.given x s) (sym c.self.view_is) r.stands)
