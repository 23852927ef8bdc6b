use Rattle.std.proofs.Common.{sym, subst, ap, arith}
use Rattle.std.proofs.lemmas.Result.{on_ok_weaker}
use Rattle.ch_protocol.specs.DrainEvents.{drain_events, rounds_events}
use Rattle.ch_engine.specs.declared.engine.Engine.{Engine}
use Rattle.ch_run.specs.Runs.{IsRunOf}
use Rattle.ch_run.proofs.Leading.{makes_same}
use Rattle.ch_run.proofs.Most.{rounds_are}
use Rattle.ch_run.proofs.run.Run.drain_all.Goals as goal

pub returns-clause-ok : goal.returns-clause-ok
returns-clause-ok c =
    on_ok_weaker c.rounds.result (λ f. makes_same (c.args.self.now, c.args.notes.now) (c.rounds.new.self, c.rounds.new.notes) (λ d s. rounds_events d c.most_rounds-most.result s) (λ d s. drain_events d s) f
    (λ q s r. let h = subst (λ (x : Engine). IsRunOf q x s) (sym c.self.view_is) r in
    let g = c.all_rows.ensures.rows in
    ap (λ k. rounds_events q.given.config k s) (rounds_are q c.self.inside.engine s c.all_rows.result c.len-workers.result c.most_rounds-most.result h (g q s h) (omega (arith, c.len-workers.ensures, c.self.inside.engine.workers.ok.0)) c.most_rounds-most.ensures)))
    c.rounds.ensures.ok
