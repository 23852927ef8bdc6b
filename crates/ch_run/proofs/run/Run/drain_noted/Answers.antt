use Rattle.ch_protocol.specs.DrainEvents.{drain_events}
use Rattle.ch_run.proofs.Leading.{drained}
use Rattle.ch_run.proofs.Tracing.{kept_notes, noted_drain}
use Rattle.ch_run.proofs.run.Run.drain_noted.Goals as goal

pub returns-clause-ok : goal.returns-clause-ok
returns-clause-ok c q s r = let f = c.in_ok-drain_all.ensures.ok in drained c.drain_all.new.self q s (f q s r).0

pub returns-clause-notes : goal.returns-clause-notes
returns-clause-notes c q s r some =
    let f = c.in_ok-drain_all.ensures.ok in
    noted_drain q c.args.self.now s c.unwrap.result r some
    (kept_notes q.given.config (drain_events q.given.config s) s c.new.result c.unwrap.result c.drain_all.new.notes c.new.ensures (f q s r).1 c.unwrap.ensures)
