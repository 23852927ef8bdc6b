use Rattle.std.proofs.Common.{sym, ◌∙◌}
use Rattle.ch_protocol.specs.Machine.{run, start}
use Rattle.ch_protocol.specs.DrainEvents.{drain_events}
use Rattle.ch_protocol_laws.proofs.DrainEvents.{run_append, run_drain}
use Rattle.ch_protocol_laws.proofs.Made.{drain_made}
use Rattle.ch_protocol_laws.proofs.Reached.{reached_ready}
use Rattle.ch_protocol_laws.proofs.drain_is_events.Goals as goal

pub returns-clause-same : goal.returns-clause-same
returns-clause-same _ = run_drain

pub returns-clause-made : goal.returns-clause-made
returns-clause-made _ c s some room r = drain_made c s some (reached_ready c s some room r)

pub returns-clause-schedule : goal.returns-clause-schedule
returns-clause-schedule _ c events =
    let s = run c events (start c) in
    sym (run_append c events (drain_events c s) (start c) ∙ run_drain c s)
