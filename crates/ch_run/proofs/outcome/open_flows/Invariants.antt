use Rattle.std.proofs.Common.{◌≡◌}
use Rattle.ch_protocol.specs.Machine.{State}
use Rattle.ch_run.specs.Runs.{Begun, IsRunOf}
use Rattle.ch_run.proofs.Reporting.{flows_below}
use Rattle.ch_run.proofs.outcome.open_flows.Given as goal

abbrev pub invariant-loop-worker : goal.invariant-loop-worker
invariant-loop-worker l = (q : Begun) (s : State) → IsRunOf q l.engine s → l.flows.items ≡ flows_below q.given.config s l.worker
