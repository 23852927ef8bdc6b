use Rattle.std.proofs.Common.{◌-◌}
use Rattle.ch_protocol.specs.DrainEvents.{back_events}
use Rattle.ch_run.proofs.Leading.{IsOnTheWay}
use Rattle.ch_run.proofs.run.Run.empty_back.Given as goal

abbrev pub invariant-loop-done : goal.invariant-loop-done
invariant-loop-done l = IsOnTheWay (l.fn.self, l.fn.notes) (l.self, l.notes) (λ c t. back_events c (l.count - l.done) t) (λ c s. back_events c l.count s)
