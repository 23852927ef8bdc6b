use Rattle.std.proofs.Common.{◌-◌}
use Rattle.ch_protocol.specs.DrainEvents.{rounds_events}
use Rattle.ch_run.proofs.Leading.{IsOnTheWay}
use Rattle.ch_run.proofs.run.Run.rounds.Given as goal

abbrev pub invariant-loop-done : goal.invariant-loop-done
invariant-loop-done l = IsOnTheWay (l.fn.self, l.fn.notes) (l.self, l.notes) (λ c t. rounds_events c (l.most - l.done) t) (λ c s. rounds_events c l.most s)
