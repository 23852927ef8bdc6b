use Rattle.std.proofs.Common.{◌≡◌, ◌-◌, length}
use Rattle.ch_protocol.specs.DrainEvents.{turns_events}
use Rattle.ch_run.proofs.Leading.{IsOnTheWay}
use Rattle.ch_run.proofs.run.Run.turns.Given as goal

abbrev pub invariant-loop-worker : goal.invariant-loop-worker
invariant-loop-worker l = record {
  team : length l.self.workers.items ≡ length l.fn.self.workers.items;
  on : IsOnTheWay (l.fn.self, l.fn.notes) (l.self, l.notes) (λ c t. turns_events c l.worker (l.count - l.worker) t) (λ c s. turns_events c 0 l.count s);
}
