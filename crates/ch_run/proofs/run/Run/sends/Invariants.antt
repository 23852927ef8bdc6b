use Rattle.std.proofs.Common.{◌≡◌, ◌-◌, length}
use Rattle.ch_protocol.specs.DrainEvents.{send_events}
use Rattle.ch_run.proofs.Leading.{IsOnTheWay}
use Rattle.ch_run.proofs.run.Run.sends.Given as goal

abbrev pub invariant-loop-done : goal.invariant-loop-done
invariant-loop-done l = record {
  team : length l.self.workers.items ≡ length l.fn.self.workers.items;
  on : IsOnTheWay (l.fn.self, l.fn.notes) (l.self, l.notes) (λ c t. send_events c l.worker (l.most - l.done) t) (λ c s. send_events c l.worker l.most s);
}
