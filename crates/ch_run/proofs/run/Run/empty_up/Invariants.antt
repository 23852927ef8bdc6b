use Rattle.std.proofs.Common.{◌-◌, replicate}
use Rattle.ch_protocol.specs.Machine.Event.{Up}
use Rattle.ch_protocol.specs.Machine.How.{Take}
use Rattle.ch_run.proofs.Leading.{IsOnTheWay}
use Rattle.ch_run.proofs.run.Run.empty_up.Given as goal

abbrev pub invariant-loop-done : goal.invariant-loop-done
invariant-loop-done l = IsOnTheWay (l.fn.self, l.fn.notes) (l.self, l.notes) (λ c t. replicate (l.count - l.done) (Up 0 Take)) (λ c s. replicate l.count (Up 0 Take))
