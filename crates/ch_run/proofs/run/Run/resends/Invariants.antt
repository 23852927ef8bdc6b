use Rattle.std.proofs.Common.{◌-◌, map}
use Rattle.ch_protocol.specs.Machine.Event.{Resend}
use Rattle.ch_protocol.specs.Sets.{numbers_from}
use Rattle.ch_run.proofs.Leading.{IsOnTheWay}
use Rattle.ch_run.proofs.run.Run.resends.Given as goal

abbrev pub invariant-loop-place : goal.invariant-loop-place
invariant-loop-place l = IsOnTheWay (l.fn.self, l.fn.notes) (l.self, l.notes) (λ c t. map (λ place. Resend l.worker place) (numbers_from l.place (l.count - l.place))) (λ c s. map (λ place. Resend l.worker place) (numbers_from 0 l.count))
