use Rattle.std.proofs.Common.{◌≡◌, not, slice_get}
use Rattle.ch_protocol.specs.Sender.{open_at}
use Rattle.ch_ends.specs.Bits.{has_bit}
use Rattle.ch_ends.proofs.Windows.{passing}
use Rattle.ch_ends.proofs.worker.Worker.again.Given as goal

-- what is left to find is among the numbers from this one on
abbrev pub invariant-loop-number : goal.invariant-loop-number
invariant-loop-number l = open_at l.self-inside.next (has_bit l.self-inside.acked) l.k ≡ slice_get (passing (λ k. not (has_bit l.self-inside.acked k)) l.number l.self-inside.next) l.left
