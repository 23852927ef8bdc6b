use Rattle.std.proofs.Common.{◌≡◌, ◌+◌, ◌≤◌, suc, length}
use Rattle.ch_protocol.specs.Sender.{acknowledged}
use Rattle.ch_ends.specs.Bits.{has_bit}
use Rattle.ch_ends.proofs.Windows.{passing}
use Rattle.ch_ends.proofs.worker.Worker.acknowledged.Given as goal

-- those that are left to count are among the numbers from this one on
abbrev pub invariant-loop-number : goal.invariant-loop-number
invariant-loop-number l = record {
  small : l.count ≤ l.number;
  counted : acknowledged l.self-inside.rows (has_bit l.self-inside.acked) ≡ l.count + length (passing (has_bit l.self-inside.acked) l.number (suc l.self-inside.rows));
}
