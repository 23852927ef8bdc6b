use Rattle.std.proofs.Common.{◌≡◌, take}
use Rattle.ch_ends.specs.Worker.{acked_of}
use Rattle.ch_protocol.specs.Sender.{open_numbers}
use Rattle.ch_run.proofs.outcome.numbers_of.Given as goal

abbrev pub invariant-loop-place : goal.invariant-loop-place
invariant-loop-place l = l.numbers.items ≡ take l.place (open_numbers l.worker.next (acked_of l.worker))
