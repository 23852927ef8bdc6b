use Rattle.std.proofs.Common.{◌≡◌, drop, length}
use Rattle.ch_ir.specs.Machine.{same_words}
use Rattle.ch_pipe.specs.Total.{values_of}
use Rattle.ch_pipe.specs.Entry.{KeyRoom}
use Rattle.ch_pipe.proofs.access.is_key.Given as goal

abbrev pub invariant-loop-at : goal.invariant-loop-at
invariant-loop-at l = record {
  room : KeyRoom (length l.words) (drop l.at l.key);
  same : same_words (drop l.at l.cells) (values_of l.words (drop l.at l.key)) ≡ same_words l.cells (values_of l.words l.key);
}
