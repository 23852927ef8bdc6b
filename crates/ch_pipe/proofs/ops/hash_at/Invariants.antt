use Rattle.std.proofs.Common.{◌≡◌, drop, length}
use Rattle.ch_ir.specs.Hash.{hash_from, hash_first}
use Rattle.ch_pipe.specs.Total.{values_at, NumbersBelow}
use Rattle.ch_pipe.proofs.ops.hash_at.Given as goal

abbrev pub invariant-loop-number : goal.invariant-loop-number
invariant-loop-number l = record {
  room : NumbersBelow (length l.words) (drop l.number-index l.numbers);
  same : hash_from l.h (values_at l.words (drop l.number-index l.numbers)) ≡ hash_from (hash_first l.seed) (values_at l.words l.numbers);
}
