use Rattle.std.proofs.Common.{◌≡◌}
use Rattle.op_cache.specs.Emitted.{words_from}
use Rattle.op_cache.proofs.operands.words_from.Given as goal

abbrev pub invariant-loop-at : goal.invariant-loop-at
invariant-loop-at l = l.operands ≡ words_from l.to l.at
