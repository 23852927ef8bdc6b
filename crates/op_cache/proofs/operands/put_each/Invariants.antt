use Rattle.std.proofs.Common.{◌≡◌, take}
use Rattle.op_cache.specs.Emitted.{put_each}
use Rattle.op_cache.proofs.operands.put_each.Given as goal

abbrev pub invariant-loop-operand : goal.invariant-loop-operand
invariant-loop-operand l = l.updates ≡ put_each (take l.operand-index l.carried)
