use Rattle.std.proofs.Common.{◌≡◌, drop, length}
use Rattle.ch_pipe.specs.Total.{total_ops, OpsRoom}
use Rattle.ch_pipe.proofs.ops.run_ops.Given as goal

abbrev pub invariant-loop-op : goal.invariant-loop-op
invariant-loop-op l = record {
  room : OpsRoom (length l.words) (drop l.op-index l.ops);
  same : total_ops (drop l.op-index l.ops) l.words ≡ total_ops l.ops l.fn.words;
}
