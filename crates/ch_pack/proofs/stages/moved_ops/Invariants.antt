use Rattle.std.proofs.Common.{◌≡◌, drop, map, take}
use Rattle.ch_pack_laws.specs.Packed.{moved_op}
use Rattle.ch_pack.specs.Small.{OpsSmall}
use Rattle.ch_pack.proofs.stages.moved_ops.Given as goal

abbrev pub invariant-loop-op : goal.invariant-loop-op
invariant-loop-op l = record {
  made : l.moved ≡ map (moved_op l.seat) (take l.op-index l.ops);
  left : OpsSmall l.seat (drop l.op-index l.ops);
}
