use Rattle.std.proofs.Common.{◌≡◌, ◌+◌, ◌++◌, drop}
use Rattle.ch_pack_laws.specs.Packed.{moved_stages}
use Rattle.ch_pack.specs.Small.{StagesSmall}
use Rattle.ch_pack.proofs.stages.push_moved.Given as goal

abbrev pub invariant-loop-stage : goal.invariant-loop-stage
invariant-loop-stage l = record {
  made : l.moved ++ moved_stages l.seat l.guard (drop l.stage-index l.stages) ≡ l.fn.moved ++ moved_stages l.seat l.fn.guard l.stages;
  guard : l.guard ≡ l.fn.guard + l.stage-index;
  left : StagesSmall l.seat (drop l.stage-index l.stages);
}
