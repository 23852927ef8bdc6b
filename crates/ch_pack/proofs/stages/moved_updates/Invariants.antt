use Rattle.std.proofs.Common.{◌≡◌, drop, map, take}
use Rattle.ch_pack_laws.specs.Packed.{moved_update}
use Rattle.ch_pack.specs.Small.{UpdatesSmall}
use Rattle.ch_pack.proofs.stages.moved_updates.Given as goal

abbrev pub invariant-loop-update : goal.invariant-loop-update
invariant-loop-update l = record {
  made : l.moved ≡ map (moved_update l.seat) (take l.update-index l.updates);
  left : UpdatesSmall l.seat (drop l.update-index l.updates);
}
