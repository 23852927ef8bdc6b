use Rattle.std.proofs.Common.{◌≡◌, map, take}
use Rattle.ch_fold_groups.specs.Lines.{group_place}
use Rattle.ch_fold_groups.proofs.places.group_places.Given as goal

abbrev pub invariant-loop-item : goal.invariant-loop-item
invariant-loop-item l = l.places ≡ map (group_place l.keys) (take l.item-index l.printed)
