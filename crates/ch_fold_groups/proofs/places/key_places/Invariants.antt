use Rattle.std.proofs.Common.{◌≡◌, map, take}
use Rattle.ch_fold_groups.specs.Lines.{place_of}
use Rattle.ch_fold_groups.proofs.places.key_places.Given as goal

abbrev pub invariant-loop-col : goal.invariant-loop-col
invariant-loop-col l = l.places ≡ map (place_of l.query) (take l.col-index l.keys)
