use Rattle.std.proofs.Common.{◌≡◌, map, take}
use Rattle.ch_fold_lines.specs.Rows.{printed_place}
use Rattle.ch_fold_lines.proofs.places.printed_places.Given as goal

abbrev pub invariant-loop-item : goal.invariant-loop-item
invariant-loop-item l = l.places ≡ map (printed_place l.query) (take l.item-index l.item-items)
