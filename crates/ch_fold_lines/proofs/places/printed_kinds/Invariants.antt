use Rattle.std.proofs.Common.{◌≡◌, map, take}
use Rattle.ch_fold_lines.specs.Shown.{printed_kind}
use Rattle.ch_fold_lines.proofs.places.printed_kinds.Given as goal

abbrev pub invariant-loop-item : goal.invariant-loop-item
invariant-loop-item l = l.kinds ≡ map (printed_kind l.query) (take l.item-index l.item-items)
