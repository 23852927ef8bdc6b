use Rattle.std.proofs.Common.{◌≡◌, map, take}
use Rattle.ch_keys.specs.Keys.{items_of}
use Rattle.ch_fold_orders.proofs.firsts.Firsts.sorted.Given as goal

abbrev pub invariant-loop-row : goal.invariant-loop-row
invariant-loop-row l = map (λ r. r.now) l.rows.items ≡ map items_of (take l.row-index l.row-items)
