use Rattle.std.proofs.Common.{◌≡◌, map, take, drop}
use Rattle.ch_fold_orders.proofs.top.tails.Given as goal

abbrev pub invariant-loop-row : goal.invariant-loop-row
invariant-loop-row l = map (λ r. r.now) l.tails.items ≡ map (drop 1) (map (λ r. r.now) (take l.row-index l.rows))
