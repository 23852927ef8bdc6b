use Rattle.std.proofs.Common.{◌≡◌, map, take, length}
use Rattle.ch_flat.specs.Flat.{pick}
use Rattle.ch_fold_orders.proofs.front.Front.lines.Given as goal

abbrev pub invariant-loop-row : goal.invariant-loop-row
invariant-loop-row l = l.lines ≡ record { width = length l.places; rows = map (λ s. pick s.items l.places) (take l.row-index l.row-items) }
