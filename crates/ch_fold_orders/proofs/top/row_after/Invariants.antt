use Rattle.std.proofs.Common.{◌≡◌, ◌∷◌, take}
use Rattle.ch_flat.specs.Flat.{pick}
use Rattle.ch_fold_orders.proofs.top.row_after.Given as goal

abbrev pub invariant-loop-place : goal.invariant-loop-place
invariant-loop-place l = l.row.items ≡ l.first ∷ pick l.words (take l.place-index l.places)
