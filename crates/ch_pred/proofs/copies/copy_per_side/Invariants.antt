use Rattle.std.proofs.Common.{◌≡◌, take}
use Rattle.ch_pred.proofs.copies.copy_per_side.Given as goal

abbrev pub invariant-loop-list : goal.invariant-loop-list
invariant-loop-list g l = l.copy ≡ take l.list-index l.lists
