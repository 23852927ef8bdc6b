use Rattle.std.proofs.Common.{◌≡◌, take, map}
use Rattle.ch_pred.specs.Plain.{plain_of}
use Rattle.ch_pred.proofs.copies.+copying.Given as goal

abbrev pub invariant-copy_preds-loop-member : goal.invariant-copy_preds-loop-member
invariant-copy_preds-loop-member l = map plain_of l.copy.items ≡ map plain_of (take l.member-index l.members)
