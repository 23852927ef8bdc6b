use Rattle.std.proofs.Common.{◌≡◌, ◌++◌, map}
use Rattle.ch_pred.proofs.Pushed.{still}
use Rattle.ch_pred.specs.Plain.{plain_of}
use Rattle.ch_pred.proofs.parts.both_of.Given as goal

-- those kept, with those left that aren't true, are all that aren't true
abbrev pub invariant-loop-part : goal.invariant-loop-part
invariant-loop-part l = map plain_of l.kept.items ++ still (map plain_of l.part-iterator.rest.items) ≡ still (map plain_of l.fn.parts.items)
