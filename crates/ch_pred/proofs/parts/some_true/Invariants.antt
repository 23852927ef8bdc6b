use Rattle.std.proofs.Common.{◌≡◌, drop, map}
use Rattle.ch_pred.specs.Part.{some_true}
use Rattle.ch_pred.specs.Plain.{plain_of, plains}
use Rattle.ch_pred.proofs.parts.some_true.Given as goal

-- those left decide
abbrev pub invariant-loop-part : goal.invariant-loop-part
invariant-loop-part l = some_true (plains (map plain_of (drop l.part-index l.parts))) ≡ some_true (plains (map plain_of l.parts))
