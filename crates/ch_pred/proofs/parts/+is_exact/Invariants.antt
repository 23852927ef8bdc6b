use Rattle.std.proofs.Common.{◌≡◌, drop, map}
use Rattle.ch_pred.specs.Part.{is_exact, all_exact}
use Rattle.ch_pred.specs.Plain.{plain_of, plains}
use Rattle.ch_pred.proofs.parts.+is_exact.Given as goal

-- the members left decide
abbrev pub invariant-loop-member : goal.invariant-loop-member
invariant-loop-member l = all_exact (plains (map plain_of (drop l.member-index l.member-items))) ≡ is_exact (plain_of l.p)
