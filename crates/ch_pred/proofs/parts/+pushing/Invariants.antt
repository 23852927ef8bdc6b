use Rattle.std.proofs.Common.{◌≡◌, take, map}
use Rattle.ch_pred.specs.Plain.{plain_of}
use Rattle.ch_pred.specs.Part.{pushed}
use Rattle.ch_pred.proofs.parts.+pushing.Given as goal

-- what the members so far are pushed to
abbrev pub invariant-all_pushed-loop-member : goal.invariant-all_pushed-loop-member
invariant-all_pushed-loop-member l = map plain_of l.parts.items ≡ map (λ p. pushed l.likes l.side l.negated (plain_of p)) (take l.member-index l.members)
