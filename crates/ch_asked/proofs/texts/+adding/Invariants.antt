use Rattle.std.proofs.Common.{◌≡◌, drop, map}
use Rattle.ch_pred.specs.Plain.{plain_of, plains}
use Rattle.ch_asked.specs.Texts.{member_texts}
use Rattle.ch_tables.specs.Texts.{with_texts}
use Rattle.ch_asked.proofs.texts.+adding.Given as goal

-- those of the members left are still to be added
abbrev pub invariant-add_members-loop-member : goal.invariant-add_members-loop-member
invariant-add_members-loop-member l = with_texts l.gathered.texts (member_texts (plains (map plain_of (drop l.member-index l.members)))) ≡ with_texts l.fn.gathered.texts (member_texts (plains (map plain_of l.members)))
