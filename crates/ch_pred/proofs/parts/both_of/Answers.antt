use Rattle.std.proofs.Common.{rules, ◌≡◌, ◌∙◌, ap, map, length, arith}
use Rattle.ch_pred.proofs.Pushed.{still, none_left, kept_parts}
use Rattle.ch_pred.specs.Part.{and_of}
use Rattle.ch_pred.specs.Plain.{plain_of}
use Rattle.ch_pred.proofs.parts.both_of.Goals as goal

pub returns : goal.returns
returns c =
    let end = c.in-None.ensures.steps in
    let none : length c.loop-part.part-iterator.rest.items ≡ 0 = first_of (grind arith, search (rules, end)) in
    let kept = none_left (map plain_of c.loop-part.kept.items) (still (map plain_of c.args.parts.items)) c.loop-part.part-iterator.rest.items none c.loop-part.invariant in
    c.and_of.ensures ∙ ap and_of (kept_parts c.args.parts.items c.loop-part.kept.items kept)
