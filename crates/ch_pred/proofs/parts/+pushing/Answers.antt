use Rattle.std.proofs.Common.{◌≡◌, take, arith}
use Rattle.std.proofs.lemmas.Grind.{common_steps}
use Rattle.ch_pred.proofs.Pushed.{pushed_members}
use Rattle.ch_pred.proofs.parts.+pushing.Goals as goal

pub all_pushed-returns : goal.all_pushed-returns
all_pushed-returns t c =
    let all : take c.loop-member.member-index c.args.members.now ≡ c.args.members.now = grind (arith, common_steps) in
    pushed_members c.args.likes c.args.side c.args.negated c.loop-member.parts.items c.args.members.now (rw all at c.loop-member.invariant)
