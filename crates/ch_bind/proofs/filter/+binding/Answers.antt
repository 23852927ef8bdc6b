use Rattle.std.proofs.Common.{◌≡◌, take, arith}
use Rattle.std.proofs.lemmas.Grind.{common_steps}
use Rattle.ch_bind.proofs.Filtering.{bound_members}
use Rattle.ch_bind.proofs.filter.+binding.Goals as goal

pub preds_of-returns : goal.preds_of-returns
preds_of-returns t c =
    let all : take c.loop-member.member-index c.args.members.now ≡ c.args.members.now = grind (arith, common_steps) in
    bound_members c.args.scope.now c.loop-member.preds.items c.args.members.now (rw all at c.loop-member.invariant)
