use Rattle.std.proofs.Common.{◌≡◌, take, arith}
use Rattle.std.proofs.lemmas.Grind.{common_steps}
use Rattle.ch_pred.proofs.Pushed.{differing_members}
use Rattle.ch_pred.proofs.parts.differs_from.Goals as goal

pub returns : goal.returns
returns c =
    let all : take c.loop-literal.literal-index c.args.literals.now ≡ c.args.literals.now = grind (arith, common_steps) in
    differing_members c.args.col c.loop-literal.parts.items c.args.literals.now (rw all at c.loop-literal.invariant)
