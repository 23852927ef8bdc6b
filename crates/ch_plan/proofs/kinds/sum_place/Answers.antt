use Rattle.ch_plan.proofs.KeyPlans.{sides_few}
use Rattle.ch_plan.proofs.kinds.sum_place.Goals as goal

pub place_of-requires-clause-few : goal.place_of-requires-clause-few
place_of-requires-clause-few c = sides_few c.args.bound.now c.requires.few c.in-Some.col.side
