use Rattle.std.proofs.Common.{false, get_or, arith}
use Rattle.ch_pred.specs.declared.bound.Dim.{Dim}
use Rattle.ch_plan.proofs.Placed.{In-at, shorter}
use Rattle.ch_plan.proofs.places.places_of.Goals as goal

none : Dim
none = record { col = record { side = 0; at = 0 }; max = false }

pub place_of-requires-clause-carried : goal.place_of-requires-clause-carried
unfolding none
place_of-requires-clause-carried c = c.requires.carried _ (In-at c.args.dims.now c.loop-dim.dim-index none c.loop-dim-test.true)

pub place_of-requires-clause-few : goal.place_of-requires-clause-few
unfolding none
place_of-requires-clause-few c = let h = shorter c.args.bound.now.carried (get_or c.args.dims.now c.loop-dim.dim-index none).col.side in let few = c.requires.few in omega arith
