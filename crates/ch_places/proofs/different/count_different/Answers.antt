use Rattle.std.proofs.Common.{◌≡◌, ◌∙◌}
use Rattle.std.proofs.lemmas.Grind.{common_steps}
use Rattle.std.proofs.Common.{arith}
use Rattle.ch_places.proofs.Counted.{counted, counted_length}
use Rattle.ch_places.proofs.different.count_different.Goals as goal

pub returns : goal.returns
returns c = let all : c.loop-at.count ≡ counted c.args.cols.now = grind (arith, common_steps) in all ∙ counted_length c.args.cols.now
