use Rattle.std.proofs.Common.{◌<◌, ◌∙◌, length, arith}
use Rattle.std.proofs.lemmas.Bool.Decides.{nat_tests}
use Rattle.ch_pred.proofs.Layers.{plain_of-And}
use Rattle.ch_pred.proofs.Pushed.{and_many}
use Rattle.ch_pred.proofs.parts.and_of.Goals as goal

pub returns-then-len-gt1 : goal.returns-then-len-gt1
returns-then-len-gt1 c =
    let many : 1 < length c.args.parts.items = grind (arith, nat_tests) in
    plain_of-And c.args.parts ∙ and_many c.args.parts.items many
