use Rattle.std.proofs.Common.{arith}
use Rattle.ch_fold_pairs.proofs.JoinLaws.{join_size}
use Rattle.ch_fold_pairs.proofs.join.JoinFold.size.Goals as goal

pub returns : goal.returns
returns c = λ texts b rows s. omega (arith, join_size texts b rows c.args.self.now s)
