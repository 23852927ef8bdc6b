use Rattle.std.proofs.Common.{arith}
use Rattle.ch_fold_pairs.proofs.SemiLaws.{semi_size}
use Rattle.ch_fold_pairs.proofs.semi.SemiFold.size.Goals as goal

pub returns : goal.returns
returns c = λ texts b rows s. omega (arith, semi_size texts b rows c.args.self.now s)
