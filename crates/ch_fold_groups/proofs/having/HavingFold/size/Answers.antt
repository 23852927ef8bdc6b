use Rattle.std.proofs.Common.{◌∙◌}
use Rattle.ch_fold_groups.proofs.HavingLaws.{having_size}
use Rattle.ch_fold_groups.proofs.having.HavingFold.size.Goals as goal

pub returns : goal.returns
returns c = λ texts b rows s. c.len.ensures ∙ having_size texts b rows c.args.self.now s
