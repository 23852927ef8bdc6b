use Rattle.std.proofs.Common.{◌∙◌}
use Rattle.ch_fold_groups.proofs.GroupLaws.{group_size}
use Rattle.ch_fold_groups.proofs.group.GroupFold.size.Goals as goal

pub returns : goal.returns
returns c = λ texts b rows s. c.len.ensures ∙ group_size texts b rows c.args.self.now s
