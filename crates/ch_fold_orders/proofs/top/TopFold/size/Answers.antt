use Rattle.std.proofs.Common.{◌∙◌}
use Rattle.ch_fold_orders.proofs.TopLaws.{top_size}
use Rattle.ch_fold_orders.proofs.top.TopFold.size.Goals as goal

pub returns : goal.returns
returns c = λ texts b rows s by descending limit e. c.len.ensures.count ∙ top_size texts b rows c.args.self.now s by descending limit e
