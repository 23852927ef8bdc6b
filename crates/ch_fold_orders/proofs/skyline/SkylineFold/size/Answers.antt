use Rattle.std.proofs.Common.{◌∙◌}
use Rattle.ch_fold_orders.proofs.SkylineLaws.{skyline_size}
use Rattle.ch_fold_orders.proofs.skyline.SkylineFold.size.Goals as goal

pub returns : goal.returns
returns c = λ texts b rows s. c.len.ensures ∙ skyline_size texts b rows c.args.self.now s
