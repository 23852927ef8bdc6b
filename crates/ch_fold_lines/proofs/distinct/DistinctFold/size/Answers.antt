use Rattle.std.proofs.Common.{◌∙◌}
use Rattle.ch_fold_lines.proofs.Ordered.{bag_length}
use Rattle.ch_fold_lines.proofs.distinct.DistinctFold.size.Goals as goal

pub returns : goal.returns
returns c = λ texts b rows s. c.len.ensures ∙ bag_length _ _ s.lines
