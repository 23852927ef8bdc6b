use Rattle.cheetah_pack.proofs.Planning.{stopped_comes}
use Rattle.cheetah_pack.proofs.answering.answer_bound.Goals as goal

pub returns-in-Err-Line : goal.returns-in-Err-Line
returns-in-Err-Line c =
    let line = rw c.in-Err-Line.field-0-is at c.in-Err-Line.ensures in
    rw c.refused.ensures (stopped_comes c.args.shared.now.profile c.args.shared.now.tables c.args.bounds.now c.in-Err-Line.line line)
