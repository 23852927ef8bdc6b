use Rattle.std.proofs.Common.{ap, arith, length}
use Rattle.cheetah_check.proofs.Misspellings.{misspelled}
use Rattle.cheetah_check.proofs.Short.{stages_within}
use Rattle.cheetah_check.proofs.verdict.judge_text.Goals as goal

pub judge-requires-clause-stages : goal.judge-requires-clause-stages
judge-requires-clause-stages c = omega (arith, (stages_within c.in-Ok.program).0, ap length c.in-Ok.ensures.read.1, c.requires)

pub judge-requires-clause-ops : goal.judge-requires-clause-ops
judge-requires-clause-ops c = omega (arith, (stages_within c.in-Ok.program).1, ap length c.in-Ok.ensures.read.1, c.requires)

pub returns-in_ok-line-in-Err-Line : goal.returns-in_ok-line-in-Err-Line
returns-in_ok-line-in-Err-Line c = rw c.refused.ensures (misspelled c.args.profile.now _ _ _ _ c.requires c.in-Err-Line.field-0-is c.in-Err-Line.ensures.refused c.in_ok-line-in-Err-Line.ensures)
