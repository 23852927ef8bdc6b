use Rattle.std.proofs.Common.{◌<◌, ◌-◌, length, arith}
use Rattle.std.proofs.lemmas.Bool.Decides.{nat_tests}
use Rattle.ch_lines.proofs.LineLemmas.{without_cr-cut, without_cr-kept}
use Rattle.ch_lines.proofs.line.trim_cr.Goals as goal

pub returns-then-line-last-eq13 : goal.returns-then-line-last-eq13
returns-then-line-last-eq13 c =
    let some : 0 < length c.args.line.now = grind (arith, nat_tests) in
    without_cr-cut c.args.line.now (length c.args.line.now - 1) (omega arith) c.if-line-last-eq13.true

pub returns-else-line-last-eq13 : goal.returns-else-line-last-eq13
returns-else-line-last-eq13 c =
    let some : 0 < length c.args.line.now = grind (arith, nat_tests) in
    without_cr-kept c.args.line.now (length c.args.line.now - 1) (omega arith) c.if-line-last-eq13.false
