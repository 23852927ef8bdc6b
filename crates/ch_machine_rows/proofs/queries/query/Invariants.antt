use Rattle.std.proofs.Common.{◌≡◌}
use Rattle.ch_machine_rows.specs.Takes.{TakesAWord}
use Rattle.ch_machine_rows.proofs.queries.query.Given as goal

abbrev pub invariant-loop-word : goal.invariant-loop-word
invariant-loop-word l = TakesAWord l.switch × (l.switch.program.width ≡ 6)
