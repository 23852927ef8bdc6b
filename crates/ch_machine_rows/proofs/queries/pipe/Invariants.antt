use Rattle.std.proofs.Common.{◌≡◌}
use Rattle.ch_machine_rows.proofs.queries.pipe.Given as goal

abbrev pub invariant-loop-said : goal.invariant-loop-said
invariant-loop-said l = l.pipe.program.width ≡ 6
