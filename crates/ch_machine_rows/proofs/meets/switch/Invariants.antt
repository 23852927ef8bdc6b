use Rattle.ch_machine_rows.specs.Takes.{TakesAWord}
use Rattle.ch_machine_rows.proofs.meets.switch.Given as goal

abbrev pub invariant-loop-call : goal.invariant-loop-call
invariant-loop-call l = TakesAWord l.switch
