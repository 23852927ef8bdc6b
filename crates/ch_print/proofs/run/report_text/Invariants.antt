use Rattle.std.proofs.Common.{◌≡◌, ◌++◌, drop, flat_map}
use Rattle.ch_print.specs.RunTexts.{flow_line}
use Rattle.ch_print.proofs.run.report_text.Given as goal

abbrev pub invariant-loop-flow : goal.invariant-loop-flow
invariant-loop-flow l = l.text.items ++ flat_map flow_line (drop l.flow-index l.flows) ≡ flat_map flow_line l.flows
