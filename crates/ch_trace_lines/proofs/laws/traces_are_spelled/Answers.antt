use Rattle.std.proofs.Common.{refl, arith}
use Rattle.std.proofs.lemmas.Fmt.{decimal_digit}
use Rattle.ch_trace_lines.proofs.Traces.{lines_more, trace_stops}
use Rattle.ch_trace_lines.proofs.laws.traces_are_spelled.Goals as goal

pub returns-clause-more : goal.returns-clause-more
returns-clause-more c = lines_more

pub returns-clause-stopped : goal.returns-clause-stopped
returns-clause-stopped c = trace_stops

pub returns-clause-written : goal.returns-clause-written
returns-clause-written c = rw (decimal_digit 0 (omega arith)) refl
