use Rattle.ch_trace_laws.proofs.Drains.{trace_in_range}
use Rattle.ch_trace_laws.proofs.lines_are_in_range.Goals as goal

pub returns : goal.returns
returns c = trace_in_range
