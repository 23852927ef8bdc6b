use Rattle.ch_trace_lines.proofs.Lines.{line_feedless}
use Rattle.ch_trace_lines.proofs.laws.lines_have_no_line_feed.Goals as goal

pub returns : goal.returns
returns c = line_feedless
