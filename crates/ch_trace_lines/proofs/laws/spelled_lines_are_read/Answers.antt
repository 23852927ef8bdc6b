use Rattle.ch_trace_lines.proofs.Lines.{line_back}
use Rattle.ch_trace_lines.proofs.Texts.{text_back}
use Rattle.ch_trace_lines.proofs.laws.spelled_lines_are_read.Goals as goal

pub returns-clause-line : goal.returns-clause-line
returns-clause-line c = line_back

pub returns-clause-lines : goal.returns-clause-lines
returns-clause-lines c = text_back
