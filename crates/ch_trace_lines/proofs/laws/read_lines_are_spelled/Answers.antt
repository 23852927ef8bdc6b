use Rattle.ch_trace_lines.proofs.Lines.{line_is}
use Rattle.ch_trace_lines.proofs.Texts.{text_is}
use Rattle.ch_trace_lines.proofs.laws.read_lines_are_spelled.Goals as goal

pub returns-clause-line : goal.returns-clause-line
returns-clause-line c = line_is

pub returns-clause-lines : goal.returns-clause-lines
returns-clause-lines c = text_is
