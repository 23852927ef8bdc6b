use Rattle.ch_asm_lines.proofs.LineLaws.{line_back}
use Rattle.ch_asm_lines.proofs.laws.spelled_lines_are_read.Goals as goal

pub returns : goal.returns
returns c line h = line_back line h
