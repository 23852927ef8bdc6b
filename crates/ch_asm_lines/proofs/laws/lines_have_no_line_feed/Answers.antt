use Rattle.ch_asm_lines.proofs.LineLaws.{line_inner}
use Rattle.ch_asm_lines.proofs.laws.lines_have_no_line_feed.Goals as goal

pub returns : goal.returns
returns c line h = line_inner line h
