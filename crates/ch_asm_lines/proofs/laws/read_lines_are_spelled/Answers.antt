use Rattle.ch_asm_lines.proofs.LineLaws.{line_is}
use Rattle.ch_asm_lines.proofs.laws.read_lines_are_spelled.Goals as goal

pub returns : goal.returns
returns c text line e = line_is text line e
