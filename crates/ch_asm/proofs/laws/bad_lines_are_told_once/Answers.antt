use Rattle.ch_asm.proofs.BadLines.{told_once}
use Rattle.ch_asm.proofs.laws.bad_lines_are_told_once.Goals as goal

pub returns : goal.returns
returns c text m n a b = told_once text m n a b
